use Rattle.std.proofs.Common.{◌≡◌, ◌%◌, ◌/◌, ◌^◌, eqb, ◌∙◌, sym, refl, rules, tests, arith}
use Rattle.std.proofs.lemmas.Iterator.{YieldsList-from_slice}
use Rattle.std.proofs.lemmas.Iterator.Adapters.{option_map_id}
use Rattle.std.proofs.lemmas.Iterator.Consumers.{YieldsList-from_copied, YieldsList-at}
use Rattle.std.proofs.lemmas.Iterator.Search.{find_from_yields_List}
use Rattle.vocabulary.specs.Numbers.{condition_number}
use Rattle.vocabulary.proofs.condition.Condition.lowest.Goals as goal

pub returns : goal.returns
returns c =
    let one : c.args.set / 1 ≡ c.args.set = omega arith in
    sym (option_map_id _) ∙ find_from_yields_List (λ x. eqb (c.args.set / 2 ^ condition_number x % 2) 1) _ _ c.find.result c.find.ensures.ran
    (YieldsList-from_copied (YieldsList-at c.copied.ensures.source (YieldsList-from_slice _ c.iter.ensures.rest))) (λ x b q k. search (rules, tests))
    ∙ rw one refl
