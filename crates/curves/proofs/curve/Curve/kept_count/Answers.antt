use Rattle.std.proofs.Common.{◌-◌, ltb, take, ◌∙◌, arith, rules, tests}
use Rattle.std.proofs.lemmas.Iterator.{YieldsList-from_slice}
use Rattle.std.proofs.lemmas.Iterator.Consumers.{count_from_yields_List}
use Rattle.std.proofs.lemmas.Iterator.Search.{YieldsList-from_take_while}
use Rattle.curves.proofs.Walks.{kept_front}
use Rattle.curves.proofs.curve.Curve.kept_count.Goals as goal

pub returns-clause-count : goal.returns-clause-count
returns-clause-count c =
    let all = c.args.self.now in
    count_from_yields_List c.take_while.result _ c.count.ensures.ran
    (YieldsList-from_take_while _ (λ s. ltb s.end c.args.quantity) (YieldsList-from_slice (take (all.count - 1) all.steps) cc) c.take_while.ensures.closure c.take_while.ensures.done (λ x b q k. search (rules, tests)))
    ∙ kept_front _ all.steps all.count all.some (omega arith)
