use Rattle.std.proofs.Common.{◌++◌, ap, ◌∙◌, arith, w32, SFits, rules}
use Rattle.std.proofs.lemmas.Int.{to_z-of_z}
use Rattle.bodies.specs.Numbers.{number_bytes}
use Rattle.bodies.proofs.Wholes.{three_words}
use Rattle.bodies.proofs.lines.read_line.Goals as goal

pub returns-then-in_range : goal.returns-then-in_range
returns-then-in_range c =
    let percent = c.read_word.ensures in
    let limit = c.read_word-2.ensures in
    let floor = c.read_number.ensures in
    let f : SFits w32 c.read_number.result = search rules in
    let signed = to_z-of_z w32 c.read_number.result f in (
      search rules,
      (
        (λ i. record { percent = percent.value i; «cap» = limit.value i; floor = (signed ∙ floor.value) i }),
        (λ i. percent.again i ++ (limit.again i ++ (ap number_bytes signed ∙ floor.again) i)) ∙ three_words c.args.body.now (omega arith),
      ),
    )
