use Rattle.std.proofs.Common.{ap, ◌∙◌, w32, SFits, to_z, rules}
use Rattle.std.proofs.lemmas.Int.{to_z-of_z, of_z-to_z}
use Rattle.bodies.specs.Numbers.{number, word_bytes, number_bytes}
use Rattle.bodies.proofs.amounts.whole_number.Goals as goal

pub returns : goal.returns
unfolding number
returns c =
    let read = c.in_ok-whole_word.ensures in
    let f : SFits w32 c.cast_signed.result = search rules in
    let is = to_z-of_z w32 c.cast_signed.result f ∙ c.cast_signed.ensures in
    (read.0, (is ∙ ap (to_z w32) read.1.0, ap number_bytes is ∙ ap word_bytes (of_z-to_z w32 c.in_ok-whole_word.field-0 (search rules)) ∙ read.1.1))
