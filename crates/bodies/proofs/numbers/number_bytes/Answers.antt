use Rattle.std.proofs.Common.{ap, ◌∙◌, w32, to_z, of_z}
use Rattle.std.proofs.lemmas.Int.{to_z-of_z}
use Rattle.bodies.specs.Numbers.{number, word_bytes}
use Rattle.bodies.proofs.numbers.number_bytes.Goals as goal

pub returns : goal.returns
unfolding number
returns c =
    let signed = to_z-of_z w32 c.args.z c.ranges.z in
    let is = c.cast_unsigned.ensures ∙ ap (of_z w32) signed in
    record { value = c.word_bytes.ensures.value ∙ ap word_bytes is; back = ap (to_z w32) (c.word_bytes.ensures.back ∙ is) ∙ signed }
