use Rattle.std.proofs.Common.{ap, ◌∙◌, w32, SFits, to_z, rules}
use Rattle.std.proofs.lemmas.Int.{to_z-of_z, of_z-to_z}
use Rattle.bodies.specs.Numbers.{number, word_bytes, number_bytes}
use Rattle.bodies.proofs.numbers.read_number.Goals as goal

pub returns : goal.returns
unfolding number
returns c =
    let f : SFits w32 c.cast_signed.result = search rules in
    let is = to_z-of_z w32 c.cast_signed.result f ∙ c.cast_signed.ensures in
    record {
      value = is ∙ ap (to_z w32) c.read_word.ensures.value;
      again = ap number_bytes is ∙ ap word_bytes (of_z-to_z w32 c.read_word.result c.read_word.type_inv) ∙ c.read_word.ensures.again;
    }
