use Rattle.std.proofs.Common.{◌≡◌, ◌+◌, drop, ap, ◌∙◌, arith, get_or-drop, rules}
use Rattle.bodies.specs.Numbers.{word, word_bytes}
use Rattle.bodies.proofs.Bytes.{word_again_at}
use Rattle.bodies.proofs.numbers.read_word.Goals as goal

pub returns : goal.returns
unfolding word
returns c =
    let at = c.args.at in
    let byte = c.type_inv.bytes in
    let value : c.from_be_bytes.result ≡ word (drop at c.args.bytes.now) = search (rules, get_or-drop) in
    record {
      value = value;
      again = ap word_bytes value ∙ word_again_at c.args.bytes.now at c.requires
          (omega (arith, byte at)) (omega (arith, byte (at + 1))) (omega (arith, byte (at + 2))) (omega (arith, byte (at + 3)));
    }
