use Rattle.std.proofs.Common.{◌≡◌, ◌/◌, length, sym, ap, ◌∙◌, arith}
use Rattle.std.proofs.lemmas.Bool.Decides.{nat_tests}
use Rattle.std.specs.List.{list_all}
use Rattle.scripts.specs.Digits.{both_digits}
use Rattle.scripts.proofs.Pairs.{pairs_are_hex, odd_is_not}
use Rattle.scripts.proofs.hex.is_hex.Goals as goal

pub returns-then-is_empty : goal.returns-then-is_empty
returns-then-is_empty c =
    let text = c.args.text.now in
    let none : length c.as_chunks.result.1.now ≡ 0 = grind (arith, nat_tests) in
    c.are_pairs.ensures ∙ ap (list_all both_digits) c.as_chunks.ensures.front ∙ pairs_are_hex (length text / 2) text (omega arith)

pub returns-else-is_empty : goal.returns-else-is_empty
returns-else-is_empty c =
    let text = c.args.text.now in
    let some : length c.as_chunks.result.1.now ≡ 1 = grind (arith, nat_tests) in
    c.if-is_empty.false ∙ sym (odd_is_not (length text / 2) text (omega arith))
