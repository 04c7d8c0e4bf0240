use Rattle.std.proofs.Common.{◌<◌, length, sym, refl, ap, ◌∙◌, arith}
use Rattle.std.proofs.lemmas.List.{nil_from_length, take_rest, drop_all}
use Rattle.std.proofs.lemmas.Bool.{eqb-true, eqb-false}
use Rattle.scripts.specs.Texts.{lines_of}
use Rattle.scripts.proofs.Cutting.{first_line, lines_by, behind_short}
use Rattle.scripts.proofs.texts.split_line.Goals as goal

pub returns-then-is_empty : goal.returns-then-is_empty
returns-then-is_empty c =
    let long = eqb-true (length c.args.text.now) 0 (sym c.if-is_empty.ensures) in
    let none = nil_from_length c.args.text.now long in
    record { parts = none; lines = ap lines_of none; shorter = long }

pub returns : goal.returns
returns c =
    let text = c.args.text.now in
    let ne = eqb-false (length text) 0 (sym c.if-is_empty.ensures) in
    let some : 0 < length c.args.text.now = omega arith in
    let none = take_rest text (length text) ∙ drop_all (length text) text (omega arith) in
    let cut = first_line text c.split_at_first.result _ refl none c.split_at_first.ensures.test c.split_at_first.ensures.parts in
    let long = ap length cut.3 in
    let less = behind_short 10 text some in
    rw (c.or.ensures ∙ cut.1) (record { parts = (cut.2, cut.3); lines = lines_by text _ _ some cut.2 cut.3; shorter = omega arith })
