use Rattle.std.proofs.Common.{Some, refl, ap, ◌∙◌, arith}
use Rattle.files.proofs.Contents.{curve_sound, curve_length}
use Rattle.files.proofs.entry.write_slot.Goals as goal

pub write_curve-requires : goal.write_curve-requires
write_curve-requires c =
    let is = c.in-Some.is ∙ ap Some c.in-Curve.is in
    let few = curve_sound c.args.slot _ c.in-Curve.row is c.requires.sound in
    let long = curve_length c.args.slot _ c.in-Curve.row is (omega arith) _ refl in
    (few, omega arith)

pub returns-in-Curve-clause-len : goal.returns-in-Curve-clause-len
returns-in-Curve-clause-len c =
    let is = c.in-Some.is ∙ ap Some c.in-Curve.is in
    let few = curve_sound c.args.slot _ c.in-Curve.row is c.requires.sound in
    curve_length c.args.slot _ c.in-Curve.row is (omega arith) _ c.write_curve.ensures.len
