use Rattle.std.proofs.Common.{refl, arith, length-drop, length-take}
use Rattle.files.proofs.Running.{run_start, run_fits, run_step}
use Rattle.listing.specs.Wholes.{line_at}
use Rattle.listing.proofs.whole.write_lines.Goals as goal

pub loop-resource-init : goal.loop-resource-init
loop-resource-init c = run_start (line_at c.args.answers.now) 32 _ c.requires.room

pub write_if-at-requires-clause-room : goal.write_if-at-requires-clause-room
write_if-at-requires-clause-room c =
    let fits = run_fits c.loop-resource.invariant c.loop-resource-test.true in
    simp (length-take, length-drop) (omega arith)

pub loop-resource-preserved : goal.loop-resource-preserved
loop-resource-preserved c = run_step c.loop-resource.invariant _ refl _ c.write_if-at.ensures.bytes _ c.write_if-at.ensures.len
