use Rattle.std.proofs.Common.{length, ap, arith, length-drop, length-take}
use Rattle.files.specs.Placing.{entry_at_place}
use Rattle.files.proofs.Running.{run_start, run_fits, run_step}
use Rattle.files.proofs.Drawn.{slot_there, entry_there}
use Rattle.files.proofs.file.write_entries.Goals as goal

pub loop-place-init : goal.loop-place-init
loop-place-init g c = run_start (entry_at_place (g.S.Slots.holding c.args.slots.now)) 1138 _ c.requires

pub slot-requires : goal.slot-requires
slot-requires g c = slot_there _ c.loop-place.place c.head_at-head.ensures c.loop-place-test.true

pub write_slot-at-requires-clause-room : goal.write_slot-at-requires-clause-room
write_slot-at-requires-clause-room g c =
    let fits = run_fits c.loop-place.invariant c.loop-place-test.true in
    let one = ap length (entry_there _ c.loop-place.place c.head_at-head.ensures (g.S.Slots.holding c.args.slots.now) _ c.slot.ensures.bytes) in
    simp (length-take, length-drop) (omega arith)

pub loop-place-preserved : goal.loop-place-preserved
loop-place-preserved g c =
    run_step c.loop-place.invariant _ (entry_there _ c.loop-place.place c.head_at-head.ensures (g.S.Slots.holding c.args.slots.now) _ c.slot.ensures.bytes) _ c.write_slot-at.ensures.bytes _ c.write_slot-at.ensures.len
