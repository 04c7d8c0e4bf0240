use Rattle.std.proofs.Common.{length, sym, ap, arith}
use Rattle.files.specs.Placing.{entry_at_place}
use Rattle.files.proofs.Running.{joined_none, length_more}
use Rattle.files.proofs.Drawn.{slot_there, entry_there}
use Rattle.files.proofs.file.entries_length.Goals as goal

pub loop-place-init : goal.loop-place-init
loop-place-init g c = (ap length (sym (joined_none (entry_at_place (g.S.Slots.holding c.args.slots.now)))), omega arith)

pub slot-requires : goal.slot-requires
slot-requires g c = slot_there _ c.loop-place.place c.head_at-head.ensures c.loop-place-test.true

pub loop-place-preserved : goal.loop-place-preserved
loop-place-preserved g c =
    let holding = g.S.Slots.holding c.args.slots.now in
    let more = length_more (entry_at_place holding) c.loop-place.place in
    let one = ap length (entry_there _ c.loop-place.place c.head_at-head.ensures holding _ c.slot.ensures.bytes) in
    (omega arith, omega arith)
