use Rattle.files.specs.Placing.{entry_at_place}
use Rattle.files.proofs.Running.{Run}
use Rattle.files.proofs.file.write_entries.Given as goal

abbrev pub invariant-loop-place : goal.invariant-loop-place
invariant-loop-place g l = Run (entry_at_place (g.S.Slots.holding l.slots)) 1138 l.initial.out l.out l.at l.place
