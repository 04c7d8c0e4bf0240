use Rattle.std.proofs.Common.{◌≡◌, ◌*◌, ◌≤◌, length}
use Rattle.ledger.specs.Views.{joined_below}
use Rattle.files.specs.Placing.{entry_at_place}
use Rattle.files.proofs.file.entries_length.Given as goal

abbrev pub invariant-loop-place : goal.invariant-loop-place
invariant-loop-place g l = (l.sum ≡ length (joined_below l.place (entry_at_place (g.S.Slots.holding l.slots)))) × (l.sum ≤ 165 * l.place)
