use Rattle.std.proofs.Common.{◌≡◌, length}
use Rattle.hourbook_c.proofs.script.replay.Given as goal

abbrev pub invariant-loop-call : goal.invariant-loop-call
invariant-loop-call g l = length l.script ≡ 0 → (length l.rest ≡ 0) × (l.book ≡ l.initial.book)

abbrev pub decreases-loop-call : goal.decreases-loop-call
decreases-loop-call g l = length l.rest
