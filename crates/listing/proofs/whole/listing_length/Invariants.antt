use Rattle.std.proofs.Common.{◌≡◌, ◌*◌, ◌≤◌, length}
use Rattle.ledger.specs.Views.{joined_below}
use Rattle.listing.specs.Wholes.{line_at}
use Rattle.listing.proofs.whole.listing_length.Given as goal

abbrev pub invariant-loop-answer : goal.invariant-loop-answer
invariant-loop-answer l = (l.sum ≡ length (joined_below l.answer-index (line_at l.answers))) × (l.sum ≤ 53 * l.answer-index)
