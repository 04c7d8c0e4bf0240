use Rattle.std.proofs.Common.{◌≡◌, ◌+◌, ◌≤◌, drop}
use Rattle.curves.specs.Curves.{steps_of}
use Rattle.kinds.specs.Conduct.{failed_widths}
use Rattle.kinds.proofs.curve_kind.Curves.failed_widths.Given as goal

-- the sum so far and what is left make the whole, which is small
abbrev pub invariant-loop-step : goal.invariant-loop-step
invariant-loop-step g l =
    let widths = failed_widths (g.B.Bound.meaning l.self.bound l.line) (steps_of l.reference) in
    (l.sum + widths l.before (drop l.step-index l.step-items) ≡ widths 0 l.step-items) × (widths 0 l.step-items ≤ 100000)
