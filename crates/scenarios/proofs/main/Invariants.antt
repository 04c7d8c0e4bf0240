use Rattle.std.proofs.Common.{◌≤◌}
use Rattle.scenarios.proofs.main.Given as goal

abbrev pub invariant-loop-scenario : goal.invariant-loop-scenario
invariant-loop-scenario l = l.agreed ≤ l.scenario-index
