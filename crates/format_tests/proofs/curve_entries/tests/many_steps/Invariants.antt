use Rattle.std.proofs.Common.{◌≡◌, length}
use Rattle.format_tests.proofs.curve_entries.tests.many_steps.Given as goal

abbrev pub invariant-loop-k : goal.invariant-loop-k
invariant-loop-k l = length l.bytes ≡ 173
