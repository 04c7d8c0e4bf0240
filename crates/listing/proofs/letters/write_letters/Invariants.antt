use Rattle.std.proofs.Common.{◌+◌}
use Rattle.listing.proofs.Lettering.{Lettered}
use Rattle.listing.proofs.letters.write_letters.Given as goal

abbrev pub invariant-loop-i : goal.invariant-loop-i
invariant-loop-i l = Lettered l.verdicts l.initial.out l.out (l.i + 1) l.i
