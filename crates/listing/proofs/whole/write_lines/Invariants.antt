use Rattle.files.proofs.Running.{Run}
use Rattle.listing.specs.Wholes.{line_at}
use Rattle.listing.proofs.whole.write_lines.Given as goal

abbrev pub invariant-loop-resource : goal.invariant-loop-resource
invariant-loop-resource l = Run (line_at l.answers) 32 l.initial.out l.out l.at l.resource
