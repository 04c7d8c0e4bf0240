use Rattle.std.proofs.Common.{◌-◌, length}
use Rattle.entries.specs.Table.{kinds}
use Rattle.entries.proofs.Walking.{Walked}
use Rattle.entries.proofs.reader.check_file.Given as goal

abbrev pub invariant-loop-entry : goal.invariant-loop-entry
invariant-loop-entry l = Walked kinds l.file l.cursor

abbrev pub decreases-loop-entry : goal.decreases-loop-entry
decreases-loop-entry l = length l.file - l.cursor.at
