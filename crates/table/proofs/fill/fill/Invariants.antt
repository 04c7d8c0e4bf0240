use Rattle.std.proofs.Common.{◌-◌, length}
use Rattle.table.specs.Ranges.{AllRanged}
use Rattle.table.specs.Tables.{slots_of}
use Rattle.table.proofs.Filling.{Left}
use Rattle.table.proofs.fill.fill.Given as goal

abbrev pub invariant-walk : goal.invariant-walk
invariant-walk l = record {
  left : Left l.file (slots_of l.initial.table) (slots_of l.table) l.cursor;
  ranged : AllRanged l.initial.table → AllRanged l.table;
}

abbrev pub decreases-walk : goal.decreases-walk
decreases-walk l = length l.initial.file - l.cursor.at
