-- The plain ledger that a book stands for.
use Rattle.std.specs.Prelude.{Bool}
use Rattle.ledger.specs.Ledger.{Ledger}
use Rattle.table.specs.declared.hour.Table.{Table}
use Rattle.table.specs.Tables.{slots_of}

abbrev pub ledger_of : Table → Bool → Ledger
ledger_of table is_open = record { slots = slots_of table; open_hour = is_open }
