-- What the slots of a table hold once its offers are mitigated, by what its rows say.
use Rattle.std.specs.Prelude.{cond, ◌==◌, slice_index_or}
use Rattle.vocabulary.specs.Empty.{no_resource}
use Rattle.vocabulary.specs.Orders.{parameter_at}
use Rattle.vocabulary.specs.Readings.{own_of, lines_of}
use Rattle.charges.specs.Findings.{Meanings}
use Rattle.ledger.specs.Mitigation.{mitigated_bytes}
use Rattle.ledger.specs.Views.{Holding}
use Rattle.table.specs.declared.hour.Table.{Table}
use Rattle.table.specs.Tables.{table_holds}

-- offers are of kind 3; every other slot stays
abbrev pub mitigated_rows : Meanings → Table → Holding
mitigated_rows m t h =
    cond (h.kind == 3) (mitigated_bytes m (lines_of t.lines) (own_of (slice_index_or t.resources h.first no_resource)) (parameter_at h.sub))
    (table_holds t.lines t.resources h)
