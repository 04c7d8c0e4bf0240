use Rattle.std.proofs.Common.{replicate, None, refl, ap, ◌∙◌}
use Rattle.vocabulary.specs.declared.resource.Resource.{Resource}
use Rattle.ledger.specs.Views.{slots_from}
use Rattle.table.specs.Ranges.{terms_ranged, ranged}
use Rattle.table.specs.Tables.{table_holds, slots_of}
use Rattle.table.proofs.Empties.{table_empty}
use Rattle.table.proofs.Keeping.{every_same, empty_ranged}
use Rattle.table.proofs.hour.Table.empty.Goals as goal

pub returns-clause-slots : goal.returns-clause-slots
unfolding slots_of
returns-clause-slots c = ap (λ (r : Resource). slots_from (table_holds (replicate 50 None) (replicate 32 r))) c.empty.ensures ∙ table_empty

pub returns-clause-ranged : goal.returns-clause-ranged
returns-clause-ranged c = record { whole = refl; terms = every_same terms_ranged 50 None refl; records = every_same ranged 32 c.empty.result (ap ranged c.empty.ensures ∙ empty_ranged) }
