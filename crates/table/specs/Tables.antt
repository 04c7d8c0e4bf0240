-- The slots of a table.
use Rattle.std.specs.Prelude.{◌+◌, ◌*◌, cond, List, None, Option, ◌==◌, slice_index_or}
use Rattle.std.specs.Option.{option_map}
use Rattle.vocabulary.specs.declared.lines.Terms.{Terms}
use Rattle.vocabulary.specs.declared.resource.Resource.{Resource}
use Rattle.vocabulary.specs.Empty.{no_resource}
use Rattle.bodies.specs.Bodies.{terms_bytes}
use Rattle.ledger.specs.Slots.{Slots}
use Rattle.ledger.specs.Views.{Holding, slots_from}
use Rattle.table.specs.declared.hour.Table.{Table}
use Rattle.table.specs.Holding.{holds}

-- lines by condition and test, every other slot by its resource
abbrev pub table_holds : List (Option Terms) → List Resource → Holding
table_holds lines resources h =
    cond (h.kind == 1) (option_map terms_bytes (slice_index_or lines (10 * h.first + h.sub) None))
    (holds (slice_index_or resources h.first no_resource) h.kind h.sub)

unfoldable pub slots_of : Table → Slots
slots_of t = slots_from (table_holds t.lines t.resources)
