-- When a scenario agrees, and what is told where it does not.
use Rattle.std.specs.Prelude.{◌≡◌, ℕ, List, [], ◌∷◌, Ok, Err, Result}
use Rattle.charges.specs.Findings.{Meanings}
use Rattle.entries.specs.Files.{told, no_fault}
use Rattle.entries.specs.Table.{kinds}
use Rattle.ledger.specs.Ledger.{loaded, empty, fault}
use Rattle.ledger.specs.Slots.{Slots}
use Rattle.histories.specs.declared.document.Document.{Document}
use Rattle.histories.specs.declared.document.Document.TheVariants.{Entries, Mitigated, Listing}
use Rattle.histories.specs.Documents.{drawn}
use Rattle.histories.specs.Histories.{slots_after}
use Rattle.scenarios.specs.declared.compare.Expected.{Expected}
use Rattle.scenarios.specs.declared.outcome.Disagreement.{Disagreement}
use Rattle.scenarios.specs.declared.outcome.Disagreement.TheVariants.{Unread, Refused, Differs}

abbrev pub expected_of : Document → Expected → List ℕ
expected_of Entries e = e.entries.now
expected_of Listing e = e.listing.now
expected_of Mitigated e = e.mitigated.now

-- a file of an hour with these slots is as expected
abbrev pub AsExpected : Meanings → Slots → Expected → Document → Type 0
AsExpected m s e d = drawn d m s ≡ expected_of d e

abbrev pub FirstDifference : Meanings → Slots → Expected → Result Unit Document → Type 0
FirstDifference m s e (Ok _) = (d : Document) → AsExpected m s e d
FirstDifference m s e (Err d) = AsExpected m s e d → ⊥

-- what an empty hour holds after the scenario's entries were loaded
abbrev pub slots_of_scenario : Expected → Slots
slots_of_scenario e = slots_after (loaded e.entries.now ∷ [])

-- all files as expected, the file that is not, or the refusal of the entries
abbrev pub Compared : Meanings → Expected → Result Unit Disagreement → Type 0
Compared m e (Ok _) = (fault kinds (empty kinds) (loaded e.entries.now) ≡ no_fault) × ((d : Document) → AsExpected m (slots_of_scenario e) e d)
Compared m e (Err (Differs d)) = AsExpected m (slots_of_scenario e) e d → ⊥
Compared m e (Err (Refused refusal)) = told (Err refusal) ≡ fault kinds (empty kinds) (loaded e.entries.now)
Compared m e (Err (Unread d)) = ⊥
