-- What a book lists and answers by the rows of its table, whatever their numbers.
use Rattle.std.specs.Prelude.{◌≡◌, ℕ, ◌<◌, ◌≤◌, List, Ok, Err, Result}
use Rattle.bodies.specs.declared.fault.Fault.TheVariants.{Slot}
use Rattle.bodies.specs.declared.fault.Refusal.{Refusal}
use Rattle.vocabulary.specs.Readings.{lines_of}
use Rattle.charges.specs.Findings.{Meanings}
use Rattle.charges.specs.Tables.{owns_of}
use Rattle.answers.specs.declared.answer.Answer.{Answer}
use Rattle.answers.specs.Answers.{answer, listed}
use Rattle.ledger.specs.Listing.{line_if}
use Rattle.ledger.specs.Views.{joined_below}
use Rattle.table.specs.declared.hour.Table.{Table}

-- the lines of the resources with a standing, rising
abbrev pub listing_rows : Meanings → Table → List ℕ
listing_rows m t = joined_below 32 (λ resource. line_if resource (listed m (lines_of t.lines) (owns_of t.resources) resource))

-- the record holds what the rules find of the resource, or stays where there is no such resource
pub record AskedRows (m : Meanings) (t : Table) (resource : ℕ) (before after : Answer) (r : Result Unit Refusal) : Type 0 where
  pub found : resource < 32 → (r ≡ Ok tt) × (after ≡ answer m (lines_of t.lines) (owns_of t.resources) resource)
  pub absent : 32 ≤ resource → (r ≡ Err (record { fault = Slot; place = 0 })) × (after ≡ before)
