-- The file of what the slots hold, and a buffer that it is written into.
use Rattle.std.specs.Prelude.{◌≡◌, ℕ, ◌+◌, ◌<◌, ◌≤◌, List, ◌++◌, length, take, drop, Ok, Err, Result}
use Rattle.bodies.specs.declared.fault.Fault.TheVariants.{Room}
use Rattle.bodies.specs.declared.fault.Refusal.{Refusal}
use Rattle.entries.specs.Table.{kinds}
use Rattle.ledger.specs.Slots.{entry_file, head_at, entry_of}
use Rattle.ledger.specs.Views.{Holding, slots_from, joined_below}

-- the entry at a place
abbrev pub entry_at_place : Holding → ℕ → List ℕ
entry_at_place holding i = entry_of (head_at kinds i) (holding (head_at kinds i))

-- the entries of all places
abbrev pub all_entries : Holding → List ℕ
all_entries holding = joined_below 1138 (entry_at_place holding)

unfoldable pub file_of : Holding → List ℕ
file_of holding = entry_file kinds (slots_from holding)

-- with room, the file stands at its place and every other byte stays; without, the whole buffer stays
pub record Written (place : ℕ) (file before after : List ℕ) (answer : Result ℕ Refusal) : Type 0 where
  pub written :
      place + length file ≤ length before
      → (answer ≡ Ok (length file)) × (after ≡ take place before ++ (file ++ drop (place + length file) before))
  pub refused : length before < place + length file → (answer ≡ Err (record { fault = Room; place = 0 })) × (after ≡ before)
