-- The laws of slots, entry files and ledgers.
use Rattle.std.specs.Prelude.{◌≡◌, ℕ, ◌+◌, ◌<◌, ◌≤◌, true, List, ◌++◌, length, Some, None, Option, slice_index_or, slice_set}
use Rattle.entries.specs.Sections.{total}
use Rattle.entries.specs.declared.head.Head.{Head}
use Rattle.entries.specs.Files.{entry_bytes, mark, no_fault, head_fault, file_fault}
use Rattle.entries.specs.Table.{kinds}
use Rattle.ledger.specs.Slots.{Slots, head_at, place, load, entry_of, entry, entries_from, entry_file, WellFormed}
use Rattle.ledger.specs.Views.{tabulated, joined_below, Holding, slots_from, Elsewhere, by_heads}
use Rattle.ledger.specs.Ledger.{Act, loaded, nothing, empty, fault, step, ledger}

-- 1,138 slots, each with a head of its own, and no other head names one
pub record Places : Type 0 where
  pub count : total kinds ≡ 1138
  pub placed : (i : ℕ) → i < 1138 → place kinds (head_at kinds i) ≡ i
  pub exists : (i : ℕ) → i < 1138 → head_fault kinds (head_at kinds i) ≡ 0
  pub within : (h : Head) → head_fault kinds h ≡ 0 → place kinds h < 1138
  pub named : (h : Head) → head_fault kinds h ≡ 0 → head_at kinds (place kinds h) ≡ h

-- whatever is called, the slots are well formed
abbrev pub Reached : Type 0
Reached = (acts : List Act) → WellFormed kinds (ledger kinds acts).slots

-- the file of these slots has no fault, and the empty ledger takes it and then holds them
pub record Reloaded (s : Slots) : Type 0 where
  pub taken : file_fault kinds (entry_file kinds s) ≡ no_fault
  pub same : load kinds (entry_file kinds s) (nothing kinds) ≡ s
  pub obeyed : fault kinds (empty kinds) (loaded (entry_file kinds s)) ≡ no_fault
  pub ledgered : step kinds (empty kinds) (loaded (entry_file kinds s)) ≡ record { slots = s; open_hour = true }

abbrev pub Reloads : Type 0
Reloads = (s : Slots) → WellFormed kinds s → Reloaded s

-- equal files have equal slots
abbrev pub Injective : Type 0
Injective =
    (a b : List Act) → entry_file kinds (ledger kinds a).slots ≡ entry_file kinds (ledger kinds b).slots
    → (ledger kinds a).slots ≡ (ledger kinds b).slots

-- no file is longer than 31,319 bytes
abbrev pub Bounded : Type 0
Bounded = (s : Slots) → WellFormed kinds s → length (entry_file kinds s) ≤ 31319

-- the entries of two lists in turn, of a list given place by place, of a slot that a head names, and of all sections
pub record BySections : Type 0 where
  pub appended : (i : ℕ) (a b : Slots) → entries_from kinds i (a ++ b) ≡ entries_from kinds i a ++ entries_from kinds (i + length a) b
  pub by_place : (i n : ℕ) (f : ℕ → Option (List ℕ)) → entries_from kinds i (tabulated n f) ≡ joined_below n (λ j. entry kinds (i + j) (f j))
  pub named : (h : Head) (body : List ℕ) → head_fault kinds h ≡ 0 → entry kinds (place kinds h) (Some body) ≡ entry_bytes h body
  pub drawn : (f : Holding) → entry_file kinds (slots_from f) ≡ mark ++ by_heads 1 kinds (λ h. entry_of h (f h))

-- slots given by what each head holds: none held, and one held anew
pub record Views : Type 0 where
  pub count : (f : Holding) → length (slots_from f) ≡ 1138
  pub read : (f : Holding) (h : Head) → head_fault kinds h ≡ 0 → slice_index_or (slots_from f) (place kinds h) None ≡ f h
  pub empty : (f : Holding) → ((h : Head) → head_fault kinds h ≡ 0 → f h ≡ None) → slots_from f ≡ nothing kinds
  pub changed : (f g : Holding) (h : Head) → head_fault kinds h ≡ 0 → Elsewhere h f g → slots_from g ≡ slice_set (slots_from f) (place kinds h) (g h)
