-- The file of what the slots hold is the mark and the entries of all places.
use Rattle.std.proofs.Common.{◌≡◌, ℕ, ◌+◌, ◌<◌, List, ◌++◌, length, sym, ap, ◌∙◌, zero-add, length-append}
use mathlib.Core.Path.{fun_ext}
use Rattle.entries.specs.Files.{mark, head_fault}
use Rattle.entries.specs.declared.head.Head.{Head}
use Rattle.entries.specs.Table.{kinds}
use Rattle.ledger.specs.Slots.{entry, entries_from, head_at, entry_of}
use Rattle.ledger.specs.Views.{Holding, tabulated, slots_from, joined_below}
use Rattle.ledger.proofs.Drawing.{by_sections}
use Rattle.ledger.proofs.Laws.{places}
use Rattle.files.specs.Placing.{entry_at_place, all_entries, file_of}

entries_drawn : (n : ℕ) (f : Holding) → entries_from kinds 0 (tabulated n (λ i. f (head_at kinds i))) ≡ joined_below n (entry_at_place f)
entries_drawn n f =
    by_sections.by_place 0 n (λ i. f (head_at kinds i))
    ∙ ap (joined_below n) (fun_ext (λ j. ap (λ i. entry kinds i (f (head_at kinds j))) (zero-add j)))

pub file_drawn : (f : Holding) → mark ++ all_entries f ≡ file_of f
unfolding file_of slots_from
file_drawn f = ap (λ bs. mark ++ bs) (sym (entries_drawn 1138 f))

-- a head that is the one at a place names a slot, and its entry stands there
module _ (h : Head) (i : ℕ) (is : h ≡ head_at kinds i) where
  pub slot_there : i < 1138 → head_fault kinds h ≡ 0
  slot_there lt = ap (head_fault kinds) is ∙ places.exists i lt

  pub entry_there : (f : Holding) (bs : List ℕ) → bs ≡ entry_of h (f h) → bs ≡ entry_at_place f i
  entry_there f bs e = e ∙ ap (λ g. entry_of g (f g)) is

pub file_length : (f : Holding) → length (file_of f) ≡ 5 + length (all_entries f)
file_length f = ap length (sym (file_drawn f)) ∙ length-append mark (all_entries f)
