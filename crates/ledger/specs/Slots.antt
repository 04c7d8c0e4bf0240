-- The slots of an hour in file order: which head names which, how a file fills them, and the file drawn from them.
use Rattle.std.specs.Prelude.{◌≡◌, ℕ, zero, suc, ◌+◌, cond, List, [], ◌∷◌, ◌++◌, length, drop, Some, None, Option, ◌==◌, slice_index_or, slice_set}
use Rattle.entries.specs.Sections.{Section, total, head_from, place_from}
use Rattle.entries.specs.declared.head.Head.{Head}
use Rattle.entries.specs.Files.{entry_bytes, head_of, body_of, entry_length, mark, body_fault}

-- each slot holds the bytes of its body, or is empty
abbrev pub Slots : Type 0
Slots = List (Option (List ℕ))

-- the entry of a slot, which an empty one has not
abbrev pub entry_of : Head → Option (List ℕ) → List ℕ
entry_of h None = []
entry_of h (Some body) = entry_bytes h body

module _ (table : List Section) where
  -- the head of the slot at place i, and the place of the slot that a head names
  abbrev pub head_at : ℕ → Head
  head_at i = head_from 1 table i

  abbrev pub place : Head → ℕ
  place h = place_from 1 table h

  -- the slot that the entry at the front of bs names, filled
  abbrev pub put : List ℕ → Slots → Slots
  put bs s = slice_set s (place (head_of bs)) (Some (body_of bs))

  -- the entries of bs filled in turn; `most` is no less than their number
  unfoldable pub filled : ℕ → List ℕ → Slots → Slots
  filled zero bs s = s
  filled (suc most) bs s = cond (length bs == 0) s (filled most (drop (entry_length bs) bs) (put bs s))

  -- the entries of a file filled in turn
  abbrev pub load : List ℕ → Slots → Slots
  load file s = filled (length file) (drop 5 file) s

  abbrev pub entry : ℕ → Option (List ℕ) → List ℕ
  entry i o = entry_of (head_at i) o

  -- the entries of slots that begin at place i
  unfoldable pub entries_from : ℕ → Slots → List ℕ
  entries_from i [] = []
  entries_from i (o ∷ rest) = entry i o ++ entries_from (i + 1) rest

  abbrev pub entry_file : Slots → List ℕ
  entry_file s = mark ++ entries_from 0 s

  -- the fault of what the slot of a head holds
  abbrev pub content_fault : Head → Option (List ℕ) → ℕ
  content_fault h None = 0
  content_fault h (Some body) = body_fault table h body

  -- every slot is there, and what it holds has no fault
  pub record WellFormed (s : Slots) : Type 0 where
    pub count : length s ≡ total table
    pub fits : (i : ℕ) → content_fault (head_at i) (slice_index_or s i None) ≡ 0
