-- Entries in a file and by themselves: their parts, the first fault with its place, and what reading on gives.
use Rattle.std.specs.Prelude.{◌≡◌, ℕ, zero, suc, ◌+◌, ◌/◌, ◌%◌, ◌<◌, ◌≤◌, Bool, cond, ◌&&◌, List, [], ◌∷◌, length, take, drop, Some, None, Ok, Err, Option, Result, ◌==◌, nat_lt, slice_index}
use Rattle.bodies.specs.Numbers.{size}
use Rattle.bodies.specs.Faults.{fault_number}
use Rattle.entries.specs.Sections.{Section, head_fault_from, body_fault_from}
use Rattle.entries.specs.declared.head.Head.{Head}
use Rattle.entries.specs.Entries.{Raw, head, raw, raw_of}
use Rattle.entries.specs.declared.cursor.Cursor.{Cursor}
use Rattle.entries.specs.declared.entry.Entry.{Entry}
use Rattle.bodies.specs.declared.fault.Refusal.{Refusal}

-- the bytes of a head, where the body has n bytes, and of an entry
abbrev pub head_bytes : Head → ℕ → List ℕ
head_bytes h n = h.kind ∷ h.first ∷ h.sub ∷ (n / 256) ∷ (n % 256) ∷ []

abbrev pub entry_bytes : Head → List ℕ → List ℕ
entry_bytes h body = h.kind ∷ h.first ∷ h.sub ∷ (length body / 256) ∷ (length body % 256) ∷ body

-- the parts of the entry that begins bs; a byte that is not there reads 0
abbrev pub head_of : List ℕ → Head
head_of bs = head (slice_index bs 0) (slice_index bs 1) (slice_index bs 2)

abbrev pub entry_length : List ℕ → ℕ
entry_length bs = 5 + size (drop 3 bs)

abbrev pub body_of : List ℕ → List ℕ
body_of bs = take (size (drop 3 bs)) (drop 5 bs)

-- the entry that begins bs, which stand at this place
abbrev pub entry_at : ℕ → List ℕ → Raw
entry_at place bs = raw (head_of bs) (body_of bs) place

-- the entries in bs, which stand at this place; `most` is no less than their number
unfoldable pub entries_in : ℕ → ℕ → List ℕ → List Raw
entries_in zero place bs = []
entries_in (suc most) place bs =
    cond (length bs == 0) [] (entry_at place bs ∷ entries_in most (place + entry_length bs) (drop (entry_length bs) bs))

-- those that a cursor has before it, and all of a file
abbrev pub entries_left : List ℕ → Cursor → List Raw
entries_left file c = entries_in (length file) c.at (drop c.at file)

abbrev pub entries_of : List ℕ → List Raw
entries_of file = entries_in (length file) 5 (drop 5 file)

-- fault 1: the head or the body is cut short
abbrev pub short : List ℕ → ℕ
short bs = cond (nat_lt (length bs) (entry_length bs)) 1 0

-- fault 5: something follows the body
abbrev pub followed : List ℕ → ℕ
followed bs = cond (nat_lt (entry_length bs) (length bs)) 5 0

-- the fault of the first of two checks, else of the second
abbrev pub first_fault : ℕ → ℕ → ℕ
first_fault a b = cond (a == 0) b a

-- the letters MPM, then version 1
abbrev pub mark : List ℕ
mark = 77 ∷ 80 ∷ 77 ∷ 0 ∷ 1 ∷ []

abbrev pub is_marked : List ℕ → Bool
is_marked bs =
    (slice_index bs 0 == 77) && (slice_index bs 1 == 80 && (slice_index bs 2 == 77 && (slice_index bs 3 == 0 && slice_index bs 4 == 1)))

-- faults 1 and 2 of the first five bytes
abbrev pub mark_fault : List ℕ → ℕ
mark_fault bs = cond (nat_lt (length bs) 5) 1 (cond (is_marked bs) 0 2)

-- a fault's number, 0 for none, and the place that is told with it
pub record Told : Type 0 where
  pub number : ℕ
  pub place : ℕ

abbrev pub no_fault : Told
no_fault = record { number = 0; place = 0 }

abbrev pub told : Result Unit Refusal → Told
told (Ok _) = no_fault
told (Err r) = record { number = fault_number r.fault; place = r.place }

module _ (table : List Section) where
  abbrev pub head_fault : Head → ℕ
  head_fault h = head_fault_from 1 table h

  abbrev pub body_fault : Head → List ℕ → ℕ
  body_fault h body = body_fault_from 1 table h body

  -- faults 1 and 3 to 7 of the entry that begins bs, where `extra` is a fault 5 of what surrounds it
  abbrev pub checks : ℕ → List ℕ → ℕ
  checks extra bs = first_fault (short bs) (first_fault (head_fault (head_of bs)) (first_fault extra (body_fault (head_of bs) (body_of bs))))

  abbrev pub entry_fault : List ℕ → ℕ
  entry_fault bs = checks 0 bs

  -- a posted entry stands alone
  abbrev pub post_fault : List ℕ → ℕ
  post_fault bs = checks (followed bs) bs

  -- the first fault of the entries in bs, which stand at this place; `most` is no less than their number
  unfoldable pub entries_fault : ℕ → ℕ → List ℕ → Told
  entries_fault zero place bs = no_fault
  entries_fault (suc most) place bs =
      cond (length bs == 0) no_fault (
      cond (entry_fault bs == 0) (entries_fault most (place + entry_length bs) (drop (entry_length bs) bs)) (
      record { number = entry_fault bs; place = place }))

  abbrev pub file_fault : List ℕ → Told
  file_fault bs = cond (mark_fault bs == 0) (entries_fault (length bs) 5 (drop 5 bs)) (record { number = mark_fault bs; place = 0 })

  -- at the end, none; else the head of the next entry and the place past it, or its fault where it is cut short
  abbrev pub Ahead : List ℕ → Cursor → Result (Option (Head × ℕ)) Refusal → Type 0
  Ahead file c (Ok None) = c.at ≡ length file
  Ahead file c (Ok (Some (h, past))) =
      (c.at < length file) × (h ≡ head_of (drop c.at file)) × (past ≡ c.at + entry_length (drop c.at file)) × (past ≤ length file)
  Ahead file c (Err r) = (c.at < length file) × (told (Err r) ≡ record { number = entry_fault (drop c.at file); place = c.at })

  -- the end, the next entry, or its fault; the cursor goes past an entry that has none, and else stays
  abbrev pub Next : List ℕ → Cursor → Cursor → Result (Option Entry) Refusal → Type 0
  Next file c c' (Ok None) = (c.at ≡ length file) × (c' ≡ c) × (entries_left file c ≡ [])
  Next file c c' (Ok (Some e)) =
      (c.at < length file)
      × (entry_fault (drop c.at file) ≡ 0)
      × (raw_of e ≡ entry_at c.at (drop c.at file))
      × (c' ≡ record { at = c.at + entry_length (drop c.at file); limit = c.end; end = c.end })
      × (entries_left file c ≡ raw_of e ∷ entries_left file c')
  Next file c c' (Err r) =
      (c.at < length file)
      × (told (Err r) ≡ record { number = entry_fault (drop c.at file); place = c.at })
      × (c' ≡ c)

-- the cursor stands between two entries of the file
pub record Between (c : Cursor) (file : List ℕ) : Type 0 where
  pub within : c.at ≤ c.end
  pub limit : c.limit ≡ c.end
  pub end : c.end ≡ length file
