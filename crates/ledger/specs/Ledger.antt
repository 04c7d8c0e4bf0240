-- The plain ledger of a list of calls, which is told their arguments alone.
use Rattle.std.specs.Prelude.{ℕ, Bool, true, false, cond, List, [], ◌∷◌, replicate, is_some, None, Option, ◌==◌, slice_index_or, slice_set}
use Rattle.entries.specs.Sections.{Section, total}
use Rattle.entries.specs.declared.head.Head.{Head}
use Rattle.entries.specs.Files.{Told, first_fault, head_fault, post_fault, file_fault}
use Rattle.ledger.specs.Slots.{Slots, place, put, load}

-- a call with its arguments
pub data Act : Type 0 where
  posted : List ℕ → Act
  cleared : Head → Act
  loaded : List ℕ → Act
  closed : Act

pub record Ledger : Type 0 where
  pub slots : Slots
  pub open_hour : Bool

-- fault 21: the hour is closed
abbrev pub hour_fault : Ledger → ℕ
hour_fault l = cond l.open_hour 0 21

-- fault 22: there is nothing to clear
abbrev pub empty_fault : Option (List ℕ) → ℕ
empty_fault o = cond (is_some o) 0 22

-- a fault that lies in no entry of a file
abbrev pub without_place : ℕ → Told
without_place n = record { number = n; place = 0 }

module _ (table : List Section) where
  unfoldable pub nothing : Slots
  nothing = replicate (total table) None

  abbrev pub empty : Ledger
  empty = record { slots = nothing; open_hour = true }

  -- the first fault of a call, with its place
  abbrev pub fault : Ledger → Act → Told
  fault l (posted bs) = without_place (first_fault (post_fault table bs) (hour_fault l))
  fault l (cleared h) =
      without_place (first_fault (head_fault table h) (first_fault (hour_fault l) (empty_fault (slice_index_or l.slots (place table h) None))))
  fault l (loaded file) = cond ((file_fault table file).number == 0) (without_place (hour_fault l)) (file_fault table file)
  fault l closed = without_place (hour_fault l)

  -- what a call does where it has no fault
  abbrev pub obeyed : Ledger → Act → Ledger
  obeyed l (posted bs) = record { slots = put table bs l.slots; open_hour = l.open_hour }
  obeyed l (cleared h) = record { slots = slice_set l.slots (place table h) None; open_hour = l.open_hour }
  obeyed l (loaded file) = record { slots = load table file l.slots; open_hour = l.open_hour }
  obeyed l closed = record { slots = l.slots; open_hour = false }

  -- a call with a fault changes nothing
  abbrev pub step : Ledger → Act → Ledger
  step l a = cond ((fault l a).number == 0) (obeyed l a) l

  abbrev pub run : Ledger → List Act → Ledger
  run l [] = l
  run l (a ∷ rest) = run (step l a) rest

  abbrev pub ledger : List Act → Ledger
  ledger acts = run empty acts
