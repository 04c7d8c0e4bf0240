-- Slots by sections, one for each kind: heads, places in file order, and the faults of a head and a body.
use Rattle.std.specs.Prelude.{ℕ, ◌+◌, ◌-◌, ◌*◌, ◌/◌, ◌%◌, cond, ◌&&◌, List, [], ◌∷◌, ◌==◌, nat_lt}
use Rattle.entries.specs.declared.head.Head.{Head}

-- the numbers of firsts and of subs, and the fault, 5 to 7, or 0, of a body by its sub
pub record Section : Type 0 where
  pub firsts : ℕ
  pub subs : ℕ
  pub fault : ℕ → List ℕ → ℕ

-- how many slots a section has, and a list of them
abbrev pub width : Section → ℕ
width s = s.firsts * s.subs

abbrev pub total : List Section → ℕ
total [] = 0
total (s ∷ rest) = width s + total rest

-- in each of these, k is the kind of the first section
abbrev pub head_from : ℕ → List Section → ℕ → Head
head_from k [] place = record { kind = k; first = 0; sub = 0 }
head_from k (s ∷ rest) place =
    cond (nat_lt place (width s)) (record { kind = k; first = place / s.subs; sub = place % s.subs }) (head_from (k + 1) rest (place - width s))

abbrev pub place_from : ℕ → List Section → Head → ℕ
place_from k [] h = 0
place_from k (s ∷ rest) h = cond (h.kind == k) (h.first * s.subs + h.sub) (width s + place_from (k + 1) rest h)

-- fault 3, no such kind, or 4, no such slot of the kind
abbrev pub head_fault_from : ℕ → List Section → Head → ℕ
head_fault_from k [] h = 3
head_fault_from k (s ∷ rest) h =
    cond (h.kind == k) (cond (nat_lt h.first s.firsts && nat_lt h.sub s.subs) 0 4) (head_fault_from (k + 1) rest h)

abbrev pub body_fault_from : ℕ → List Section → Head → List ℕ → ℕ
body_fault_from k [] h body = 0
body_fault_from k (s ∷ rest) h body = cond (h.kind == k) (s.fault h.sub body) (body_fault_from (k + 1) rest h body)
