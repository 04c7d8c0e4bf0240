-- The number of each fault, and what a reading answers.
use Rattle.std.specs.Prelude.{◌≡◌, ℕ, Ok, Err, Result}
use Rattle.bodies.specs.declared.fault.Fault.{Fault}
use Rattle.bodies.specs.declared.fault.Fault.TheVariants.{Short, Mark, Kind, Slot, Length, Range, Order, Room, Closed, Empty}

abbrev pub fault_number : Fault → ℕ
fault_number Short = 1
fault_number Mark = 2
fault_number Kind = 3
fault_number Slot = 4
fault_number Length = 5
fault_number Range = 6
fault_number Order = 7
fault_number Room = 8
fault_number Closed = 21
fault_number Empty = 22

-- of a check: 0 where it passes
abbrev pub fault_of : Result Unit Fault → ℕ
fault_of (Ok _) = 0
fault_of (Err fault) = fault_number fault

-- bytes with this fault, or 0, are refused for it, or give a value of which P holds
abbrev pub Reads : {A : Type 0} → ℕ → (A → Type 0) → Result A Fault → Type 0
Reads n P (Ok value) = (n ≡ 0) × P value
Reads n P (Err fault) = fault_number fault ≡ n
