-- Scripts in bytes: calls one behind the other, each a number and then its arguments.
use Rattle.std.specs.Prelude.{ℕ, ◌+◌, cond, List, [], ◌∷◌, length, take, drop, Some, None, Ok, Err, Option, Result, ◌==◌, nat_le}
use Rattle.std.specs.Borrow.{Bor}
use Rattle.bodies.specs.Numbers.{word}
use Rattle.bodies.specs.Faults.{fault_number}
use Rattle.bodies.specs.declared.fault.Fault.{Fault}
use Rattle.entries.specs.Entries.{head}
use Rattle.ledger.specs.Ledger.{Act, posted, cleared, loaded, closed}
use Rattle.histories.specs.declared.call.Call.{Call}
use Rattle.histories.specs.Acts.{act_of}

-- the bytes whose number stands in the first four, and what is behind them
abbrev pub part : List ℕ → Option (List ℕ × List ℕ)
part bs = cond (nat_le (4 + word bs) (length bs)) (Some (take (word bs) (drop 4 bs), drop (4 + word bs) bs)) None

-- a call with those bytes; fault 1 where they are cut short
abbrev pub with_part : (List ℕ → Act) → Option (List ℕ × List ℕ) → Result (Option (Act × List ℕ)) ℕ
with_part call None = Err 1
with_part call (Some p) = Ok (Some (call p.0, p.1))

-- a call that names a slot by three bytes
abbrev pub with_head : List ℕ → Result (Option (Act × List ℕ)) ℕ
with_head (kind ∷ first ∷ sub ∷ rest) = Ok (Some (cleared (head kind first sub), rest))
with_head bs = Err 1

-- the call that a script begins with, and the script behind it, or the number of a fault: 1 post, 2 load, 3 clear, 4 close
abbrev pub first_call : List ℕ → Result (Option (Act × List ℕ)) ℕ
first_call [] = Ok None
first_call (kind ∷ rest) =
    cond (kind == 1) (with_part posted (part rest)) (
    cond (kind == 2) (with_part loaded (part rest)) (
    cond (kind == 3) (with_head rest) (
    cond (kind == 4) (Ok (Some (closed, rest))) (Err 3))))

-- what is answered, as the plain ledger is told it
abbrev pub said : Result (Option (Call × Bor (List ℕ))) Fault → Result (Option (Act × List ℕ)) ℕ
said (Ok None) = Ok None
said (Ok (Some p)) = Ok (Some (act_of p.0, p.1.now))
said (Err fault) = Err (fault_number fault)
