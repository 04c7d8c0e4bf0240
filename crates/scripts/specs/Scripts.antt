-- Scripts: lines that are calls.
use Rattle.std.specs.Borrow.{Bor}
use Rattle.std.specs.Prelude.{◌≡◌, ℕ, ◌+◌, ◌<◌, ◌≤◌, true, cond, List, [], ◌∷◌, map, length, take, IfSome, Some, None, Ok, Err, vec_items, Option, Result, slice_index_or}
use Rattle.std.specs.Option.{option_map}
use Rattle.scripts.specs.Texts.{lines_of}
use Rattle.scripts.specs.Commands.{Order, post, load, clear, close, ask, entries, mitigated, listing, is, command_of}
use Rattle.scripts.specs.Ranges.{taken_from, within}
use Rattle.scripts.specs.declared.scripted.Scripted.{Scripted}
use Rattle.histories.specs.declared.call.Call.{Call}
use Rattle.scripts.specs.declared.script.Script.{Script}
use Rattle.scripts.specs.declared.fault.Fault.{Fault}
use Rattle.scripts.specs.declared.fault.Fault.TheVariants.{NoCall, Memory}

-- the commands that are calls
abbrev pub if_call : Option Order → Option Order
if_call None = None
if_call (Some (post bytes)) = Some (post bytes)
if_call (Some (load file)) = Some (load file)
if_call (Some (clear kind first sub)) = Some (clear kind first sub)
if_call (Some close) = Some close
if_call (Some (ask resource)) = None
if_call (Some entries) = None
if_call (Some mitigated) = None
if_call (Some listing) = None

abbrev pub call_of : List ℕ → Option Order
call_of line = if_call (command_of line)

-- a call in front of others; where it is none, the number of its line
abbrev pub in_front : Option Order → ℕ → Result (List Order) ℕ → Result (List Order) ℕ
in_front None number rest = Err number
in_front (Some call) number (Ok calls) = Ok (call ∷ calls)
in_front (Some call) number (Err later) = Err later

-- the calls of lines, or the number of the first that is none, where `above` lines stand above them
abbrev pub calls_from : ℕ → List (List ℕ) → Result (List Order) ℕ
calls_from above [] = Ok []
calls_from above (line ∷ more) = in_front (call_of line) (above + 1) (calls_from (above + 1) more)

-- a line read as a call, whose bytes go behind those of a store
pub record ReadCall (line was store : List ℕ) (call : Option Scripted) : Type 0 where
  pub says : option_map (taken_from store) call ≡ call_of line
  pub inside : IfSome call (λ one. within (length store) one ≡ true)
  pub kept : take (length was) store ≡ was

-- the calls that a script holds
abbrev pub calls_in : Script → List Order
calls_in script = map (taken_from (vec_items script.bytes)) (vec_items script.calls)

-- a call with its bytes
abbrev pub said_by : Call → Order
said_by (Call.Post bytes) = post bytes.now
said_by (Call.Load file) = load file.now
said_by (Call.Clear kind first sub) = clear kind first sub
said_by Call.Close = close

-- the call at an index, none behind the last
abbrev pub At : List Order → ℕ → Option Call → Type 0
At calls index None = length calls ≤ index
At calls index (Some call) = (index < length calls) × (said_by call ≡ slice_index_or calls index close)

-- what reading a text gives
abbrev pub Reads : ℕ → List ℕ → Result Script Fault → Type 0
Reads above text (Ok script) = calls_from above (lines_of text) ≡ Ok (calls_in script)
Reads above text (Err (NoCall number)) = calls_from above (lines_of text) ≡ Err number
Reads above text (Err Memory) = Unit {0}

-- a line in front of those above a parting
abbrev pub under : List ℕ → Option (List (List ℕ) × List (List ℕ)) → Option (List (List ℕ) × List (List ℕ))
under line None = None
under line (Some parts) = Some (line ∷ parts.0, parts.1)

-- the lines above the first that is `--`, and those below it
abbrev pub parted : List (List ℕ) → Option (List (List ℕ) × List (List ℕ))
parted [] = None
parted (line ∷ more) = cond (is line "--") (Some ([], more)) (under line (parted more))

-- a text parted there, with how many lines stand above the second part
abbrev pub Parts : List ℕ → Option (Bor (List ℕ) × Bor (List ℕ) × ℕ) → Type 0
Parts text None = parted (lines_of text) ≡ None
Parts text (Some p) =
    (parted (lines_of text) ≡ Some (lines_of p.0.now, lines_of p.1.now))
    × (p.2 ≡ length (lines_of p.0.now) + 1)
    × (p.2 + length p.1.now ≤ length text)

-- the calls of both parts, or the number of the first line that is none
abbrev pub both : Result (List Order) ℕ → Result (List Order) ℕ → Result (Option (List Order × List Order)) ℕ
both (Err number) second = Err number
both (Ok calls) (Err number) = Err number
both (Ok calls) (Ok others) = Ok (Some (calls, others))

abbrev pub calls_of_parts : Option (List (List ℕ) × List (List ℕ)) → Result (Option (List Order × List Order)) ℕ
calls_of_parts None = Ok None
calls_of_parts (Some parts) = both (calls_from 0 parts.0) (calls_from (length parts.0 + 1) parts.1)

-- what reading a text of two scripts gives; none where no line parts it
abbrev pub ReadsPair : List ℕ → Result (Option (Script × Script)) Fault → Type 0
ReadsPair text (Ok None) = calls_of_parts (parted (lines_of text)) ≡ Ok None
ReadsPair text (Ok (Some scripts)) = calls_of_parts (parted (lines_of text)) ≡ Ok (Some (calls_in scripts.0, calls_in scripts.1))
ReadsPair text (Err (NoCall number)) = calls_of_parts (parted (lines_of text)) ≡ Err number
ReadsPair text (Err Memory) = Unit {0}
