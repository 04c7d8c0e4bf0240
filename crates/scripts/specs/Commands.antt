-- Which command a line is.
use Rattle.std.specs.Prelude.{ℕ, Bool, cond, List, [], ◌∷◌, Some, None, codes, Option}
use Prim.Native.String.{String}
use Rattle.std.specs.Option.{option_map}
use Rattle.std.specs.Str.{bytes_eq}
use Rattle.scripts.specs.Texts.{words_of}
use Rattle.scripts.specs.Digits.{is_hex, hex_bytes, decimal_byte}
use Rattle.scripts.specs.declared.command.Command.{Command}
use Rattle.scripts.specs.declared.command.Command.TheVariants.{Post, Load, Clear, Close, Ask, Entries, Mitigated, Listing}

-- a command with the bytes and numbers that it says
pub data Order : Type 0 where
  post : List ℕ → Order
  load : List ℕ → Order
  clear : ℕ → ℕ → ℕ → Order
  close : Order
  ask : ℕ → Order
  entries : Order
  mitigated : Order
  listing : Order

abbrev pub order_of : Command → Order
order_of (Post digits) = post (hex_bytes digits.now)
order_of (Load digits) = load (hex_bytes digits.now)
order_of (Clear kind first sub) = clear kind first sub
order_of Close = close
order_of (Ask resource) = ask resource
order_of Entries = entries
order_of Mitigated = mitigated
order_of Listing = listing

abbrev pub is : List ℕ → String → Bool
is word name = bytes_eq word (codes name)

-- a name by itself; `post` and `load` then have no bytes
abbrev pub alone : List ℕ → Option Order
alone name =
    cond (is name "post") (Some (post [])) (
    cond (is name "load") (Some (load [])) (
    cond (is name "close") (Some close) (
    cond (is name "entries") (Some entries) (
    cond (is name "mitigated") (Some mitigated) (
    cond (is name "listing") (Some listing) None)))))

-- a name and one word behind it, which is hex, maybe of no digits, or a number
abbrev pub with_one : List ℕ → List ℕ → Option Order
with_one name word =
    cond (is name "post") (cond (is_hex word) (Some (post (hex_bytes word))) None) (
    cond (is name "load") (cond (is_hex word) (Some (load (hex_bytes word))) None) (
    cond (is name "ask") (option_map ask (decimal_byte word)) None))

-- three numbers, if each is one
abbrev pub clear_of : Option ℕ → Option ℕ → Option ℕ → Option Order
clear_of None first sub = None
clear_of (Some kind) None sub = None
clear_of (Some kind) (Some first) None = None
clear_of (Some kind) (Some first) (Some sub) = Some (clear kind first sub)

-- a name and three words behind it
abbrev pub with_three : List ℕ → List ℕ → List ℕ → List ℕ → Option Order
with_three name kind first sub = cond (is name "clear") (clear_of (decimal_byte kind) (decimal_byte first) (decimal_byte sub)) None

abbrev pub command_in : List (List ℕ) → Option Order
command_in [] = None
command_in (name ∷ []) = alone name
command_in (name ∷ a ∷ []) = with_one name a
command_in (name ∷ a ∷ b ∷ []) = None
command_in (name ∷ a ∷ b ∷ c ∷ []) = with_three name a b c
command_in (name ∷ a ∷ b ∷ c ∷ d ∷ more) = None

-- the command that a line is, if it is one
abbrev pub command_of : List ℕ → Option Order
command_of line = command_in (words_of line)
