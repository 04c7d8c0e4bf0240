-- Calls whose bytes stand in one store.
use Rattle.std.specs.Prelude.{ℕ, ◌-◌, Bool, true, ◌&&◌, List, [], ◌∷◌, take, drop, nat_le}
use Rattle.scripts.specs.Commands.{Order, post, load, clear, close}
use Rattle.scripts.specs.declared.scripted.Scripted.{Scripted}
use Rattle.scripts.specs.declared.scripted.Scripted.TheVariants.{Post, Load, Clear, Close}

-- the part of a store from one place to before another
abbrev pub part : List ℕ → ℕ → ℕ → List ℕ
part store from to = take (to - from) (drop from store)

-- a call with its bytes taken from the store
abbrev pub taken_from : List ℕ → Scripted → Order
taken_from store (Post from to) = post (part store from to)
taken_from store (Load from to) = load (part store from to)
taken_from store (Clear kind first sub) = clear kind first sub
taken_from store Close = close

-- its part lies within a store of this length
abbrev pub within : ℕ → Scripted → Bool
within size (Post from to) = nat_le from to && nat_le to size
within size (Load from to) = nat_le from to && nat_le to size
within size (Clear kind first sub) = true
within size Close = true

abbrev pub all_within : ℕ → List Scripted → Bool
all_within size [] = true
all_within size (call ∷ more) = within size call && all_within size more
