-- Slots given by what each head holds, and lists given place by place.
use Rattle.std.specs.Prelude.{◌≡◌, ℕ, zero, suc, ◌+◌, List, [], ◌∷◌, ◌++◌, Option, ◌≢◌}
use Rattle.entries.specs.Sections.{Section}
use Rattle.entries.specs.declared.head.Head.{Head}
use Rattle.entries.specs.Entries.{head}
use Rattle.entries.specs.Files.{head_fault}
use Rattle.entries.specs.Table.{kinds}
use Rattle.ledger.specs.Slots.{Slots, head_at}

-- f at each place below n
abbrev pub tabulated : {A : Type 0} → ℕ → (ℕ → A) → List A
tabulated zero f = []
tabulated (suc n) f = tabulated n f ++ (f n ∷ [])

-- the parts at each place below n, one behind the other
unfoldable pub joined_below : ℕ → (ℕ → List ℕ) → List ℕ
joined_below zero f = []
joined_below (suc n) f = joined_below n f ++ f n

-- what the slot of each head holds
abbrev pub Holding : Type 0
Holding = Head → Option (List ℕ)

unfoldable pub slots_from : Holding → Slots
slots_from holds = tabulated 1138 (λ i. holds (head_at kinds i))

-- g holds what f does in every slot but that of h
abbrev pub Elsewhere : Head → Holding → Holding → Type 0
Elsewhere h f g = (k : Head) → head_fault kinds k ≡ 0 → (k ≢ h) → g k ≡ f k

-- a part for each head, section by section, first by first and sub by sub; k is the kind of the first section
abbrev pub by_heads : ℕ → List Section → (Head → List ℕ) → List ℕ
by_heads k [] f = []
by_heads k (s ∷ rest) f = joined_below s.firsts (λ first. joined_below s.subs (λ sub. f (head k first sub))) ++ by_heads (k + 1) rest f
