-- Lists of steps: their order, the price at a quantity, and what stands in for an offer.
use Rattle.std.specs.Prelude.{ℕ, Bool, true, cond, ◌&&◌, List, [], ◌∷◌, ◌++◌, ℤ, pos, int_le, nat_le, nat_lt}
use Rattle.curves.specs.declared.step.Step.{Step}

abbrev pub step : ℤ → ℕ → Step
step price end = record { price = price; end = end }

-- the next step ends beyond the last, at no lower price
abbrev pub rises : Step → Step → Bool
rises last next = nat_lt last.end next.end && int_le last.price next.price

abbrev pub rises_on : Step → List Step → Bool
rises_on last [] = true
rises_on last (next ∷ rest) = rises last next && rises_on next rest

-- ends rise and prices never fall
abbrev pub in_order : List Step → Bool
in_order [] = true
in_order (first ∷ rest) = rises_on first rest

-- the price of the first step that ends at or beyond q, else of the last, else p
abbrev pub price_after : ℤ → List Step → ℕ → ℤ
price_after p [] q = p
price_after p (s ∷ rest) q = cond (nat_le q s.end) s.price (price_after s.price rest q)

abbrev pub price_at : List Step → ℕ → ℤ
price_at steps q = price_after (pos 0) steps q

abbrev pub end_after : ℕ → List Step → ℕ
end_after e [] = e
end_after e (s ∷ rest) = end_after s.end rest

-- where the last step ends
abbrev pub last_end : List Step → ℕ
last_end steps = end_after 0 steps

-- the steps that end below q, the last left aside
abbrev pub kept : List Step → ℕ → List Step
kept [] q = []
kept (s ∷ []) q = []
kept (s ∷ (t ∷ rest)) q = cond (nat_lt s.end q) (s ∷ kept (t ∷ rest) q) []

-- what stands in for an offer that ends at q: those steps of the reference, and one to q at the reference price there
abbrev pub substitute : List Step → ℕ → List Step
substitute reference q = kept reference q ++ (step (price_at reference q) q ∷ [])
