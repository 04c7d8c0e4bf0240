-- The line of three numbers, by whether they are in range.
use Rattle.std.proofs.Common.{◌≡◌, ℕ, Bool, true, false, ℤ, Some, None, refl, ap}
use mathlib.Core.Bool.{Bool-set}
use Rattle.std.proofs.lemmas.Bool.{both_ways}
use Rattle.bounds.specs.Ranges.{in_range}
use Rattle.bounds.specs.Lines.{line_if, line_of}

module _ (percent limit : ℕ) (floor : ℤ) where
  if_inside : (b : Bool) (e : in_range percent limit floor ≡ b) (inside : in_range percent limit floor ≡ true)
      → Some record { percent = percent; «cap» = limit; floor = floor; inside = inside } ≡ line_if percent limit floor b e
  if_inside true e inside = ap (λ h. Some record { percent = percent; «cap» = limit; floor = floor; inside = h }) (Bool-set _ _ inside e)
  if_inside false e inside = absurd (both_ways _ e inside)

  if_outside : (b : Bool) (e : in_range percent limit floor ≡ b) → in_range percent limit floor ≡ false → None ≡ line_if percent limit floor b e
  if_outside true e outside = absurd (both_ways _ outside e)
  if_outside false e outside = refl

  pub line_inside : (inside : in_range percent limit floor ≡ true)
      → Some record { percent = percent; «cap» = limit; floor = floor; inside = inside } ≡ line_of percent limit floor
  unfolding line_of
  line_inside = if_inside (in_range percent limit floor) refl

  pub line_outside : in_range percent limit floor ≡ false → None ≡ line_of percent limit floor
  unfolding line_of
  line_outside = if_outside (in_range percent limit floor) refl
