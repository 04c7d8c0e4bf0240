-- The line of three numbers, where each is in its range.
use Rattle.std.specs.Prelude.{◌≡◌, ℕ, Bool, true, false, ℤ, Some, None, Option, refl}
use Rattle.bounds.specs.declared.line.Line.{Line}
use Rattle.bounds.specs.Ranges.{in_range}

abbrev pub line_if : (percent limit : ℕ) (floor : ℤ) (b : Bool) → in_range percent limit floor ≡ b → Option Line
line_if percent limit floor true inside = Some record { percent = percent; «cap» = limit; floor = floor; inside = inside }
line_if percent limit floor false _ = None

unfoldable pub line_of : ℕ → ℕ → ℤ → Option Line
line_of percent limit floor = line_if percent limit floor (in_range percent limit floor) refl
