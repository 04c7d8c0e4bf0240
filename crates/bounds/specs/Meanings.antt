-- Which values pass: the harmless side, the headroom, and the meanings of our bounds.
use Rattle.std.specs.Prelude.{ℕ, ◌*◌, min, Bool, ◌||◌, ℤ, pos, negsuc, ◌-ℤ◌, ◌*ℤ◌, ◌≤ℤ◌, int_le, int_lt}
use Rattle.bounds.specs.declared.line.Line.{Line}
use Rattle.bounds.specs.declared.side.Side.{Side}
use Rattle.bounds.specs.declared.side.Side.TheVariants.{Below, Above}

-- a bound's answers: line, then reference, then value; true where the value passes
abbrev pub Meaning : Type 0
Meaning = Line → ℤ → ℤ → Bool

-- the value is the reference, or lies on the side that does no harm
abbrev pub Harmless : Side → ℤ → ℤ → Type 0
Harmless Below reference value = value ≤ℤ reference
Harmless Above reference value = reference ≤ℤ value

-- a negative number counts as 0
abbrev pub counted : ℤ → ℕ
counted (pos n) = n
counted (negsuc _) = 0

-- a hundred times the distance that the line allows from a reference
abbrev pub headroom : Line → ℤ → ℕ
headroom line reference = min (100 * line.«cap») (line.percent * counted reference)

abbrev pub ceiling_passes : Meaning
ceiling_passes line reference value = int_le (pos 100 *ℤ (value -ℤ reference)) (pos (headroom line reference))

abbrev pub shortfall_passes : Meaning
shortfall_passes line reference value = int_le (pos 100 *ℤ (reference -ℤ value)) (pos (headroom line reference))

-- a value below the floor passes; any other is asked of the bound underneath
abbrev pub exempt_passes : Meaning → Meaning
exempt_passes under line reference value = int_lt value line.floor || under line reference value
