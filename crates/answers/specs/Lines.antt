-- The line of a listing.
use Rattle.std.specs.Prelude.{ℕ, ◌+◌, ◌/◌, ◌%◌, List, [], ◌∷◌, ◌++◌, map, decimal, sum}
use Rattle.vocabulary.specs.declared.verdict.Verdict.{Verdict}
use Rattle.vocabulary.specs.Numbers.{letter}
use Rattle.answers.specs.declared.answer.Answer.{Answer}

abbrev pub two_digits : ℕ → List ℕ
two_digits n = (48 + n / 10) ∷ (48 + n % 10) ∷ []

-- a blank, then a letter for each verdict
abbrev pub letters : List Verdict → List ℕ
letters vs = 32 ∷ map letter vs

-- the resource's number, then a group of letters for each kind of verdict
abbrev pub verdicts_of : ℕ → Answer → List ℕ
verdicts_of resource a =
    two_digits resource
    ++ letters a.conduct
    ++ letters a.impact
    ++ letters a.resource
    ++ letters a.entity
    ++ letters a.quantity_impact

-- a blank, the charges added, and the line's end
abbrev pub owed : List ℕ → List ℕ
owed charges = 32 ∷ (decimal (sum charges) ++ (10 ∷ []))

-- a resource's verdicts, then what it owes
unfoldable pub line_of : ℕ → Answer → List ℕ
line_of resource a = verdicts_of resource a ++ owed a.charges
