-- How many bytes the two parts of a line take.
use Rattle.std.specs.Prelude.{ℕ, ◌+◌, List, length, decimal, sum}
use Rattle.answers.specs.declared.answer.Answer.{Answer}

-- two digits and five blanks, and a letter for each verdict
abbrev pub verdicts_length : Answer → ℕ
verdicts_length a = 7 + length a.conduct + length a.impact + length a.resource + length a.entity + length a.quantity_impact

-- a blank, the digits, and the line's end
abbrev pub owed_length : List ℕ → ℕ
owed_length charges = length (decimal (sum charges)) + 2
