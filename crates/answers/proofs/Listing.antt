-- What is found of each resource in turn.
use Rattle.std.proofs.Common.{◌≡◌, ℕ, ◌^◌, ◌<◌, IfSome, Option}
use Rattle.std.specs.Prelude.{sum}
use Rattle.vocabulary.specs.Readings.{Lines}
use Rattle.charges.specs.Tables.{Owns}
use Rattle.charges.specs.Findings.{Meanings}
use Rattle.answers.specs.declared.answer.Answer.{Answer}
use Rattle.answers.specs.Answers.{listed}

pub record Made (m : Meanings) (lines : Lines) (owns : Owns) (k : ℕ) (o : Option Answer) : Type 0 where
  pub value : o ≡ listed m lines owns k
  pub small : IfSome o (λ a. sum a.charges < 2 ^ 64)
