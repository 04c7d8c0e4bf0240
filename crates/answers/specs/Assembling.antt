-- How the code puts an answer together: a finding for each product, and the conduct of each amount.
use Rattle.std.specs.Prelude.{List, [], ◌∷◌, ◌++◌, map}
use Rattle.vocabulary.specs.declared.amount.Amount.{Amount}
use Rattle.vocabulary.specs.declared.amount.Amount.TheVariants.{StartUp, SpeedNoLoad, RunTime, RampRate}
use Rattle.vocabulary.specs.declared.verdict.Verdict.{Verdict}
use Rattle.charges.specs.declared.finding.Finding.{Finding}
use Rattle.answers.specs.declared.answer.Answer.{Answer}

-- something of each amount
abbrev pub of_amounts : {A : Type 0} → (Amount → A) → List A
of_amounts f = f StartUp ∷ f SpeedNoLoad ∷ f RunTime ∷ f RampRate ∷ []

abbrev pub assembled : List Finding → List Verdict → Answer
assembled found amounts = record {
  conduct = map (λ (f : Finding). f.verdicts.conduct) found ++ amounts;
  impact = map (λ (f : Finding). f.verdicts.impact) found;
  resource = map (λ (f : Finding). f.verdicts.resource) found;
  entity = map (λ (f : Finding). f.verdicts.entity) found;
  quantity_impact = map (λ (f : Finding). f.verdicts.quantity_impact) found;
  charges = map (λ (f : Finding). f.charge) found;
}
