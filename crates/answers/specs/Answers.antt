-- What is found of one resource: its verdicts and its charges.
use Rattle.std.specs.Prelude.{ℕ, cond, is_some, Some, None, Option}
use Rattle.vocabulary.specs.declared.parameter.Parameter.{Parameter}
use Rattle.vocabulary.specs.declared.parameter.Parameter.TheVariants.{Curve, Amount}
use Rattle.vocabulary.specs.declared.product.Product.{Product}
use Rattle.vocabulary.specs.declared.verdict.Verdict.{Verdict}
use Rattle.vocabulary.specs.declared.verdict.Verdict.TheVariants.{NotTested}
use Rattle.vocabulary.specs.Orders.{of_products, of_parameters}
use Rattle.vocabulary.specs.Readings.{Lines, Own}
use Rattle.verdicts.specs.Rules.{curve_conduct, amount_conduct}
use Rattle.charges.specs.declared.finding.Finding.{Finding}
use Rattle.charges.specs.Tables.{Owns}
use Rattle.charges.specs.Findings.{Meanings, finding}
use Rattle.answers.specs.declared.answer.Answer.{Answer}

-- the conduct of any parameter
abbrev pub conduct : Meanings → Lines → Own → Parameter → Verdict
conduct m lines o (Curve product) = curve_conduct m.curves lines o product
conduct m lines o (Amount amount) = amount_conduct m.amounts m.quantities lines o amount

-- parameters and products rise by number
abbrev pub answer_from : (Parameter → Verdict) → (Product → Finding) → Answer
answer_from conducts found = record {
  conduct = of_parameters conducts;
  impact = of_products (λ product. (found product).verdicts.impact);
  resource = of_products (λ product. (found product).verdicts.resource);
  entity = of_products (λ product. (found product).verdicts.entity);
  quantity_impact = of_products (λ product. (found product).verdicts.quantity_impact);
  charges = of_products (λ product. (found product).charge);
}

-- resource r among all
unfoldable pub answer : Meanings → Lines → Owns → ℕ → Answer
answer m lines owns r = answer_from (conduct m lines (owns r)) (λ product. finding m lines owns product r)

-- nothing is tested and nothing owed
abbrev pub nothing_found : Answer
nothing_found = answer_from (λ _. NotTested) (λ _. record {
  verdicts = record { conduct = NotTested; impact = NotTested; resource = NotTested; entity = NotTested; quantity_impact = NotTested };
  charge = 0;
})

-- a resource without a standing is not listed
abbrev pub listed : Meanings → Lines → Owns → ℕ → Option Answer
listed m lines owns r = cond (is_some (owns r).standing) (Some (answer m lines owns r)) None
