-- What a product owes, in twentieths of a cent.
use Rattle.std.specs.Prelude.{ℕ, ◌-◌, ◌*◌, List, ℤ, pos, negsuc, Some, None, Option}
use Rattle.bounds.specs.declared.line.Line.{Line}
use Rattle.bounds.specs.Meanings.{Meaning}
use Rattle.curves.specs.declared.step.Step.{Step}
use Rattle.kinds.specs.Conduct.{failed_widths}
use Rattle.vocabulary.specs.declared.product.Product.{Product}
use Rattle.vocabulary.specs.declared.run.Run.TheVariants.{AsOffered}
use Rattle.vocabulary.specs.Tests.{curve_test}
use Rattle.vocabulary.specs.Readings.{Lines, Own, line_under}
use Rattle.vocabulary.specs.Conditions.{condition_in_force, multiplier_of}
use Rattle.verdicts.specs.Rules.{offered}
use Rattle.charges.specs.Groups.{known}

-- a price that is missing or negative counts as 0
abbrev pub paid : Option ℤ → ℕ
paid None = 0
paid (Some (pos cents)) = cents
paid (Some (negsuc _)) = 0

-- reference less offered quantity, at least 0
abbrev pub shortage : Own → Product → ℕ
shortage o product = known (o.quantity product) - offered o product

abbrev pub shortage_charge : Own → Product → ℕ
shortage_charge o product = 3 * multiplier_of o * shortage o product * paid (o.price product AsOffered)

-- the widths of the steps that fail, where there is a line, a reference and an offer
abbrev pub widths : Meaning → Option Line → Option (List Step) → Option (List Step) → ℕ
widths curves None reference offer = 0
widths curves (Some line) None offer = 0
widths curves (Some line) (Some reference) None = 0
widths curves (Some line) (Some reference) (Some offer) = failed_widths (curves line) reference 0 offer

abbrev pub width_charge : Meaning → Lines → Own → Product → ℕ
width_charge curves lines o product =
    2 * widths curves (line_under lines (condition_in_force o product) (curve_test product)) (o.reference.curve product) (o.offer.curve product) * paid (o.price product AsOffered)
