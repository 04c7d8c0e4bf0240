-- What an hour says, apart from how it is stored: lines by condition and test, and each resource's own records.
use Rattle.std.specs.Prelude.{ℕ, ◌+◌, ◌*◌, cond, List, [], ℤ, Some, None, Option, nat_le, slice_index_or}
use Rattle.bounds.specs.declared.line.Line.{Line}
use Rattle.bounds.specs.Lines.{line_of}
use Rattle.curves.specs.declared.step.Step.{Step}
use Rattle.curves.specs.declared.row.Row.{Row}
use Rattle.curves.specs.Rows.{curve_in}
use Rattle.vocabulary.specs.declared.product.Product.{Product}
use Rattle.vocabulary.specs.declared.product.Product.TheVariants.{Energy, Spinning, NonSpinning, ThirtyMinute}
use Rattle.vocabulary.specs.declared.condition.Condition.{Condition}
use Rattle.vocabulary.specs.declared.amount.Amount.{Amount}
use Rattle.vocabulary.specs.declared.test.Test.{Test}
use Rattle.vocabulary.specs.declared.run.Run.{Run}
use Rattle.vocabulary.specs.declared.standing.Standing.{Standing}
use Rattle.vocabulary.specs.declared.lines.Terms.{Terms}
use Rattle.vocabulary.specs.declared.resource.Values.{Values}
use Rattle.vocabulary.specs.declared.resource.Resource.{Resource}
use Rattle.vocabulary.specs.Numbers.{product_number, condition_number, amount_number, test_number, run_number}
use Rattle.vocabulary.specs.Tests.{most_steps}

-- the parameters of an offer or of its reference; a missing one is none
pub record Levels : Type 0 where
  pub curve : Product → Option (List Step)
  pub amount : Amount → Option ℤ

-- the records of one resource
pub record Own : Type 0 where
  pub standing : Option Standing
  pub offer : Levels
  pub reference : Levels
  pub quantity : Product → Option ℕ
  pub price : Product → Run → Option ℤ

abbrev pub Lines : Type 0
Lines = Condition → Test → Option Line

-- the set of conditions for a product
abbrev pub set_for : Standing → Product → ℕ
set_for s Energy = s.energy
set_for s Spinning = s.spinning
set_for s NonSpinning = s.non_spinning
set_for s ThirtyMinute = s.thirty_minute

-- the line of a test under the condition in force, if there is one
abbrev pub line_under : Lines → Option Condition → Test → Option Line
line_under lines None test = None
line_under lines (Some condition) test = lines condition test

-- how the table's plain rows are read: a row that is no curve, a quantity or a line out of range reads as missing

abbrev pub no_row : Row
no_row = record { steps = []; count = 0 }

abbrev pub values_of : Values → Levels
values_of v = record {
  curve = λ product. curve_in (most_steps product) (slice_index_or v.curves (product_number product) no_row);
  amount = λ amount. slice_index_or v.amounts (amount_number amount) None;
}

abbrev pub in_range_quantity : Option ℕ → Option ℕ
in_range_quantity None = None
in_range_quantity (Some q) = cond (nat_le q 100000) (Some q) None

abbrev pub own_of : Resource → Own
own_of r = record {
  standing = r.standing;
  offer = values_of r.offer;
  reference = values_of r.reference;
  quantity = λ product. in_range_quantity (slice_index_or r.quantities (product_number product) None);
  price = λ product run. slice_index_or r.prices (3 * product_number product + run_number run) None;
}

abbrev pub line_of_terms : Option Terms → Option Line
line_of_terms None = None
line_of_terms (Some t) = line_of t.percent t.«cap» t.floor

abbrev pub lines_of : List (Option Terms) → Lines
lines_of rows = λ condition test. line_of_terms (slice_index_or rows (10 * condition_number condition + test_number test) None)
