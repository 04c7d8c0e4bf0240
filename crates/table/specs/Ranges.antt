-- Whether the numbers that a table holds are in their ranges.
use Rattle.std.specs.Prelude.{◌≡◌, ℕ, Bool, true, ◌&&◌, List, [], ◌∷◌, length, ℤ, pos, Some, None, Option, nat_le}
use Rattle.bounds.specs.Ranges.{in_price_range, in_range}
use Rattle.curves.specs.declared.row.Row.{Row}
use Rattle.curves.specs.Rows.{row_steps}
use Rattle.vocabulary.specs.declared.lines.Terms.{Terms}
use Rattle.vocabulary.specs.declared.resource.Values.{Values}
use Rattle.vocabulary.specs.declared.resource.Resource.{Resource}
use Rattle.bodies.specs.Bodies.{between}
use Rattle.bodies.specs.Curves.{all_in_range}
use Rattle.table.specs.declared.hour.Table.{Table}

abbrev pub every : {A : Type 0} → (A → Bool) → List A → Bool
every test [] = true
every test (x ∷ rest) = test x && every test rest

-- a missing number is in range
abbrev pub if_some : {A : Type 0} → (A → Bool) → Option A → Bool
if_some test None = true
if_some test (Some x) = test x

-- a cost, which may be the greatest amount
abbrev pub amount_ranged : Option ℤ → Bool
amount_ranged = if_some (between (pos 0) (pos 100000000))

abbrev pub price_ranged : Option ℤ → Bool
price_ranged = if_some in_price_range

abbrev pub quantity_ranged : Option ℕ → Bool
quantity_ranged = if_some (λ tenths. nat_le tenths 100000)

abbrev pub terms_ranged : Option Terms → Bool
terms_ranged = if_some (λ t. in_range t.percent t.«cap» t.floor)

abbrev pub row_ranged : Row → Bool
row_ranged row = all_in_range (row_steps row)

abbrev pub values_ranged : Values → Bool
values_ranged v = every row_ranged v.curves && every amount_ranged v.amounts

abbrev pub ranged : Resource → Bool
ranged r =
    values_ranged r.offer
    && (values_ranged r.reference
    && (every quantity_ranged r.quantities
    && every price_ranged r.prices))

-- every number of a table is in its range, as in every table that calls lead to
pub record AllRanged (t : Table) : Type 0 where
  pub whole : length t.resources ≡ 32
  pub terms : every terms_ranged t.lines ≡ true
  pub records : every ranged t.resources ≡ true
