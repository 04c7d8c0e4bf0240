-- Numbers in their ranges, which stay so where another is written.
use Rattle.std.proofs.Common.{◌≡◌, ℕ, zero, suc, Bool, true, List, [], ◌∷◌, get_or, set, replicate, ℤ, pos, Some, None, Option, refl, ◌∙◌, arith, length-set}
use lib.Signed.{le_z}
use Rattle.std.proofs.lemmas.Int.{ints}
use Rattle.std.proofs.lemmas.Bool.{and_parts, and_from}
use Rattle.curves.specs.Rows.{empty_row}
use Rattle.vocabulary.specs.declared.lines.Terms.{Terms}
use Rattle.vocabulary.specs.declared.resource.Resource.{Resource}
use Rattle.vocabulary.specs.Empty.{empty_resource, no_resource}
use Rattle.bodies.specs.Bodies.{between, most_amount}
use Rattle.table.specs.Ranges.{every, amount_ranged, price_ranged, quantity_ranged, terms_ranged, row_ranged, values_ranged, ranged, AllRanged}

module _ {A : Type 0} (test : A → Bool) where
  pub every_set : (xs : List A) (i : ℕ) (x : A) → test x ≡ true → every test xs ≡ true → every test (set xs i x) ≡ true
  every_set [] i x t h = h
  every_set (y ∷ ys) zero x t h = and_from (test x) (every test ys) t (and_parts (test y) (every test ys) h).1
  every_set (y ∷ ys) (suc i) x t h = let p = and_parts (test y) (every test ys) h in and_from (test y) (every test (set ys i x)) p.0 (every_set ys i x t p.1)

  pub every_same : (n : ℕ) (x : A) → test x ≡ true → every test (replicate n x) ≡ true
  every_same zero x t = refl
  every_same (suc n) x t = and_from (test x) (every test (replicate n x)) t (every_same n x t)

  -- past the end too
  pub every_at : (xs : List A) (i : ℕ) (d : A) → test d ≡ true → every test xs ≡ true → test (get_or xs i d) ≡ true
  every_at [] i d t h = t
  every_at (x ∷ xs) zero d t h = (and_parts (test x) (every test xs) h).0
  every_at (x ∷ xs) (suc i) d t h = every_at xs i d t (and_parts (test x) (every test xs) h).1

-- the parts of a record that are in range, and a record of such parts
pub record Parts (r : Resource) : Type 0 where
  pub offer : values_ranged r.offer ≡ true
  pub reference : values_ranged r.reference ≡ true
  pub quantities : every quantity_ranged r.quantities ≡ true
  pub prices : every price_ranged r.prices ≡ true

module _ (r : Resource) where
  pub parts : ranged r ≡ true → Parts r
  parts h =
      let a = and_parts (values_ranged r.offer) _ h in
      let b = and_parts (values_ranged r.reference) _ a.1 in
      let c = and_parts (every quantity_ranged r.quantities) _ b.1 in
      record { offer = a.0; reference = b.0; quantities = c.0; prices = c.1 }

  pub together : Parts r → ranged r ≡ true
  together p =
      and_from (values_ranged r.offer) _ p.offer
      (and_from (values_ranged r.reference) _ p.reference (and_from (every quantity_ranged r.quantities) _ p.quantities p.prices))

-- the greatest amount of a parameter is no more than a cost may be
pub amount_fits : (parameter : ℕ) (z : ℤ) → between (pos 0) (most_amount parameter) z ≡ true → amount_ranged (Some z) ≡ true
amount_fits parameter z h = let p = and_parts (le_z (pos 0) z) (le_z z (most_amount parameter)) h in and_from (le_z (pos 0) z) (le_z z (pos 100000000)) p.0 (grind (arith, ints))

pub empty_ranged : ranged empty_resource ≡ true
empty_ranged =
    let values : values_ranged empty_resource.offer ≡ true = and_from _ _ (every_same row_ranged 4 empty_row refl) (every_same amount_ranged 4 None refl) in
    together empty_resource (record { offer = values; reference = values; quantities = every_same quantity_ranged 4 None refl; prices = every_same price_ranged 12 None refl })

-- a table of which one record, or one line, is written
pub record_stays : (lines : List (Option Terms)) (rs : List Resource) (i : ℕ) (r : Resource) → AllRanged (record { lines = lines; resources = rs })
    → (ranged (get_or rs i no_resource) ≡ true → ranged r ≡ true) → AllRanged (record { lines = lines; resources = set rs i r })
record_stays lines rs i r fit kept = record {
  whole = length-set rs i r ∙ fit.whole;
  terms = fit.terms;
  records = every_set ranged rs i r (kept (every_at ranged rs i no_resource refl fit.records)) fit.records;
}

pub line_stays : (lines : List (Option Terms)) (rs : List Resource) (i : ℕ) (o : Option Terms) → AllRanged (record { lines = lines; resources = rs })
    → terms_ranged o ≡ true → AllRanged (record { lines = set lines i o; resources = rs })
line_stays lines rs i o fit fits = record { whole = fit.whole; terms = every_set terms_ranged lines i o fits fit.terms; records = fit.records }
