-- What the slots of a table say is what its rows say.
use Rattle.std.proofs.Common.{◌≡◌, ℕ, ◌+◌, ◌*◌, ◌<◌, ◌≤◌, Bool, true, false, cond, ◌&&◌, ltb, leb, ◌≢◌, List, get_or, ℤ, pos, Some, None, Option, sym, refl, ap, ◌∙◌, ⊎_elim, arith, w32, SFits}
use mathlib.Core.Path.{fun_ext}
use lib.Signed.{le_z}
use Rattle.std.proofs.lemmas.List.{get_or_past}
use Rattle.std.proofs.lemmas.Int.{ints}
use Rattle.std.proofs.lemmas.Bool.{and_parts, and_from, cond-true, cond-false, leb-true, lt-ltb, ne_eqb, cases_lt}
use Rattle.std.specs.Option.{option_map}
use Rattle.curves.specs.declared.row.Row.{Row}
use Rattle.curves.specs.Rows.{row_steps, holds_curve, curve_in}
use Rattle.vocabulary.specs.declared.amount.Amount.{Amount}
use Rattle.vocabulary.specs.declared.amount.Amount.TheVariants.{StartUp, SpeedNoLoad, RunTime, RampRate}
use Rattle.vocabulary.specs.declared.condition.Condition.{Condition}
use Rattle.vocabulary.specs.declared.condition.Condition.TheVariants.{Narrow, Dynamic, Broad, GlobalPower, Intertie}
use Rattle.vocabulary.specs.declared.lines.Terms.{Terms}
use Rattle.vocabulary.specs.declared.product.Product.{Product}
use Rattle.vocabulary.specs.declared.product.Product.TheVariants.{Energy, Spinning, NonSpinning, ThirtyMinute}
use Rattle.vocabulary.specs.declared.run.Run.{Run}
use Rattle.vocabulary.specs.declared.run.Run.TheVariants.{AsOffered, ReferenceLevel, ReferenceQuantity}
use Rattle.vocabulary.specs.declared.standing.Standing.{Standing}
use Rattle.vocabulary.specs.declared.test.Test.{Test}
use Rattle.vocabulary.specs.declared.test.Test.TheVariants as tests
use Rattle.vocabulary.specs.declared.resource.Values.{Values}
use Rattle.vocabulary.specs.declared.resource.Resource.{Resource}
use Rattle.vocabulary.specs.Empty.{no_resource}
use Rattle.vocabulary.specs.Numbers.{product_number, amount_number, run_number, condition_number, test_number}
use Rattle.vocabulary.specs.Readings.{no_row, values_of, in_range_quantity, own_of, line_of_terms, lines_of}
use Rattle.bodies.specs.Bodies.{terms_bytes, standing_of, standing_bytes}
use Rattle.bodies.specs.Curves.{curve_steps, curve_bytes}
use Rattle.bodies.specs.Numbers.{word, number, word_bytes, number_bytes}
use Rattle.bodies.proofs.Bytes.{word_back_alone, number_back_alone}
use Rattle.bodies.proofs.Backs.{terms_back, price_fits, curve_back}
use Rattle.entries.specs.Entries.{head}
use Rattle.entries.specs.Files.{head_fault}
use Rattle.entries.specs.Table.{kinds}
use Rattle.ledger.specs.Readings.{slot, line_in, lines, own}
use Rattle.ledger.proofs.Holdings.{held_from, held_nowhere}
use Rattle.table.specs.declared.hour.Table.{Table}
use Rattle.table.specs.Holding.{values_hold, holds}
use Rattle.table.specs.Ranges.{every, amount_ranged, price_ranged, quantity_ranged, terms_ranged, row_ranged, values_ranged, ranged, AllRanged}
use Rattle.table.specs.Tables.{table_holds, slots_of}
use Rattle.table.proofs.Empties.{nothing_held}
use Rattle.table.proofs.Keeping.{every_at, parts}
use Rattle.table.proofs.Tables.{exists}

-- numbers in range are read back

amount_read : (o : Option ℤ) → amount_ranged o ≡ true → option_map number (option_map number_bytes o) ≡ o
amount_read None h = refl
amount_read (Some z) h =
    let p = and_parts (le_z (pos 0) z) (le_z z (pos 100000000)) h in
    let fits : SFits w32 z = grind (arith, ints) in
    ap Some (number_back_alone z fits)

price_read : (o : Option ℤ) → price_ranged o ≡ true → option_map number (option_map number_bytes o) ≡ o
price_read None h = refl
price_read (Some z) h = ap Some (number_back_alone z (price_fits z h))

quantity_read : (o : Option ℕ) → quantity_ranged o ≡ true → option_map word (option_map word_bytes o) ≡ in_range_quantity o
quantity_read None h = refl
quantity_read (Some q) h = let small = leb-true q 100000 h in ap Some (word_back_alone q (omega arith)) ∙ sym (cond-true (leb q 100000) (Some q) None h)

terms_read : (o : Option Terms) → terms_ranged o ≡ true → line_in (option_map terms_bytes o) ≡ line_of_terms o
terms_read None h = refl
terms_read (Some t) h =
    let a = and_parts (leb t.percent 1000 && leb t.«cap» 100000000) _ h in
    let b = and_parts (leb t.percent 1000) (leb t.«cap» 100000000) a.0 in
    let percent = leb-true t.percent 1000 b.0 in
    let limit = leb-true t.«cap» 100000000 b.1 in
    ap (λ x. line_of_terms (Some x)) (terms_back t (word_back_alone t.percent (omega arith)) (word_back_alone t.«cap» (omega arith)) (price_fits t.floor a.1))

curve_chosen : {A : Type 0} (read : List ℕ → A) (write : A → List ℕ) (b : Bool) (x : A) → read (write x) ≡ x → option_map read (option_map write (cond b (Some x) None)) ≡ cond b (Some x) None
curve_chosen read write true x e = ap Some e
curve_chosen read write false x e = refl

row_read : (most : ℕ) (row : Row) → row_ranged row ≡ true → option_map curve_steps (option_map curve_bytes (curve_in most row)) ≡ curve_in most row
row_read most row h = curve_chosen curve_steps curve_bytes (holds_curve most row) (row_steps row) (curve_back (row_steps row) h)

module _ (v : Values) (fit : values_ranged v ≡ true) where
  row_at : (most n : ℕ) → option_map curve_steps (option_map curve_bytes (curve_in most (get_or v.curves n no_row))) ≡ curve_in most (get_or v.curves n no_row)
  row_at most n = row_read most _ (every_at row_ranged v.curves n no_row refl (and_parts (every row_ranged v.curves) (every amount_ranged v.amounts) fit).0)

  curve_said : (p : Product) → option_map curve_steps (values_hold v (product_number p)) ≡ (values_of v).curve p
  unfolding values_hold
  curve_said Energy = row_at 20 0
  curve_said Spinning = row_at 5 1
  curve_said NonSpinning = row_at 5 2
  curve_said ThirtyMinute = row_at 5 3

  amount_at : (n : ℕ) → option_map number (option_map number_bytes (get_or v.amounts n None)) ≡ get_or v.amounts n None
  amount_at n = amount_read _ (every_at amount_ranged v.amounts n None refl (and_parts (every row_ranged v.curves) (every amount_ranged v.amounts) fit).1)

  amount_said : (a : Amount) → option_map number (values_hold v (4 + amount_number a)) ≡ (values_of v).amount a
  unfolding values_hold
  amount_said StartUp = amount_at 0
  amount_said SpeedNoLoad = amount_at 1
  amount_said RunTime = amount_at 2
  amount_said RampRate = amount_at 3

standing_said : (o : Option Standing) → option_map standing_of (option_map standing_bytes o) ≡ o
standing_said None = refl
standing_said (Some s) = refl

product_few : (p : Product) → product_number p < 4
product_few Energy = omega arith
product_few Spinning = omega arith
product_few NonSpinning = omega arith
product_few ThirtyMinute = omega arith

amount_few : (a : Amount) → amount_number a < 4
amount_few StartUp = omega arith
amount_few SpeedNoLoad = omega arith
amount_few RunTime = omega arith
amount_few RampRate = omega arith

run_few : (r : Run) → run_number r < 3
run_few AsOffered = omega arith
run_few ReferenceLevel = omega arith
run_few ReferenceQuantity = omega arith

condition_few : (c : Condition) → condition_number c < 5
condition_few Narrow = omega arith
condition_few Dynamic = omega arith
condition_few Broad = omega arith
condition_few GlobalPower = omega arith
condition_few Intertie = omega arith

test_few : (t : Test) → test_number t < 10
test_few tests.EnergyCurve = omega arith
test_few tests.ReserveCurve = omega arith
test_few tests.StartUp = omega arith
test_few tests.SpeedNoLoad = omega arith
test_few tests.RunTime = omega arith
test_few tests.RampRate = omega arith
test_few tests.EnergyImpact = omega arith
test_few tests.ReserveImpact = omega arith
test_few tests.ResourceQuantity = omega arith
test_few tests.EntityQuantity = omega arith

there : (f u n m : ℕ) → f < n → u < m → ◌≡◌ {A = ℕ} (cond (ltb f n && ltb u m) 0 4) 0
there f u n m a b = cond-true _ 0 4 (and_from (ltb f n) (ltb u m) (lt-ltb f n a) (lt-ltb u m b))

far : (f u m : ℕ) → 32 ≤ f → ◌≡◌ {A = ℕ} (cond (ltb f 32 && ltb u m) 0 4) 0 → ⊥
far f u m le z = let h = exists f u 32 m z in omega arith

module _ (t : Table) (fit : AllRanged t) where
  pub lines_said : lines (slots_of t) ≡ lines_of t.lines
  unfolding slots_of
  lines_said = fun_ext (λ c. fun_ext (λ k.
      ap line_in (held_from (table_holds t.lines t.resources) (head 1 (condition_number c) (test_number k)) (there (condition_number c) (test_number k) 5 10 (condition_few c) (test_few k)))
      ∙ terms_read _ (every_at terms_ranged t.lines (10 * condition_number c + test_number k) None refl fit.terms)))

  module _ (i : ℕ) where
    one : Resource
    one = get_or t.resources i no_resource

    -- a slot of a resource, whether it is there or not
    slot_said : (k u : ℕ) → k ≢ 1 → (i < 32 → head_fault kinds (head k i u) ≡ 0) → (32 ≤ i → head_fault kinds (head k i u) ≡ 0 → ⊥) → slot (slots_of t) k i u ≡ holds one k u
    unfolding slots_of one
    slot_said k u ne within beyond =
        ⊎_elim
        (λ lt. held_from (table_holds t.lines t.resources) (head k i u) (within lt) ∙ cond-false _ _ _ (ne_eqb k 1 ne))
        (λ le.
        let whole = fit.whole in
        held_nowhere _ (head k i u) (beyond le) ∙ sym (ap (λ (r : Resource). holds r k u) (get_or_past t.resources i no_resource (omega arith)) ∙ nothing_held k u))
        (cases_lt i 32)

    offer_slot : (u : ℕ) → u < 8 → slot (slots_of t) 3 i u ≡ values_hold one.offer u
    unfolding holds
    offer_slot u h = slot_said 3 u (λ e. omega arith) (λ lt. there i u 32 8 lt h) (far i u 8)

    -- the body of an offer's parameter
    pub offer_held : (u : ℕ) → u < 8 → slot (slots_of t) 3 i u ≡ values_hold (get_or t.resources i no_resource).offer u
    unfolding one
    offer_held u h = offer_slot u h

    reference_slot : (u : ℕ) → u < 8 → slot (slots_of t) 4 i u ≡ values_hold one.reference u
    unfolding holds
    reference_slot u h = slot_said 4 u (λ e. omega arith) (λ lt. there i u 32 8 lt h) (far i u 8)

    pub own_said : own (slots_of t) i ≡ own_of (get_or t.resources i no_resource)
    unfolding holds one
    own_said =
        let p = parts one (every_at ranged t.resources i no_resource refl fit.records) in
        λ j. record {
          standing = (ap (option_map standing_of) (slot_said 2 0 (λ e. omega arith) (λ lt. there i 0 32 1 lt (omega arith)) (far i 0 1)) ∙ standing_said one.standing) j;
          offer = record {
            curve = λ q. (ap (option_map curve_steps) (offer_slot (product_number q) (let h = product_few q in omega arith)) ∙ curve_said one.offer p.offer q) j;
            amount = λ a. (ap (option_map number) (offer_slot (4 + amount_number a) (let h = amount_few a in omega arith)) ∙ amount_said one.offer p.offer a) j;
          };
          reference = record {
            curve = λ q. (ap (option_map curve_steps) (reference_slot (product_number q) (let h = product_few q in omega arith)) ∙ curve_said one.reference p.reference q) j;
            amount = λ a. (ap (option_map number) (reference_slot (4 + amount_number a) (let h = amount_few a in omega arith)) ∙ amount_said one.reference p.reference a) j;
          };
          quantity = λ q. (ap (option_map word) (slot_said 5 (product_number q) (λ e. omega arith) (λ lt. there i (product_number q) 32 4 lt (product_few q)) (far i (product_number q) 4))
              ∙ quantity_read _ (every_at quantity_ranged one.quantities (product_number q) None refl p.quantities)) j;
          price = λ q run.
              let u : ℕ = 3 * product_number q + run_number run in
              let few : u < 12 = let a = product_few q in let b = run_few run in omega arith in
              (ap (option_map number) (slot_said 6 u (λ e. omega arith) (λ lt. there i u 32 12 lt few) (far i u 12))
              ∙ price_read _ (every_at price_ranged one.prices u None refl p.prices)) j;
        }

  -- what every resource says
  pub owns_said : own (slots_of t) ≡ (λ i. own_of (get_or t.resources i no_resource))
  owns_said = fun_ext own_said
