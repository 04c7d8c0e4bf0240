-- Mitigated slots: well formed, changed exactly where the rules substitute, and settled.
use Rattle.std.proofs.Common.{◌≡◌, ℕ, zero, suc, ◌+◌, ◌*◌, ◌<◌, Bool, true, false, ◌&&◌, ltb, List, ℤ, is_some, Some, None, Option, sym, refl, ap, ◌∙◌, subst, subst₂, ⊎_elim, arith}
use Rattle.std.proofs.lemmas.Bool.{and_parts, and_right, ltb-true, both_ways, cases_eq, cases_Bool, cond-false, ne_eqb}
use Rattle.std.specs.Option.{option_map}
use Rattle.bounds.specs.declared.line.Line.{Line}
use Rattle.curves.specs.declared.step.Step.{Step}
use Rattle.kinds.specs.Conduct.{all_pass}
use Rattle.kinds.specs.Judged.{judged, DifferWhen}
use Rattle.vocabulary.specs.declared.condition.Condition.{Condition}
use Rattle.vocabulary.specs.declared.condition.Condition.TheVariants.{Narrow, Dynamic, Broad, GlobalPower, Intertie}
use Rattle.vocabulary.specs.declared.product.Product.TheVariants.{Energy, Spinning, NonSpinning, ThirtyMinute}
use Rattle.vocabulary.specs.declared.amount.Amount.{Amount}
use Rattle.vocabulary.specs.declared.amount.Amount.TheVariants as amounts
use Rattle.vocabulary.specs.declared.parameter.Parameter.{Parameter}
use Rattle.vocabulary.specs.declared.parameter.Parameter.TheVariants as parameters
use Rattle.vocabulary.specs.Numbers.{product_number, condition_number, amount_number, test_number, run_number, parameter_number}
use Rattle.vocabulary.specs.Tests.{curve_test, amount_test}
use Rattle.vocabulary.specs.Verdicts.{failed}
use Rattle.vocabulary.specs.Readings.{Levels, Own, Lines, line_under}
use Rattle.vocabulary.specs.Conditions.{condition_in_force, outside_zones, in_zone}
use Rattle.verdicts.specs.Rules.{amount_meaning, impact}
use Rattle.verdicts.specs.Mitigation.{replaceable}
use Rattle.charges.specs.Findings.{Meanings}
use Rattle.bodies.specs.Numbers.{word, number}
use Rattle.bodies.specs.Curves.{curve_steps}
use Rattle.bodies.specs.Bodies.{standing_of, parameter_fault}
use Rattle.entries.specs.declared.head.Head.{Head}
use Rattle.entries.specs.Entries.{head}
use Rattle.entries.specs.Files.{head_fault}
use Rattle.entries.specs.Table.{kinds}
use Rattle.ledger.specs.Slots.{Slots, content_fault, entry_file, WellFormed}
use Rattle.ledger.specs.Ledger.{Ledger}
use Rattle.ledger.specs.Views.{slots_from}
use Rattle.ledger.specs.Readings.{held, slot, line_in, lines, levels, own}
use Rattle.vocabulary.specs.Orders.{parameter_at, product_of}
use Rattle.answers.specs.Answers.{conduct}
use Rattle.ledger.specs.Mitigation.{substituted, mitigated_body, mitigated_held, mitigated, mitigated_file}
use Rattle.charges.specs.Lawful.{PassesReference, Lawful}
use Rattle.ledger.specs.Promises.{OfferMitigated, Mitigates}
use Rattle.ledger.proofs.Laws.{reloads}
use Rattle.ledger.proofs.Holdings.{held_nowhere, held_from, same_slots, held_fits, from_fits}
use Rattle.ledger.proofs.Anew.{Form, contained, chosen, anew, Substitutes, anew_none, anew_fits, anew_differs, settled}
use Rattle.ledger.proofs.Curves.{curve_form, curve_substitutes}
use Rattle.ledger.proofs.Amounts.{amount_form, amount_substitutes}

-- parameters and their numbers

parameter_back : (p : Parameter) → parameter_at (parameter_number p) ≡ p
parameter_back (parameters.Curve Energy) = refl
parameter_back (parameters.Curve Spinning) = refl
parameter_back (parameters.Curve NonSpinning) = refl
parameter_back (parameters.Curve ThirtyMinute) = refl
parameter_back (parameters.Amount amounts.StartUp) = refl
parameter_back (parameters.Amount amounts.SpeedNoLoad) = refl
parameter_back (parameters.Amount amounts.RunTime) = refl
parameter_back (parameters.Amount amounts.RampRate) = refl

parameter_numbered : (n : ℕ) → n < 8 → parameter_number (parameter_at n) ≡ n
parameter_numbered zero h = refl
parameter_numbered (suc zero) h = refl
parameter_numbered (suc (suc zero)) h = refl
parameter_numbered (suc (suc (suc zero))) h = refl
parameter_numbered (suc (suc (suc (suc zero)))) h = refl
parameter_numbered (suc (suc (suc (suc (suc zero))))) h = refl
parameter_numbered (suc (suc (suc (suc (suc (suc zero)))))) h = refl
parameter_numbered (suc (suc (suc (suc (suc (suc (suc zero))))))) h = refl
parameter_numbered (suc (suc (suc (suc (suc (suc (suc (suc n)))))))) h = absurd (omega arith)

-- the slot of a parameter of resource r: kind 3 for its offer, 4 for its reference
abbrev of_parameter : ℕ → ℕ → Parameter → Head
of_parameter kind r p = head kind r (parameter_number p)

offer_named : (h : Head) → head_fault kinds h ≡ 0 → h.kind ≡ 3 → h ≡ of_parameter 3 h.first (parameter_at h.sub)
offer_named h z e =
    let slots : Bool = ltb h.first 32 && ltb h.sub 8 in
    let here : head_fault kinds (head 3 h.first h.sub) ≡ 0 = ap (λ k. head_fault kinds (head k h.first h.sub)) (sym e) ∙ z in
    let small : h.sub < 8 =
    ⊎_elim
    (λ t. ltb-true _ _ (and_parts (ltb h.first 32) (ltb h.sub 8) t).1)
    (λ f. absurd (let four : head_fault kinds (head 3 h.first h.sub) ≡ 4 = cond-false _ _ _ f in omega arith))
    (cases_Bool slots) in
    λ i. record { kind = e i; first = h.first; sub = sym (parameter_numbered h.sub small) i }

offer_content : (r : ℕ) (p : Parameter) (o : Option (List ℕ)) → content_fault kinds (of_parameter 3 r p) o ≡ contained (parameter_fault (parameter_number p)) o
offer_content r p None = refl
offer_content r p (Some body) = refl

reference_content : (r : ℕ) (p : Parameter) (o : Option (List ℕ)) → content_fault kinds (of_parameter 4 r p) o ≡ contained (parameter_fault (parameter_number p)) o
reference_content r p None = refl
reference_content r p (Some body) = refl

-- the kind of a parameter's values

abbrev Value : Parameter → Type 0
Value (parameters.Curve product) = List Step
Value (parameters.Amount amount) = ℤ

abbrev form : Meanings → (p : Parameter) → Form (Value p)
form m (parameters.Curve product) = curve_form m.curves (product_number product)
form m (parameters.Amount amount) = amount_form (amount_meaning m.amounts m.quantities amount) (4 + amount_number amount)

amount_lawful : (m : Meanings) → Lawful m → (amount : Amount) → PassesReference (amount_meaning m.amounts m.quantities amount)
amount_lawful m lawful amounts.StartUp = lawful.amounts
amount_lawful m lawful amounts.SpeedNoLoad = lawful.amounts
amount_lawful m lawful amounts.RunTime = lawful.amounts
amount_lawful m lawful amounts.RampRate = lawful.quantities

substitutes : (m : Meanings) → Lawful m → (p : Parameter) → Substitutes (form m p)
substitutes m lawful (parameters.Curve product) = curve_substitutes m.curves lawful.curves (product_number product)
substitutes m lawful (parameters.Amount amount) = amount_substitutes (amount_meaning m.amounts m.quantities amount) (amount_lawful m lawful amount) (4 + amount_number amount)

form_fault : (m : Meanings) (p : Parameter) (body : List ℕ) → parameter_fault (parameter_number p) body ≡ (form m p).fault body
form_fault m (parameters.Curve Energy) body = refl
form_fault m (parameters.Curve Spinning) body = refl
form_fault m (parameters.Curve NonSpinning) body = refl
form_fault m (parameters.Curve ThirtyMinute) body = refl
form_fault m (parameters.Amount amounts.StartUp) body = refl
form_fault m (parameters.Amount amounts.SpeedNoLoad) body = refl
form_fault m (parameters.Amount amounts.RunTime) body = refl
form_fault m (parameters.Amount amounts.RampRate) body = refl

form_content : (m : Meanings) (p : Parameter) (o : Option (List ℕ)) → contained (parameter_fault (parameter_number p)) o ≡ contained (form m p).fault o
form_content m p None = refl
form_content m p (Some body) = form_fault m p body

-- whether one is substituted, by zone

outside_zone : (c : Option Condition) (a b : Bool) → (c ≡ None → a ≡ false) → in_zone c ≡ false → (a && (is_some (outside_zones c) && b)) ≡ (a && b)
outside_zone None a b none z = ap (λ x. x && false) (none refl) ∙ sym (ap (λ x. x && b) (none refl))
outside_zone (Some Narrow) a b none z = refl
outside_zone (Some Dynamic) a b none z = refl
outside_zone (Some Broad) a b none z = refl
outside_zone (Some GlobalPower) a b none z = refl
outside_zone (Some Intertie) a b none z = absurd (both_ways true z refl)

inside_zone : (c : Option Condition) (a b : Bool) → in_zone c ≡ true → (a && (is_some (outside_zones c) && b)) ≡ false
inside_zone None a b z = absurd (both_ways false refl z)
inside_zone (Some Narrow) a b z = absurd (both_ways false refl z)
inside_zone (Some Dynamic) a b z = absurd (both_ways false refl z)
inside_zone (Some Broad) a b z = absurd (both_ways false refl z)
inside_zone (Some GlobalPower) a b z = absurd (both_ways false refl z)
inside_zone (Some Intertie) a b z = and_right a false refl

module _ (m : Meanings) (ls : Lines) (o : Own) where
  -- no conduct fails without a condition
  untested : (p : Parameter) → condition_in_force o (product_of p) ≡ None → failed (conduct m ls o p) ≡ false
  untested (parameters.Curve product) e =
      ap (λ c. failed (judged (λ line. all_pass (m.curves line)) (line_under ls c (curve_test product)) (o.reference.curve product) (o.offer.curve product))) e
  untested (parameters.Amount amount) e =
      ap (λ c. failed (judged (amount_meaning m.amounts m.quantities amount) (line_under ls c (amount_test amount)) (o.reference.amount amount) (o.offer.amount amount))) e

  substituted_is : (p : Parameter) → substituted m ls o p ≡ (failed (conduct m ls o p) && replaceable m.impacts ls o (product_of p))
  substituted_is (parameters.Curve product) = refl
  substituted_is (parameters.Amount amount) = refl

  module _ (p : Parameter) where
    substituted_outside : in_zone (condition_in_force o (product_of p)) ≡ false
        → substituted m ls o p ≡ (failed (conduct m ls o p) && failed (impact m.impacts ls o (product_of p)))
    substituted_outside z = substituted_is p ∙ outside_zone (condition_in_force o (product_of p)) _ _ (untested p) z

    substituted_inside : in_zone (condition_in_force o (product_of p)) ≡ true → substituted m ls o p ≡ false
    substituted_inside z = substituted_is p ∙ inside_zone (condition_in_force o (product_of p)) _ _ z

-- a resource's records with another offer
abbrev reoffered : Own → Levels → Own
reoffered o v = record { standing = o.standing; offer = v; reference = o.reference; quantity = o.quantity; price = o.price }

-- one parameter of one resource, with what its slot holds before and after
module _ (m : Meanings) (s : Slots) (r : ℕ) where
  abbrev reference : Parameter → Option (List ℕ)
  reference p = slot s 4 r (parameter_number p)

  abbrev before : Parameter → Option (List ℕ)
  before p = slot s 3 r (parameter_number p)

  abbrev after : Parameter → Option (List ℕ)
  after p = mitigated_body m (lines s) (own s r) p (before p)

  abbrev may : Parameter → Bool
  may p = replaceable m.impacts (lines s) (own s r) (product_of p)

  abbrev line : Parameter → Option Line
  line (parameters.Curve product) = line_under (lines s) (condition_in_force (own s r) product) (curve_test product)
  line (parameters.Amount amount) = line_under (lines s) (condition_in_force (own s r) Energy) (amount_test amount)

  after_is : (p : Parameter) → after p ≡ anew (form m p) (line p) (may p) (reference p) (before p)
  after_is (parameters.Curve product) = refl
  after_is (parameters.Amount amount) = refl

  none_after : (p : Parameter) → before p ≡ None → after p ≡ None
  none_after p e = after_is p ∙ ap (anew (form m p) (line p) (may p) (reference p)) e ∙ anew_none (form m p) (line p) (may p) (reference p)

  -- with offers read from other slots
  chosen_is : (t : Slots) (p : Parameter) → substituted m (lines s) (reoffered (own s r) (levels t 3 r)) p ≡ chosen (form m p) (line p) (may p) (reference p) (slot t 3 r (parameter_number p))
  chosen_is t (parameters.Curve product) = refl
  chosen_is t (parameters.Amount amount) = refl

  module _ (lawful : Lawful m) (well : WellFormed kinds s) (p : Parameter) where
    before_fits : contained (form m p).fault (before p) ≡ 0
    before_fits = sym (offer_content r p (before p) ∙ form_content m p (before p)) ∙ held_fits s well (of_parameter 3 r p)

    reference_fits : contained (form m p).fault (reference p) ≡ 0
    reference_fits = sym (reference_content r p (reference p) ∙ form_content m p (reference p)) ∙ held_fits s well (of_parameter 4 r p)

    after_fits : content_fault kinds (of_parameter 3 r p) (after p) ≡ 0
    after_fits =
        offer_content r p (after p) ∙ form_content m p (after p) ∙ ap (contained (form m p).fault) (after_is p)
        ∙ anew_fits (form m p) (substitutes m lawful p) (line p) (may p) (reference p) (before p) reference_fits before_fits

    after_differs : DifferWhen (substituted m (lines s) (own s r) p) (after p) (before p)
    after_differs =
        let made = anew_differs (form m p) (substitutes m lawful p) (line p) (may p) (reference p) (before p) reference_fits before_fits in
        subst₂ (λ b o. DifferWhen b o (before p)) (sym (chosen_is s p)) (sym (after_is p)) made

    after_settled : (t : Slots) → slot t 3 r (parameter_number p) ≡ after p → substituted m (lines s) (reoffered (own s r) (levels t 3 r)) p ≡ false
    after_settled t e =
        chosen_is t p ∙ ap (chosen (form m p) (line p) (may p) (reference p)) (e ∙ after_is p)
        ∙ settled (form m p) (substitutes m lawful p) (line p) (may p) (reference p) (before p) reference_fits before_fits

-- the mitigated slots as a whole

drawn : (m : Meanings) (s : Slots) → mitigated m s ≡ slots_from (mitigated_held m s)
unfolding mitigated
drawn m s = refl

module _ (m : Meanings) (s : Slots) where
  there : (h : Head) → head_fault kinds h ≡ 0 → held (mitigated m s) h ≡ mitigated_held m s h
  unfolding mitigated
  there h z = held_from (mitigated_held m s) h z

  others : (k f u : ℕ) → (k ≡ 3 → ⊥) → slot (mitigated m s) k f u ≡ slot s k f u
  others k f u ne =
      ⊎_elim
      (λ z. there (head k f u) z ∙ cond-false _ _ _ (ne_eqb k 3 ne))
      (λ no. held_nowhere (mitigated m s) (head k f u) no ∙ sym (held_nowhere s (head k f u) no))
      (cases_eq (head_fault kinds (head k f u)) 0)

  offer_is : (r : ℕ) (p : Parameter) → mitigated_held m s (of_parameter 3 r p) ≡ after m s r p
  offer_is r p = ap (λ q. mitigated_body m (lines s) (own s r) q (before m s r p)) (parameter_back p)

  offer_after : (r : ℕ) (p : Parameter) → slot (mitigated m s) 3 r (parameter_number p) ≡ after m s r p
  offer_after r p =
      let h = of_parameter 3 r p in
      ⊎_elim
      (λ z. there h z ∙ offer_is r p)
      (λ no. held_nowhere (mitigated m s) h no ∙ sym (none_after m s r p (held_nowhere s h no)))
      (cases_eq (head_fault kinds h) 0)

  lines_after : lines (mitigated m s) ≡ lines s
  lines_after = λ i condition test. line_in (others 1 (condition_number condition) (test_number test) (λ (e : ◌≡◌ {A = ℕ} 1 3). omega arith) i)

  own_after : (r : ℕ) → own (mitigated m s) r ≡ reoffered (own s r) (levels (mitigated m s) 3 r)
  own_after r =
      let not-two : ◌≡◌ {A = ℕ} 2 3 → ⊥ = λ e. omega arith in
      let not-four : ◌≡◌ {A = ℕ} 4 3 → ⊥ = λ e. omega arith in
      let not_five : ◌≡◌ {A = ℕ} 5 3 → ⊥ = λ e. omega arith in
      let not-six : ◌≡◌ {A = ℕ} 6 3 → ⊥ = λ e. omega arith in
      λ i. record {
        standing = option_map standing_of (others 2 r 0 not-two i);
        offer = levels (mitigated m s) 3 r;
        reference = record {
          curve = λ product. option_map curve_steps (others 4 r (product_number product) not-four i);
          amount = λ amount. option_map number (others 4 r (4 + amount_number amount) not-four i);
        };
        quantity = λ product. option_map word (others 5 r (product_number product) not_five i);
        price = λ product run. option_map number (others 6 r (3 * product_number product + run_number run) not-six i);
      }

  module _ (lawful : Lawful m) (well : WellFormed kinds s) where
    pub well_after : WellFormed kinds (mitigated m s)
    unfolding mitigated
    well_after = from_fits (mitigated_held m s) (λ h z.
        ⊎_elim
        (λ e.
        let r = h.first in
        let p = parameter_at h.sub in
        subst (λ g. content_fault kinds g (mitigated_held m s g) ≡ 0) (sym (offer_named h z e))
        (ap (content_fault kinds (of_parameter 3 r p)) (offer_is r p) ∙ after_fits m s r lawful well p))
        (λ ne. ap (content_fault kinds h) (cond-false _ _ _ (ne_eqb h.kind 3 ne)) ∙ held_fits s well h)
        (cases_eq h.kind 3))

    settled_all : (r : ℕ) (p : Parameter) → substituted m (lines (mitigated m s)) (own (mitigated m s) r) p ≡ false
    settled_all r p = (λ i. substituted m (lines_after i) (own_after r i) p) ∙ after_settled m s r lawful well p (mitigated m s) (offer_after r p)

    offers : (r : ℕ) (p : Parameter) → OfferMitigated m s r p
    offers r p =
        let P : Bool → Type 0 = λ b. DifferWhen b (slot (mitigated m s) 3 r (parameter_number p)) (before m s r p) in
        let differs : P (substituted m (lines s) (own s r) p) = subst (λ o. DifferWhen (substituted m (lines s) (own s r) p) o (before m s r p)) (sym (offer_after r p)) (after_differs m s r lawful well p) in
        record {
          substituted = differs;
          outside = λ z. subst P (substituted_outside m (lines s) (own s r) p z) differs;
          inside = λ z. subst P (substituted_inside m (lines s) (own s r) p z) differs;
        }

-- what is mitigated stays as it is
module _ (m : Meanings) (s : Slots) (lawful : Lawful m) (well : WellFormed kinds s) where
  stays : (h : Head) → head_fault kinds h ≡ 0 → mitigated_held m (mitigated m s) h ≡ held (mitigated m s) h
  stays h z =
      let t = mitigated m s in
      ⊎_elim
      (λ e.
      let r = h.first in
      let p = parameter_at h.sub in
      subst (λ g. mitigated_held m t g ≡ held t g) (sym (offer_named h z e)) (offer_is m t r p ∙ cond-false _ _ _ (settled_all m s lawful well r p)))
      (λ ne. cond-false _ _ _ (ne_eqb h.kind 3 ne))
      (cases_eq h.kind 3)

  again : mitigated m (mitigated m s) ≡ mitigated m s
  again =
      let t = mitigated m s in
      drawn m t ∙ same_slots (mitigated_held m t) (mitigated_held m s) (λ h z. stays h z ∙ there m s h z) ∙ sym (drawn m s)

pub mitigates : Mitigates
mitigates m lawful s well =
    let back = reloads (mitigated m s) (well_after m s lawful well) in
    record {
      well_formed = well_after m s lawful well;
      offers = offers m s lawful well;
      others = others m s;
      again = again m s lawful well;
      taken = back.obeyed;
      same = ap (λ (l : Ledger). mitigated_file m l.slots) back.ledgered ∙ ap (entry_file kinds) (again m s lawful well);
    }
