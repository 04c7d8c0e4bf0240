-- A record of which one field is written: its slots.
use Rattle.std.proofs.Common.{◌≡◌, ℕ, ◌-◌, ◌<◌, ◌≤◌, Bool, true, cond, eqb, ltb, List, length, get_or, set, ℤ, is_some, Some, None, Option, sym, refl, ap, ◌∙◌, subst, ⊎_elim, arith, get_or-set_other, get_or-set_same}
use Rattle.std.proofs.lemmas.Bool.{cond-true, cond-false, cases_Bool, eqb-true, lt-ltb, le-ltb, ltb-false, and_parts, and_from}
use Rattle.std.specs.Option.{option_map}
use Rattle.curves.specs.declared.row.Row.{Row}
use Rattle.curves.specs.Rows.{curve_in}
use Rattle.vocabulary.specs.declared.standing.Standing.{Standing}
use Rattle.vocabulary.specs.declared.resource.Values.{Values}
use Rattle.vocabulary.specs.declared.resource.Remark.{Remark}
use Rattle.vocabulary.specs.declared.resource.Resource.{Resource}
use Rattle.vocabulary.specs.Readings.{no_row}
use Rattle.bodies.specs.Bodies.{standing_bytes, most_steps}
use Rattle.entries.specs.Entries.{Raw, raw_of}
use Rattle.entries.specs.declared.entry.Entry.{Entry}
use Rattle.entries.specs.declared.head.Head.{Head}
use Rattle.bodies.specs.Curves.{curve_bytes}
use Rattle.bodies.specs.Numbers.{word_bytes, number_bytes}
use Rattle.table.specs.Ranges.{every, amount_ranged, price_ranged, quantity_ranged, row_ranged, values_ranged, ranged}
use Rattle.table.specs.Holding.{by_kind, at_sub_zero, values_hold, remark_held, holds, ValuesChanged, Changed}
use Rattle.table.proofs.Keeping.{every_set, parts, together}

-- a branch may change where it is taken
branch : {A : Type 0} {k n : ℕ} {x y z w : A} → (k ≡ n → x ≡ y) → z ≡ w → cond (eqb k n) x z ≡ cond (eqb k n) y w
branch {A} {k} {n} {x} {y} {z} {w} e rest =
    ⊎_elim
    (λ t. cond-true _ x z t ∙ e (eqb-true k n t) ∙ sym (cond-true _ y w t))
    (λ f. cond-false _ x z f ∙ rest ∙ sym (cond-false _ y w f))
    (cases_Bool (eqb k n))

-- the same by kinds, where one of them may change
module _ (k : ℕ) {a b c d e f a' b' c' d' e' f' : Option (List ℕ)} where
  same_by_kind : (k ≡ 2 → a ≡ a') → (k ≡ 3 → b ≡ b') → (k ≡ 4 → c ≡ c') → (k ≡ 5 → d ≡ d') → (k ≡ 6 → e ≡ e') → (k ≡ 7 → f ≡ f')
      → by_kind k a b c d e f None ≡ by_kind k a' b' c' d' e' f' None
  same_by_kind p q r s t u = branch p (branch q (branch r (branch s (branch t (branch u refl)))))

-- what changed, and what was in range still is
abbrev pub Changes : Resource → Resource → ℕ → ℕ → Option (List ℕ) → Type 0
Changes r r' kind sub body = record { changed : Changed r r' kind sub body; kept : ranged r ≡ true → ranged r' ≡ true }

abbrev pub ValuesChange : Values → Values → ℕ → Option (List ℕ) → Type 0
ValuesChange v v' parameter body = record { changed : ValuesChanged v v' parameter body; kept : values_ranged v ≡ true → values_ranged v' ≡ true }

same : {A : Type 0} {x : A} {P : Type 0} → P → x ≡ x
same _ = refl

off_zero : (u : ℕ) (x y : Option (List ℕ)) → (u ≡ 0 → ⊥) → at_sub_zero u x ≡ at_sub_zero u y
off_zero u x y ne = branch (λ e. absurd (ne e)) refl

module _ (r : Resource) where
  abbrev pub with_standing : Option Standing → Resource
  with_standing s = record { standing = s; offer = r.offer; reference = r.reference; quantities = r.quantities; prices = r.prices; remark = r.remark }

  abbrev pub with_offer : Values → Resource
  with_offer v = record { standing = r.standing; offer = v; reference = r.reference; quantities = r.quantities; prices = r.prices; remark = r.remark }

  abbrev pub with_reference : Values → Resource
  with_reference v = record { standing = r.standing; offer = r.offer; reference = v; quantities = r.quantities; prices = r.prices; remark = r.remark }

  abbrev pub with_quantities : List (Option ℕ) → Resource
  with_quantities qs = record { standing = r.standing; offer = r.offer; reference = r.reference; quantities = qs; prices = r.prices; remark = r.remark }

  abbrev pub with_prices : List (Option ℤ) → Resource
  with_prices ps = record { standing = r.standing; offer = r.offer; reference = r.reference; quantities = r.quantities; prices = ps; remark = r.remark }

  abbrev pub with_remark : Remark → Resource
  with_remark m = record { standing = r.standing; offer = r.offer; reference = r.reference; quantities = r.quantities; prices = r.prices; remark = m }

  pub standing_changed : (s : Option Standing) (body : Option (List ℕ)) → option_map standing_bytes s ≡ body → Changes r (with_standing s) 2 0 body
  unfolding holds
  standing_changed s body e = record {
    changed = record {
      here = e;
      elsewhere = λ k u ne. same_by_kind k (λ is. off_zero u _ _ (λ zero. ne is zero)) same same same same same;
    };
    kept = λ kept. kept;
  }

  pub remark_changed : (m : Remark) (body : Option (List ℕ)) → remark_held m ≡ body → Changes r (with_remark m) 7 0 body
  unfolding holds
  remark_changed m body e = record {
    changed = record {
      here = e;
      elsewhere = λ k u ne. same_by_kind k same same same same same (λ is. off_zero u _ _ (λ zero. ne is zero));
    };
    kept = λ kept. kept;
  }

  module _ (sub : ℕ) (body : Option (List ℕ)) where
    pub quantity_changed : (q : Option ℕ) → sub < length r.quantities → option_map word_bytes q ≡ body → quantity_ranged q ≡ true → Changes r (with_quantities (set r.quantities sub q)) 5 sub body
    unfolding holds
    quantity_changed q h e keeps = record {
      changed = record {
        here = ap (option_map word_bytes) (get_or-set_same r.quantities sub q None h) ∙ e;
        elsewhere = λ k u ne. same_by_kind k same same same (λ is. ap (option_map word_bytes) (get_or-set_other r.quantities sub u q None (ne is))) same same;
      };
      kept = λ kept. let p = parts r kept in together (with_quantities (set r.quantities sub q)) (record { offer = p.offer; reference = p.reference; quantities = every_set quantity_ranged r.quantities sub q keeps p.quantities; prices = p.prices });
    }

    pub price_changed : (p : Option ℤ) → sub < length r.prices → option_map number_bytes p ≡ body → price_ranged p ≡ true → Changes r (with_prices (set r.prices sub p)) 6 sub body
    unfolding holds
    price_changed p h e keeps = record {
      changed = record {
        here = ap (option_map number_bytes) (get_or-set_same r.prices sub p None h) ∙ e;
        elsewhere = λ k u ne. same_by_kind k same same same same (λ is. ap (option_map number_bytes) (get_or-set_other r.prices sub u p None (ne is))) same;
      };
      kept = λ kept. let w = parts r kept in together (with_prices (set r.prices sub p)) (record { offer = w.offer; reference = w.reference; quantities = w.quantities; prices = every_set price_ranged r.prices sub p keeps w.prices });
    }

    pub offer_changed : (v : Values) → ValuesChange r.offer v sub body → Changes r (with_offer v) 3 sub body
    unfolding holds
    offer_changed v c = record {
      changed = record {
        here = c.changed.here;
        elsewhere = λ k u ne. same_by_kind k same (λ is. c.changed.elsewhere u (ne is)) same same same same;
      };
      kept = λ kept. let p = parts r kept in together (with_offer v) (record { offer = c.kept p.offer; reference = p.reference; quantities = p.quantities; prices = p.prices });
    }

    pub reference_changed : (v : Values) → ValuesChange r.reference v sub body → Changes r (with_reference v) 4 sub body
    unfolding holds
    reference_changed v c = record {
      changed = record {
        here = c.changed.here;
        elsewhere = λ k u ne. same_by_kind k same same (λ is. c.changed.elsewhere u (ne is)) same same same;
      };
      kept = λ kept. let p = parts r kept in together (with_reference v) (record { offer = p.offer; reference = c.kept p.reference; quantities = p.quantities; prices = p.prices });
    }

module _ (v : Values) (sub : ℕ) (body : Option (List ℕ)) where
  pub curve_changed : (row : Row) → sub < 4 → sub < length v.curves → option_map curve_bytes (curve_in (most_steps sub) row) ≡ body → row_ranged row ≡ true
      → ValuesChange v (record { curves = set v.curves sub row; amounts = v.amounts }) sub body
  unfolding values_hold
  curve_changed row small h e keeps = record {
    changed = record {
      here = cond-true (ltb sub 4) _ _ (lt-ltb sub 4 small) ∙ ap (λ w. option_map curve_bytes (curve_in (most_steps sub) w)) (get_or-set_same v.curves sub row no_row h) ∙ e;
      elsewhere = λ p ne. ap (λ w. cond (ltb p 4) (option_map curve_bytes (curve_in (most_steps p) w)) (option_map number_bytes (get_or v.amounts (p - 4) None))) (get_or-set_other v.curves sub p row no_row ne);
    };
    kept = λ kept. let p = and_parts (every row_ranged v.curves) (every amount_ranged v.amounts) kept in and_from _ _ (every_set row_ranged v.curves sub row keeps p.0) p.1;
  }

  pub amount_changed : (z : Option ℤ) → 4 ≤ sub → sub - 4 < length v.amounts → option_map number_bytes z ≡ body → amount_ranged z ≡ true
      → ValuesChange v (record { curves = v.curves; amounts = set v.amounts (sub - 4) z }) sub body
  unfolding values_hold
  amount_changed z large h e keeps = record {
    changed = record {
      here = cond-false (ltb sub 4) _ _ (le-ltb sub 4 large) ∙ ap (option_map number_bytes) (get_or-set_same v.amounts (sub - 4) z None h) ∙ e;
      elsewhere = λ p ne. ⊎_elim
          (λ t. cond-true (ltb p 4) _ _ t ∙ sym (cond-true (ltb p 4) _ _ t))
          (λ f. cond-false (ltb p 4) _ _ f ∙ ap (option_map number_bytes) (get_or-set_other v.amounts (sub - 4) (p - 4) z None (λ is. let le = ltb-false p 4 f in ne (omega arith))) ∙ sym (cond-false (ltb p 4) _ _ f))
          (cases_Bool (ltb p 4));
    };
    kept = λ kept. let p = and_parts (every row_ranged v.curves) (every amount_ranged v.amounts) kept in and_from _ _ p.0 (every_set amount_ranged v.amounts (sub - 4) z keeps p.1);
  }

-- the same of the slot that a head names
module _ (r : Resource) (h : Head) (k u : ℕ) (kind : k ≡ h.kind) (sub : u ≡ h.sub) where
  pub changes_at : {r' : Resource} {body : Option (List ℕ)} → Changes r r' k u body → Changes r r' h.kind h.sub body
  changes_at {r'} {body} c = subst (λ n. Changes r r' n h.sub body) kind (subst (λ n. Changes r r' k n body) sub c)

  pub full_at : (b : Bool) → b ≡ is_some (holds r k u) → b ≡ is_some (holds r h.kind h.sub)
  full_at b e = e ∙ (λ i. is_some (holds r (kind i) (sub i)))

-- the same of the slot that an entry names
pub changes_by : {r r' : Resource} (e : Entry) (x : Raw) → raw_of e ≡ x → Changes r r' x.head.kind x.head.sub (Some x.body) → Changes r r' (raw_of e).head.kind (raw_of e).head.sub (Some (raw_of e).body)
changes_by {r} {r'} e x is c = subst (λ (y : Raw). Changes r r' y.head.kind y.head.sub (Some y.body)) (sym is) c
