-- What a table's slots hold once its offers are mitigated.
use Rattle.std.proofs.Common.{◌≡◌, ℕ, zero, suc, ◌<◌, Bool, true, false, cond, List, get_or, Option, sym, refl, ◌∙◌, subst, ⊎_elim, arith}
use Rattle.std.proofs.lemmas.Bool.{cond-false, ne_eqb, cases_eq}
use Rattle.std.specs.Option.{option_map}
use Rattle.kinds.specs.Judged.{replaced}
use Rattle.vocabulary.specs.declared.parameter.Parameter.{Parameter}
use Rattle.vocabulary.specs.declared.parameter.Parameter.TheVariants.{Curve, Amount}
use Rattle.vocabulary.specs.declared.resource.Values.{Values}
use Rattle.vocabulary.specs.Empty.{no_resource}
use Rattle.vocabulary.specs.Orders.{parameter_at}
use Rattle.vocabulary.specs.Readings.{Lines, Levels, Own, values_of, own_of, lines_of}
use Rattle.charges.specs.Findings.{Meanings}
use Rattle.bodies.specs.Numbers.{number_bytes}
use Rattle.bodies.specs.Curves.{curve_bytes}
use Rattle.entries.specs.Entries.{head}
use Rattle.entries.specs.Files.{head_fault}
use Rattle.entries.specs.declared.head.Head.{Head}
use Rattle.entries.specs.Table.{kinds}
use Rattle.ledger.specs.Mitigation.{substituted, mitigated_bytes, mitigated_body, mitigated_held}
use Rattle.ledger.proofs.Holdings.{held_from}
use Rattle.table.specs.declared.hour.Table.{Table}
use Rattle.table.specs.Holding.{values_hold}
use Rattle.table.specs.Ranges.{AllRanged}
use Rattle.table.specs.Tables.{table_holds, slots_of}
use Rattle.table.proofs.Saying.{lines_said, own_said, offer_held}
use Rattle.table.proofs.Tables.{exists}
use Rattle.offers.specs.Rows.{mitigated_rows}

-- the bytes of a parameter
abbrev level_bytes : Levels → Parameter → Option (List ℕ)
level_bytes levels (Curve product) = option_map curve_bytes (levels.curve product)
level_bytes levels (Amount amount) = option_map number_bytes (levels.amount amount)

values_bytes : (v : Values) (u : ℕ) → u < 8 → values_hold v u ≡ level_bytes (values_of v) (parameter_at u)
unfolding values_hold
values_bytes v zero h = refl
values_bytes v (suc zero) h = refl
values_bytes v (suc (suc zero)) h = refl
values_bytes v (suc (suc (suc zero))) h = refl
values_bytes v (suc (suc (suc (suc zero)))) h = refl
values_bytes v (suc (suc (suc (suc (suc zero))))) h = refl
values_bytes v (suc (suc (suc (suc (suc (suc zero)))))) h = refl
values_bytes v (suc (suc (suc (suc (suc (suc (suc zero))))))) h = refl
values_bytes v (suc (suc (suc (suc (suc (suc (suc (suc u)))))))) h = absurd (omega arith)

-- an offer that is not substituted stays
chosen : {V : Type 0} (write : V → List ℕ) (substitute : V → V → V) (b : Bool) (reference offer : Option V)
    → cond b (option_map write (replaced substitute b reference offer)) (option_map write offer) ≡ option_map write (replaced substitute b reference offer)
chosen write substitute true reference offer = refl
chosen write substitute false reference offer = refl

left : (m : Meanings) (lines : Lines) (o : Own) (p : Parameter) → mitigated_body m lines o p (level_bytes o.offer p) ≡ mitigated_bytes m lines o p
left m lines o (Curve product) = chosen curve_bytes _ (substituted m lines o (Curve product)) _ _
left m lines o (Amount amount) = chosen number_bytes _ (substituted m lines o (Amount amount)) _ _

-- by rows and by slots the same, where every number is in its range
module _ (m : Meanings) (t : Table) (fit : AllRanged t) where
  offer_is : (i u : ℕ) → u < 8 → mitigated_rows m t (head 3 i u) ≡ mitigated_held m (slots_of t) (head 3 i u)
  offer_is i u h =
      let held = offer_held t fit i u h ∙ values_bytes (get_or t.resources i no_resource).offer u h in
      sym ((λ j. mitigated_body m (lines_said t fit j) (own_said t fit i j) (parameter_at u) (held j))
      ∙ left m (lines_of t.lines) (own_of (get_or t.resources i no_resource)) (parameter_at u))

  other_is : (h : Head) → (h.kind ≡ 3 → ⊥) → head_fault kinds h ≡ 0 → mitigated_rows m t h ≡ mitigated_held m (slots_of t) h
  unfolding slots_of
  other_is h ne there =
      let no = ne_eqb h.kind 3 ne in
      cond-false _ _ _ no ∙ sym (cond-false _ _ _ no ∙ held_from (table_holds t.lines t.resources) h there)

  pub rows_said : (h : Head) → head_fault kinds h ≡ 0 → mitigated_rows m t h ≡ mitigated_held m (slots_of t) h
  rows_said h there =
      ⊎_elim
      (λ e.
      let P : ℕ → Type 0 = λ k. head_fault kinds (head k h.first h.sub) ≡ 0 in
      let few : h.sub < 8 = (exists h.first h.sub 32 8 (subst P e there)).1 in
      (λ j. mitigated_rows m t (head (e j) h.first h.sub)) ∙ offer_is h.first h.sub few ∙ (λ j. mitigated_held m (slots_of t) (head (sym e j) h.first h.sub)))
      (λ ne. other_is h ne there)
      (cases_eq h.kind 3)
