-- The table of which nothing is known has empty slots.
use Rattle.std.proofs.Common.{◌≡◌, ℕ, ◌+◌, ◌-◌, ◌*◌, Bool, true, false, cond, eqb, ltb, List, get_or, replicate, None, Option, sym, refl, subst, ⊎_elim, arith}
use Rattle.std.proofs.lemmas.List.{get_or-replicate, get_or_past, length-replicate}
use Rattle.std.proofs.lemmas.Bool.{cases_lt}
use Rattle.std.specs.Option.{option_map}
use Rattle.curves.specs.declared.row.Row.{Row}
use Rattle.curves.specs.Rows.{empty_row, curve_in}
use Rattle.vocabulary.specs.declared.lines.Terms.{Terms}
use Rattle.vocabulary.specs.declared.resource.Resource.{Resource}
use Rattle.vocabulary.specs.Empty.{empty_resource, no_resource}
use Rattle.vocabulary.specs.Readings.{no_row}
use Rattle.bodies.specs.Bodies.{terms_bytes, most_steps}
use Rattle.bodies.specs.Curves.{curve_bytes}
use Rattle.bodies.specs.Numbers.{word_bytes, number_bytes}
use Rattle.entries.specs.Table.{kinds}
use Rattle.ledger.specs.Ledger.{nothing}
use Rattle.ledger.specs.Views.{slots_from}
use Rattle.ledger.proofs.Viewing.{views}
use Rattle.table.specs.Holding.{by_kind, values_hold, holds}
use Rattle.table.specs.Tables.{table_holds}

-- an element of a list of one value, or the default past its end
either : {A : Type 0} (P : A → Type 0) (n i : ℕ) (x d : A) → P x → P d → P (get_or (replicate n x) i d)
either {A} P n i x d px pd =
    ⊎_elim
    (λ lt. subst P (sym (get_or-replicate n i x d lt)) px)
    (λ le. subst P (sym (get_or_past (replicate n x) i d (omega (arith, length-replicate {A = A} n x)))) pd)
    (cases_lt i n)

both_none : (b : Bool) (x y : Option (List ℕ)) → x ≡ None → y ≡ None → cond b x y ≡ None
both_none true x y p q = p
both_none false x y p q = q

none_by_kind : (k : ℕ) (a b c d e f : Option (List ℕ)) → a ≡ None → b ≡ None → c ≡ None → d ≡ None → e ≡ None → f ≡ None → by_kind k a b c d e f None ≡ None
none_by_kind k a b c d e f p q r s t u =
    both_none (eqb k 2) _ _ p (both_none (eqb k 3) _ _ q (both_none (eqb k 4) _ _ r (both_none (eqb k 5) _ _ s (both_none (eqb k 6) _ _ t (both_none (eqb k 7) _ _ u refl)))))

values_none : (u : ℕ) → values_hold empty_resource.offer u ≡ None
unfolding values_hold
values_none u =
    both_none (ltb u 4) _ _
    (either (λ (row : Row). option_map curve_bytes (curve_in (most_steps u) row) ≡ None) 4 u empty_row no_row refl refl)
    (either (λ o. option_map number_bytes o ≡ None) 4 (u - 4) None None refl refl)

past_none : (u : ℕ) → values_hold no_resource.offer u ≡ None
unfolding values_hold
past_none u = both_none (ltb u 4) _ _ refl refl

pub nothing_held : (k u : ℕ) → holds no_resource k u ≡ None
unfolding holds
nothing_held k u =
    let zero = both_none (eqb u 0) None None refl refl in
    none_by_kind k _ _ _ _ _ _ zero (past_none u) (past_none u) refl refl zero

holds_none : (i k u : ℕ) → holds (get_or (replicate 32 empty_resource) i no_resource) k u ≡ None
unfolding holds
holds_none i k u =
    let zero = both_none (eqb u 0) None None refl refl in
    either (λ (r : Resource). holds r k u ≡ None) 32 i empty_resource no_resource
    (none_by_kind k _ _ _ _ _ _ zero (values_none u) (values_none u)
    (either (λ (o : Option ℕ). option_map word_bytes o ≡ None) 4 u None None refl refl)
    (either (λ o. option_map number_bytes o ≡ None) 12 u None None refl refl) zero)
    (nothing_held k u)

pub table_empty : slots_from (table_holds (replicate 50 None) (replicate 32 empty_resource)) ≡ nothing kinds
table_empty =
    views.empty (table_holds (replicate 50 None) (replicate 32 empty_resource)) (λ h _.
    both_none (eqb h.kind 1) _ _
    (either (λ (o : Option Terms). option_map terms_bytes o ≡ None) 50 (10 * h.first + h.sub) None None refl refl)
    (holds_none h.first h.kind h.sub))
