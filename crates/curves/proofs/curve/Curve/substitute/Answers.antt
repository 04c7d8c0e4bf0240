use Rattle.std.proofs.Common.{◌≡◌, ℕ, ◌+◌, ◌<◌, ◌≤◌, ℤ, take, set, get_or, length, sym, ap, ◌∙◌, subst, arith}
use Rattle.std.proofs.lemmas.Int.{to_z-of_z}
use Rattle.curves.specs.declared.curve.Curve.{Curve}
use Rattle.curves.specs.Curves.{steps_of}
use Rattle.curves.specs.Steps.{step, in_order, last_end, kept, substitute}
use Rattle.curves.proofs.Walks.{absent_step}
use Rattle.curves.proofs.Substitutes.{written, substitute_in_order, substitute_end}
use Rattle.curves.proofs.curve.Curve.substitute.Goals as goal

-- the first n + 1 steps as they are written
made : (all : Curve) (n q : ℕ) (p : ℤ) → p ≡ (get_or all.steps n absent_step).price → n < all.count → n ≡ length (kept (steps_of all) q)
    → take (n + 1) (set all.steps n (step p q)) ≡ substitute (steps_of all) q
made all n q p same h e = ap (λ x. take (n + 1) (set all.steps n (step x q))) same ∙ written all.steps all.count n q (omega arith) h e

pub invariant_of-result-clause-ordered : goal.invariant_of-result-clause-ordered
invariant_of-result-clause-ordered c =
    let all = c.args.self.now in
    ap in_order (made all _ _ _ (grind (arith, to_z-of_z)) c.kept_count-n.ensures.within c.kept_count-n.ensures.count) ∙ substitute_in_order (steps_of all) _ all.ordered

pub invariant_of-result-clause-small : goal.invariant_of-result-clause-small
invariant_of-result-clause-small c =
    let all = c.args.self.now in
    subst (λ end. end ≤ 100000)
    (sym (ap last_end (made all _ _ _ (grind (arith, to_z-of_z)) c.kept_count-n.ensures.within c.kept_count-n.ensures.count) ∙ substitute_end (steps_of all) c.last_end-quantity.result))
    c.last_end-quantity.ensures.small

pub returns-clause-value : goal.returns-clause-value
returns-clause-value c =
    let all = c.args.self.now in
    made all _ _ _ (grind (arith, to_z-of_z)) c.kept_count-n.ensures.within c.kept_count-n.ensures.count ∙ ap (substitute (steps_of all)) c.last_end-quantity.ensures.value
