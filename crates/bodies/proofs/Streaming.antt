-- A curve's steps looked at in turn, with only the last one kept.
use Rattle.std.proofs.Common.{◌≡◌, ℕ, suc, ◌+◌, ◌-◌, ◌/◌, ◌<◌, ◌≤◌, Bool, true, false, ◌&&◌, List, [], ◌∷◌, length, get_or, take, drop, map, sym, refl, ap, ◌∙◌, add-one, drop-cons}
use Rattle.std.specs.Simd.{first_chunks}
use Rattle.std.proofs.lemmas.List.{take_rest}
use Rattle.curves.specs.declared.step.Step.{Step}
use Rattle.curves.specs.Steps.{rises, rises_on, in_order}
use Rattle.bodies.specs.Curves.{step_of, curve_steps, in_step_range, all_in_range}
use Rattle.bodies.proofs.Stepping.{curve_chunked, range_not}

-- what was looked at, up to the first j of more, is in range, and in order if ordered; last is the last of it
pub record Looked (body : List ℕ) (more : List (List ℕ)) (j : ℕ) (last : Step) (ordered : Bool) : Type 0 where
  pub fit : all_in_range (curve_steps body) ≡ all_in_range (map step_of (drop j more))
  pub order : in_order (curve_steps body) ≡ (ordered && rises_on last (map step_of (drop j more)))

and_shift : (a b c : Bool) → (a && (b && c)) ≡ ((a && b) && c)
and_shift true b c = refl
and_shift false b c = refl

next_chunk : (chunks : List (List ℕ)) (j : ℕ) (s : Step) → j < length chunks → s ≡ step_of (get_or chunks j []) → map step_of (drop j chunks) ≡ s ∷ map step_of (drop (j + 1) chunks)
next_chunk chunks j s h e = rw add-one (ap (map step_of) (drop-cons chunks j [] h) ∙ ap (λ x. x ∷ map step_of (drop (suc j) chunks)) (sym e))

range_next : (s : Step) (ss : List Step) → true ≡ in_step_range s → all_in_range (s ∷ ss) ≡ all_in_range ss
range_next s ss f = ap (λ b. b && all_in_range ss) (sym f)

pub looked_first : (body : List ℕ) (chunks : List (List ℕ)) → chunks ≡ first_chunks 8 (length body / 8) body → (s : Step) → 1 ≤ length chunks → s ≡ step_of (get_or chunks 0 []) → true ≡ in_step_range s → Looked body (take (length chunks - 1) (drop 1 chunks)) 0 s true
looked_first body chunks is s h e f =
    let back : take (length chunks - 1) (drop 1 chunks) ≡ drop 1 chunks = take_rest chunks 1 in
    let all = curve_chunked body chunks is ∙ next_chunk chunks 0 s h e in
    record {
      fit = rw back (ap all_in_range all ∙ range_next s (map step_of (drop 1 chunks)) f);
      order = rw back (ap in_order all);
    }

pub unfit_first : (body : List ℕ) (chunks : List (List ℕ)) → chunks ≡ first_chunks 8 (length body / 8) body → (s : Step) → 1 ≤ length chunks → s ≡ step_of (get_or chunks 0 []) → false ≡ in_step_range s → all_in_range (curve_steps body) ≡ false
unfit_first body chunks is s h e f = ap all_in_range (curve_chunked body chunks is) ∙ range_not chunks 0 s h e f

module _ {body : List ℕ} {more : List (List ℕ)} {j : ℕ} {last : Step} {ordered : Bool} (so : Looked body more j last ordered) where
  pub looked_more : (s : Step) (r : Bool) → j < length more → s ≡ step_of (get_or more j []) → true ≡ in_step_range s → r ≡ (ordered && rises last s) → Looked body more (j + 1) s r
  looked_more s r h e f o =
      let next = next_chunk more j s h e in
      let rest = map step_of (drop (j + 1) more) in
      record {
        fit = so.fit ∙ ap all_in_range next ∙ range_next s (map step_of (drop (j + 1) more)) f;
        order = so.order ∙ ap (λ l. ordered && rises_on last l) next ∙ and_shift ordered (rises last s) (rises_on s (map step_of (drop (j + 1) more))) ∙ ap (λ b. b && rises_on s (map step_of (drop (j + 1) more))) (sym o);
      }

  pub looked_unfit : (s : Step) → j < length more → s ≡ step_of (get_or more j []) → false ≡ in_step_range s → all_in_range (curve_steps body) ≡ false
  looked_unfit s h e f = so.fit ∙ ap all_in_range (next_chunk more j s h e) ∙ ap (λ b. b && all_in_range (map step_of (drop (j + 1) more))) (sym f)
