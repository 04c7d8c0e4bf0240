-- A script gathered line by line.
use Rattle.std.proofs.Common.{◌≡◌, ℕ, ◌+◌, ◌≤◌, true, ◌&&◌, leb, List, [], ◌∷◌, ◌++◌, map, length, take, drop, Some, Ok, Err, Result, sym, refl, ap, ◌∙◌, append_assoc, arith}
use Rattle.std.proofs.lemmas.List.{take-take, length-take, map_push, append-nil}
use Rattle.std.proofs.lemmas.Slice.{between_is}
use Rattle.std.proofs.lemmas.Bool.{and_from, and_parts, le-leb, leb-true}
use Rattle.scripts.proofs.Cutting.{few_lines}
use Rattle.scripts.specs.Commands.{Order, post, load}
use Rattle.scripts.specs.Ranges.{part, taken_from, within, all_within}
use Rattle.scripts.specs.Scripts.{in_front, calls_from, ReadCall}
use Rattle.scripts.specs.Texts.{lines_of}
use Rattle.scripts.specs.declared.scripted.Scripted.{Scripted}
use Rattle.scripts.specs.declared.scripted.Scripted.TheVariants.{Post, Load, Clear, Close}

-- a store that grew holds the old parts
module _ (was store : List ℕ) (kept : take (length was) store ≡ was) where
  no_shorter : length was ≤ length store
  no_shorter =
      let long = sym (length-take (length was) store) ∙ ap length kept in
      omega arith

  same_part : (from to : ℕ) → (leb from to && leb to (length was)) ≡ true → part store from to ≡ part was from to
  same_part from to h =
      let fits = leb-true to (length was) (and_parts _ _ h).1 in
      between_is store from to ∙ ap (drop from) (sym (take-take to (length was) store fits) ∙ ap (take to) kept) ∙ sym (between_is was from to)

  still_part : (from to : ℕ) → (leb from to && leb to (length was)) ≡ true → (leb from to && leb to (length store)) ≡ true
  still_part from to h =
      let fits : to ≤ length was = leb-true to (length was) (and_parts (leb from to) (leb to (length was)) h).1 in
      let long = no_shorter in
      and_from _ _ (and_parts _ _ h).0 (le-leb to (length store) (omega arith))

  same_call : (call : Scripted) → within (length was) call ≡ true → taken_from store call ≡ taken_from was call
  same_call (Post from to) h = ap post (same_part from to h)
  same_call (Load from to) h = ap load (same_part from to h)
  same_call (Clear kind first sub) h = refl
  same_call Close h = refl

  still_within : (call : Scripted) → within (length was) call ≡ true → within (length store) call ≡ true
  still_within (Post from to) h = still_part from to h
  still_within (Load from to) h = still_part from to h
  still_within (Clear kind first sub) h = refl
  still_within Close h = refl

  same_calls : (calls : List Scripted) → all_within (length was) calls ≡ true → map (taken_from store) calls ≡ map (taken_from was) calls
  same_calls [] h = refl
  same_calls (call ∷ more) h =
      let both = and_parts _ _ h in
      λ i. same_call call both.0 i ∷ same_calls more both.1 i

  more_within : (calls : List Scripted) (call : Scripted) → all_within (length was) calls ≡ true → within (length store) call ≡ true → all_within (length store) (calls ++ call ∷ []) ≡ true
  more_within [] call h last = and_from _ _ last refl
  more_within (one ∷ more) call h last =
      let both = and_parts _ _ h in
      and_from _ _ (still_within one both.0) (more_within more call both.1 last)

-- calls that were read, in front of what the other lines give
abbrev pub with_front : List Order → Result (List Order) ℕ → Result (List Order) ℕ
with_front done (Ok calls) = Ok (done ++ calls)
with_front done (Err number) = Err number

front_more : (done : List Order) (o : Order) (number : ℕ) (r : Result (List Order) ℕ) → with_front (done ++ o ∷ []) r ≡ with_front done (in_front (Some o) number r)
front_more done o number (Ok calls) = ap Ok (append_assoc done (o ∷ []) calls)
front_more done o number (Err later) = refl

-- so far `calls` were read into `store`, `number` lines are done and `rest` is left
pub record Gathered (above : ℕ) (text rest store : List ℕ) (calls : List Scripted) (number : ℕ) : Type 0 where
  pub fits : number + length (lines_of rest) ≤ above + length text
  pub inside : all_within (length store) calls ≡ true
  pub left : with_front (map (taken_from store) calls) (calls_from number (lines_of rest)) ≡ calls_from above (lines_of text)

front_none : (r : Result (List Order) ℕ) → with_front [] r ≡ r
front_none (Ok calls) = refl
front_none (Err number) = refl

-- no call was read
pub begins : (above : ℕ) (text rest store : List ℕ) (calls : List Scripted) (number : ℕ) → rest ≡ text → calls ≡ [] → number ≡ above → Gathered above text rest store calls number
begins above text rest store calls number whole none first =
    let few = few_lines rest in
    let long = ap length whole in
    record {
      fits = omega arith;
      inside = ap (all_within (length store)) none;
      left = (λ i. with_front (map (taken_from store) (none i)) (calls_from (first i) (lines_of (whole i)))) ∙ front_none _;
    }

module _ {above : ℕ} {text rest store : List ℕ} {calls : List Scripted} {number : ℕ} (so : Gathered above text rest store calls number) where
  pub goes_on : (line more grown : List ℕ) → lines_of rest ≡ line ∷ lines_of more → (call : Scripted) (after : List Scripted) → ReadCall line store grown (Some call) → after ≡ calls ++ call ∷ []
      → (next : ℕ) → next ≡ number + 1 → Gathered above text more grown after next
  goes_on line more grown cut call after read pushed next one-more =
      let keeps = read.kept in
      let fits = so.fits in
      let long = ap length cut in
      let done = map (taken_from store) calls in
      let later = calls_from (number + 1) (lines_of more) in
      record {
        fits = omega arith;
        inside = ap (all_within (length grown)) pushed ∙ more_within store grown keeps calls call so.inside read.inside;
        left =
            (λ i. with_front (map (taken_from grown) (pushed i)) (calls_from (one-more i) (lines_of more)))
            ∙ ap (λ l. with_front l later) (map_push (taken_from grown) calls call ∙ ap (λ l. l ++ taken_from grown call ∷ []) (same_calls store grown keeps calls so.inside))
            ∙ front_more done (taken_from grown call) (number + 1) later
            ∙ ap (λ o. with_front done (in_front o (number + 1) later)) read.says
            ∙ ap (λ ls. with_front done (calls_from number ls)) (sym cut)
            ∙ so.left;
      }

  pub ends : lines_of rest ≡ [] → calls_from above (lines_of text) ≡ Ok (map (taken_from store) calls)
  ends none = sym so.left ∙ ap (λ ls. with_front (map (taken_from store) calls) (calls_from number ls)) none ∙ ap Ok (append-nil _)
