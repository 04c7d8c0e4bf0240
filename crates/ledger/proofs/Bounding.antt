-- The file of well-formed slots has at most 31,319 bytes.
use Rattle.std.proofs.Common.{◌≡◌, ℕ, zero, suc, ◌+◌, ◌*◌, ◌≤◌, cond, ◌&&◌, eqb, ltb, leb, List, [], ◌∷◌, length, Some, None, sym, refl, ap, ◌∙◌, subst, ⊎_elim, arith}
use Rattle.std.proofs.lemmas.List.{length-append}
use Rattle.std.proofs.lemmas.Bool.{leb-true, lt-ltb, le-ltb, and_parts, eq-eqb, ne_eqb, cases_eq, cases_lt, cases_Bool, cond-true, cond-false}
use Rattle.entries.specs.Sections.{Section, head_fault_from, body_fault_from}
use Rattle.entries.specs.declared.head.Head.{Head}
use Rattle.bodies.specs.Bodies.{sized, most_steps, curve_fault, amount_fault, parameter_fault, remark_fault}
use Rattle.entries.specs.Table.{kinds}
use Rattle.bodies.proofs.Stepping.{length_curve_steps}
use Rattle.ledger.specs.Slots.{Slots, head_at, entries_from}
use Rattle.ledger.specs.Laws.{Bounded}
use Rattle.ledger.proofs.Places.{exists_from}
use Rattle.ledger.proofs.Reloading.{Fit, fit_more, fit_here, fit_all}
use Rattle.ledger.proofs.Bodies.{curve_parts}
use Rattle.ledger.proofs.Laws.{solid}

-- the greatest length of a body, by kind and sub
abbrev parameter_room : ℕ → ℕ
parameter_room p = cond (ltb p 4) (8 * most_steps p) 4

abbrev rooms : List (ℕ → ℕ)
rooms = (λ u. 12) ∷ (λ u. 6) ∷ parameter_room ∷ parameter_room ∷ (λ u. 4) ∷ (λ u. 4) ∷ (λ u. 120) ∷ []

abbrev room_from : ℕ → List (ℕ → ℕ) → Head → ℕ
room_from k [] h = 0
room_from k (m ∷ ms) h = cond (eqb h.kind k) (m h.sub) (room_from (k + 1) ms h)

abbrev Roomy : List Section → List (ℕ → ℕ) → Type 0
Roomy [] [] = Unit {0}
Roomy [] (m ∷ ms) = ⊥
Roomy (s ∷ rest) [] = ⊥
Roomy (s ∷ rest) (m ∷ ms) = ((u : ℕ) (body : List ℕ) → s.fault u body ≡ 0 → length body ≤ m u) × Roomy rest ms

roomy_from : (k : ℕ) (ss : List Section) (ms : List (ℕ → ℕ)) (h : Head) (body : List ℕ) → Roomy ss ms → head_fault_from k ss h ≡ 0 → body_fault_from k ss h body ≡ 0 → length body ≤ room_from k ms h
roomy_from k [] ms h body roomy z y = absurd (omega arith)
roomy_from k (s ∷ ss) [] h body roomy z y = absurd roomy
roomy_from k (s ∷ ss) (m ∷ ms) h body roomy z y =
    let P : ℕ → Type 0 = λ n. length body ≤ n in
    ⊎_elim
    (λ e. let t = eq-eqb h.kind k e in subst P (sym (cond-true _ _ _ t)) (roomy.0 h.sub body (sym (cond-true _ _ _ t) ∙ y)))
    (λ ne.
    let f = ne_eqb h.kind k ne in
    subst P (sym (cond-false _ _ _ f)) (roomy_from (k + 1) ss ms h body roomy.1 (sym (cond-false _ _ _ f) ∙ z) (sym (cond-false _ _ _ f) ∙ y)))
    (cases_eq h.kind k)

sized_length : (n : ℕ) (body : List ℕ) (m : ℕ) → sized n body m ≡ 0 → length body ≤ n
sized_length n body m z =
    ⊎_elim
    (λ e. omega arith)
    (λ ne. absurd (let five : sized n body m ≡ 5 = cond-false _ _ _ (ne_eqb (length body) n ne) in omega arith))
    (cases_eq (length body) n)

remark_room : (body : List ℕ) → remark_fault body ≡ 0 → length body ≤ 120
remark_room body z =
    ⊎_elim
    (λ t. leb-true _ _ (and_parts (leb 1 (length body)) (leb (length body) 120) t).1)
    (λ f. absurd (let five : remark_fault body ≡ 5 = cond-false _ _ _ f in omega arith))
    (cases_Bool (leb 1 (length body) && leb (length body) 120))

curve_room : (p : ℕ) (body : List ℕ) → curve_fault p body ≡ 0 → length body ≤ 8 * most_steps p
curve_room p body z =
    let l = length_curve_steps body in
    let c = curve_parts p body z in
    omega (arith, c.fair.few, c.whole)

parameter_roomy : (u : ℕ) (body : List ℕ) → parameter_fault u body ≡ 0 → length body ≤ parameter_room u
parameter_roomy u body z =
    let P : ℕ → Type 0 = λ n. length body ≤ n in
    ⊎_elim
    (λ lt. let t = lt-ltb u 4 lt in subst P (sym (cond-true _ _ _ t)) (curve_room u body (sym (cond-true _ _ _ t) ∙ z)))
    (λ le. let f = le-ltb u 4 le in subst P (sym (cond-false _ _ _ f)) (sized_length 4 body _ (sym (cond-false _ (curve_fault u body) (amount_fault u body) f) ∙ z)))
    (cases_lt u 4)

roomy : Roomy kinds rooms
roomy = (
  λ u body z. sized_length 12 body _ z,
  (
    λ u body z. sized_length 6 body _ z,
    (
      parameter_roomy,
      (
        parameter_roomy,
        (
          λ u body z. sized_length 4 body _ z,
          (
            λ u body z. sized_length 4 body _ z,
            (
              λ u body z. remark_room body z,
              tt,
            ),
          ),
        ),
      ),
    ),
  ),
)

-- no more bytes than this for n slots from place i on
unfoldable bytes_below : ℕ → ℕ → ℕ
bytes_below zero i = 0
bytes_below (suc n) i = (5 + room_from 1 rooms (head_at kinds i)) + bytes_below n (i + 1)

length_from : (os : Slots) (i : ℕ) → i + length os ≤ 1138 → Fit kinds i os → length (entries_from kinds i os) ≤ bytes_below (length os) i
unfolding entries_from bytes_below
length_from [] i le fit = omega arith
length_from (None ∷ os) i le fit = omega (arith, length_from os (i + 1) (omega arith) (fit_more kinds i None os fit))
length_from (Some body ∷ os) i le fit =
    let short : length body ≤ room_from 1 rooms (head_at kinds i) = roomy_from 1 kinds rooms (head_at kinds i) body roomy (exists_from 1 kinds i solid (omega arith)) (fit_here kinds i body os fit) in
    let rest = length_from os (i + 1) (omega arith) (fit_more kinds i (Some body) os fit) in
    let l = length-append body (entries_from kinds (i + 1) os) in
    omega arith

all_bytes : bytes_below 1138 0 ≡ 31314
unfolding bytes_below
all_bytes = refl

pub bounded : Bounded
bounded s well =
    let c : length s ≡ 1138 = well.count in
    let l = length_from s 0 (omega arith) (fit_all kinds s well) in
    let e : bytes_below (length s) 0 ≡ 31314 = ap (λ n. bytes_below n 0) c ∙ all_bytes in
    omega arith
