-- Heads and places tell each other, over any table of sections.
use Rattle.std.proofs.Common.{◌≡◌, ℕ, ◌+◌, ◌-◌, ◌*◌, ◌/◌, ◌%◌, ◌<◌, ◌≤◌, cond, ◌&&◌, ltb, List, [], ◌∷◌, sym, refl, ap, ◌∙◌, ⊎_elim, arith}
use Rattle.std.proofs.lemmas.Nat.{div-add-mod', mul-add-lt, div-mul-add, mod-mul-add, div_below, mod_below}
use Rattle.std.proofs.lemmas.Bool.{cond-true, cond-false, lt-ltb, le-ltb, ltb-true, eq-eqb, ne_eqb, cases_lt, cases_eq, cases_Bool, and_parts, and_from}
use Rattle.entries.specs.Sections.{Section, width, total, head_from, place_from, head_fault_from}
use Rattle.entries.specs.declared.head.Head.{Head}

-- every section has subs
abbrev pub Solid : List Section → Type 0
Solid [] = Unit {0}
Solid (s ∷ rest) = (0 < s.subs) × Solid rest

module _ (k : ℕ) (s : Section) (rest : List Section) where
  -- a place in the first section, and one behind it
  pub head_here : (i : ℕ) → i < width s → head_from k (s ∷ rest) i ≡ record { kind = k; first = i / s.subs; sub = i % s.subs }
  head_here i lt = cond-true _ _ _ (lt-ltb i (width s) lt)

  pub head_there : (i : ℕ) → width s ≤ i → head_from k (s ∷ rest) i ≡ head_from (k + 1) rest (i - width s)
  head_there i le = cond-false _ _ _ (le-ltb i (width s) le)

  module _ (h : Head) where
    place_here : h.kind ≡ k → place_from k (s ∷ rest) h ≡ h.first * s.subs + h.sub
    place_here e = cond-true _ _ _ (eq-eqb h.kind k e)

    place_there : (h.kind ≡ k → ⊥) → place_from k (s ∷ rest) h ≡ width s + place_from (k + 1) rest h
    place_there ne = cond-false _ _ _ (ne_eqb h.kind k ne)

    fault_here : h.kind ≡ k → head_fault_from k (s ∷ rest) h ≡ cond (ltb h.first s.firsts && ltb h.sub s.subs) 0 4
    fault_here e = cond-true _ _ _ (eq-eqb h.kind k e)

    fault_there : (h.kind ≡ k → ⊥) → head_fault_from k (s ∷ rest) h ≡ head_fault_from (k + 1) rest h
    fault_there ne = cond-false _ _ _ (ne_eqb h.kind k ne)

    -- a head of the first kind without a fault
    bounds : h.kind ≡ k → head_fault_from k (s ∷ rest) h ≡ 0 → (h.first < s.firsts) × (h.sub < s.subs)
    bounds e z =
        ⊎_elim
        (λ t. let p = and_parts (ltb h.first s.firsts) (ltb h.sub s.subs) t in (ltb-true _ _ p.0, ltb-true _ _ p.1))
        (λ f. absurd (let four : head_fault_from k (s ∷ rest) h ≡ 4 = fault_here e ∙ cond-false _ _ _ f in omega arith))
        (cases_Bool (ltb h.first s.firsts && ltb h.sub s.subs))

-- the kinds of later sections are greater
pub kind_from : (k : ℕ) (rest : List Section) (i : ℕ) → k ≤ (head_from k rest i).kind
kind_from k [] i = omega arith
kind_from k (s ∷ rest) i =
    ⊎_elim
    (λ lt. let e : (head_from k (s ∷ rest) i).kind ≡ k = ap (λ h. h.kind) (head_here k s rest i lt) in omega arith)
    (λ le. let e : (head_from k (s ∷ rest) i).kind ≡ (head_from (k + 1) rest (i - width s)).kind = ap (λ h. h.kind) (head_there k s rest i le) in omega (arith, kind_from (k + 1) rest (i - width s)))
    (cases_lt i (width s))

pub placed_from : (k : ℕ) (rest : List Section) (i : ℕ) → i < total rest → place_from k rest (head_from k rest i) ≡ i
placed_from k [] i h = absurd (omega arith)
placed_from k (s ∷ rest) i h =
    ⊎_elim
    (λ lt. ap (place_from k (s ∷ rest)) (head_here k s rest i lt) ∙ place_here k s rest (record { kind = k; first = i / s.subs; sub = i % s.subs }) refl ∙ div-add-mod' i s.subs)
    (λ le.
    let g : Head = head_from (k + 1) rest (i - width s) in
    let more = kind_from (k + 1) rest (i - width s) in
    let back : place_from (k + 1) rest g ≡ i - width s = placed_from (k + 1) rest (i - width s) (omega arith) in
    ap (place_from k (s ∷ rest)) (head_there k s rest i le) ∙ place_there k s rest g (λ e. omega arith) ∙ omega arith)
    (cases_lt i (width s))

pub exists_from : (k : ℕ) (rest : List Section) (i : ℕ) → Solid rest → i < total rest → head_fault_from k rest (head_from k rest i) ≡ 0
exists_from k [] i solid h = absurd (omega arith)
exists_from k (s ∷ rest) i solid h =
    ⊎_elim
    (λ lt.
    let a : i / s.subs < s.firsts = div_below i s.subs s.firsts solid.0 lt in
    let b : i % s.subs < s.subs = mod_below i s.subs solid.0 in
    ap (head_fault_from k (s ∷ rest)) (head_here k s rest i lt) ∙ fault_here k s rest (record { kind = k; first = i / s.subs; sub = i % s.subs }) refl ∙ cond-true _ _ _ (and_from _ _ (lt-ltb _ _ a) (lt-ltb _ _ b)))
    (λ le.
    let g : Head = head_from (k + 1) rest (i - width s) in
    let more = kind_from (k + 1) rest (i - width s) in
    ap (head_fault_from k (s ∷ rest)) (head_there k s rest i le) ∙ fault_there k s rest g (λ e. omega arith) ∙ exists_from (k + 1) rest (i - width s) solid.1 (omega arith))
    (cases_lt i (width s))

pub within_from : (k : ℕ) (rest : List Section) (h : Head) → head_fault_from k rest h ≡ 0 → place_from k rest h < total rest
within_from k [] h z = absurd (omega arith)
within_from k (s ∷ rest) h z =
    ⊎_elim
    (λ e.
    let b = bounds k s rest h e z in
    let p = place_here k s rest h e in
    omega (arith, mul-add-lt h.first s.subs h.sub s.firsts b.0 b.1))
    (λ ne.
    let p = place_there k s rest h ne in
    let w = within_from (k + 1) rest h (sym (fault_there k s rest h ne) ∙ z) in
    omega arith)
    (cases_eq h.kind k)

pub named_from : (k : ℕ) (rest : List Section) (h : Head) → head_fault_from k rest h ≡ 0 → head_from k rest (place_from k rest h) ≡ h
named_from k [] h z = absurd (omega arith)
named_from k (s ∷ rest) h z =
    ⊎_elim
    (λ e.
    let b = bounds k s rest h e z in
    let p = place_here k s rest h e in
    let lt : h.first * s.subs + h.sub < width s = omega (arith, mul-add-lt h.first s.subs h.sub s.firsts b.0 b.1) in
    ap (head_from k (s ∷ rest)) p ∙ head_here k s rest (h.first * s.subs + h.sub) lt
    ∙ (λ i. record { kind = sym e i; first = div-mul-add h.first s.subs h.sub b.1 i; sub = mod-mul-add h.first s.subs h.sub b.1 i }))
    (λ ne.
    let p = place_there k s rest h ne in
    let q : ℕ = place_from (k + 1) rest h in
    let d : width s + place_from (k + 1) rest h - width s ≡ place_from (k + 1) rest h = omega arith in
    ap (head_from k (s ∷ rest)) p ∙ head_there k s rest (width s + place_from (k + 1) rest h) (omega arith) ∙ ap (head_from (k + 1) rest) d ∙ named_from (k + 1) rest h (sym (fault_there k s rest h ne) ∙ z))
    (cases_eq h.kind k)
