-- The file of well-formed slots has no fault and gives them back, over any table of sections.
use Rattle.std.proofs.Common.{◌≡◌, ℕ, zero, suc, ◌+◌, ◌/◌, ◌%◌, ◌<◌, ◌≤◌, true, eqb, List, [], ◌∷◌, ◌++◌, length, get_or, take, drop, set, replicate, Some, None, Option, sym, refl, ap, ◌∙◌, add-zero, arith}
use Rattle.std.proofs.lemmas.List.{append_assoc, length-append, length_push, take_at, drop_at, drop-drop, set_at}
use Rattle.std.proofs.lemmas.Bool.{cond-true, cond-false, le-ltb, eq-eqb, ne_eqb}
use Rattle.bodies.specs.Numbers.{size}
use Rattle.entries.specs.Sections.{Section, total}
use Rattle.entries.specs.declared.head.Head.{Head}
use Rattle.entries.specs.Files.{Told, no_fault, body_of, entry_length, short, mark, mark_fault, head_fault, body_fault, entry_fault, entries_fault, file_fault}
use Rattle.ledger.specs.Slots.{Slots, head_at, place, put, filled, load, entries_from, entry_file, content_fault, WellFormed}
use Rattle.ledger.specs.Ledger.{loaded, nothing, empty, fault, step}
use Rattle.ledger.proofs.Places.{Solid, placed_from, exists_from}
use Rattle.ledger.proofs.Keeping.{nor}

-- the entry of a head and a body, with other bytes behind it
abbrev front : Head → List ℕ → List ℕ → List ℕ
front h body rest = h.kind ∷ h.first ∷ h.sub ∷ (length body / 256) ∷ (length body % 256) ∷ (body ++ rest)

module _ (h : Head) (body rest : List ℕ) where
  front_size : size (drop 3 (front h body rest)) ≡ length body
  unfolding size
  front_size = omega arith

  front_body : body_of (front h body rest) ≡ body
  front_body = ap (λ n. take n (body ++ rest)) front_size ∙ take_at body rest (length body) refl

  front_rest : drop (entry_length (front h body rest)) (front h body rest) ≡ rest
  front_rest =
      ap (λ n. drop (5 + n) (front h body rest)) front_size
      ∙ sym (drop-drop (length body) 5 (front h body rest)) ∙ drop_at body rest (length body) refl

  front_short : short (front h body rest) ≡ 0
  front_short =
      cond-false _ _ _ (le-ltb (length (front h body rest)) (entry_length (front h body rest)) (omega (arith, front_size, length-append body rest)))

module _ (table : List Section) where
  front_clean : (h : Head) (body rest : List ℕ) → head_fault table h ≡ 0 → body_fault table h body ≡ 0 → entry_fault table (front h body rest) ≡ 0
  front_clean h body rest x y =
      nor _ _ (front_short h body rest) (nor _ _ x (nor 0 _ refl (ap (body_fault table h) (front_body h body rest) ∙ y)))

  front_put : (i : ℕ) (body rest : List ℕ) (s : Slots) → i < total table → put table (front (head_at table i) body rest) s ≡ set s i (Some body)
  front_put i body rest s lt =
      ap (λ c. set s (place table (head_at table i)) (Some c)) (front_body (head_at table i) body rest)
      ∙ ap (λ j. set s j (Some body)) (placed_from 1 table i lt)

  -- what the slots from place i on hold has no fault
  abbrev pub Fit : ℕ → Slots → Type 0
  Fit i os = (j : ℕ) → content_fault table (head_at table (i + j)) (get_or os j None) ≡ 0

  pub fit_more : (i : ℕ) (o : Option (List ℕ)) (os : Slots) → Fit i (o ∷ os) → Fit (i + 1) os
  fit_more i o os fit j = let e : i + 1 + j ≡ i + suc j = omega arith in ap (λ k. content_fault table (head_at table k) (get_or os j None)) e ∙ fit (suc j)

  pub fit_here : (i : ℕ) (body : List ℕ) (os : Slots) → Fit i (Some body ∷ os) → body_fault table (head_at table i) body ≡ 0
  fit_here i body os fit = ap (λ k. body_fault table (head_at table k) body) (sym (add-zero i)) ∙ fit 0

  pub fit_all : (s : Slots) → WellFormed table s → Fit 0 s
  fit_all s well j = let e : 0 + j ≡ j = omega arith in ap (λ k. content_fault table (head_at table k) (get_or s j None)) e ∙ well.fits j

  clean_from : Solid table → (os : Slots) (i most place : ℕ) → i + length os ≤ total table → Fit i os → length (entries_from table i os) ≤ most
      → entries_fault table most place (entries_from table i os) ≡ no_fault
  unfolding entries_fault entries_from
  clean_from solid [] i zero place le fit enough = refl
  clean_from solid [] i (suc most) place le fit enough = refl
  clean_from solid (None ∷ os) i most place le fit enough = clean_from solid os (i + 1) most place (omega arith) (fit_more i None os fit) enough
  clean_from solid (Some body ∷ os) i zero place le fit enough = absurd (omega arith)
  clean_from solid (Some body ∷ os) i (suc most) place le fit enough =
      let rest : List ℕ = entries_from table (i + 1) os in
      let bs : List ℕ = front (head_at table i) body rest in
      let clean : entry_fault table bs ≡ 0 = front_clean (head_at table i) body rest (exists_from 1 table i solid (omega arith)) (fit_here i body os fit) in
      cond-false _ _ _ (ne_eqb (length bs) 0 (λ z. omega arith))
      ∙ cond-true _ _ _ (eq-eqb (entry_fault table bs) 0 clean)
      ∙ ap (λ r. entries_fault table most (place + entry_length bs) r) (front_rest (head_at table i) body rest)
      ∙ clean_from solid os (i + 1) most (place + entry_length bs) (omega arith) (fit_more i (Some body) os fit) (omega (arith, length-append body rest))

  back_from : (os before : Slots) (i most : ℕ) → length before ≡ i → i + length os ≤ total table → length (entries_from table i os) ≤ most
      → filled table most (entries_from table i os) (before ++ replicate (length os) None) ≡ before ++ os
  unfolding filled entries_from
  back_from [] before i zero len le enough = refl
  back_from [] before i (suc most) len le enough = refl
  back_from (None ∷ os) before i most len le enough =
      ap (λ s. filled table most (entries_from table (i + 1) os) s) (sym (append_assoc before (None ∷ []) (replicate (length os) None)))
      ∙ back_from os (before ++ (None ∷ [])) (i + 1) most (length_push before None ∙ ap (λ k. k + 1) len) (omega arith) enough
      ∙ append_assoc before (None ∷ []) os
  back_from (Some body ∷ os) before i zero len le enough = absurd (omega arith)
  back_from (Some body ∷ os) before i (suc most) len le enough =
      let rest : List ℕ = entries_from table (i + 1) os in
      let bs : List ℕ = front (head_at table i) body rest in
      let none : Slots = replicate (length os) None in
      let s : Slots = before ++ (None ∷ none) in
      cond-false _ _ _ (ne_eqb (length bs) 0 (λ z. omega arith))
      ∙ ap (λ r. filled table most r (put table bs s)) (front_rest (head_at table i) body rest)
      ∙ ap (λ t. filled table most rest t)
      (front_put i body rest s (omega arith) ∙ set_at before None none (Some body) i len ∙ sym (append_assoc before (Some body ∷ []) none))
      ∙ back_from os (before ++ (Some body ∷ [])) (i + 1) most (length_push before (Some body) ∙ ap (λ k. k + 1) len) (omega arith) (omega (arith, length-append body rest))
      ∙ append_assoc before (Some body ∷ []) os

  marked : (bs : List ℕ) → mark_fault (mark ++ bs) ≡ 0
  marked bs = cond-false _ _ _ (le-ltb (length (mark ++ bs)) 5 (omega arith))

  module _ (s : Slots) (well : WellFormed table s) where
    pub reload : load table (entry_file table s) (nothing table) ≡ s
    unfolding nothing
    reload =
        ap (λ n. load table (entry_file table s) (replicate n None)) (sym well.count)
        ∙ back_from s [] 0 (length (entry_file table s)) refl (omega (arith, well.count)) (omega arith)

    module _ (solid : Solid table) where
      pub taken : file_fault table (entry_file table s) ≡ no_fault
      taken =
          cond-true _ _ _ (eq-eqb (mark_fault (entry_file table s)) 0 (marked (entries_from table 0 s)))
          ∙ clean_from solid s 0 (length (entry_file table s)) 5 (omega (arith, well.count)) (fit_all s well) (omega arith)

      pub obeyed : fault table (empty table) (loaded (entry_file table s)) ≡ no_fault
      obeyed = cond-true _ _ _ (ap (λ (t : Told). eqb t.number 0) taken)

      pub ledgered : step table (empty table) (loaded (entry_file table s)) ≡ record { slots = s; open_hour = true }
      ledgered =
          cond-true _ _ _ (ap (λ (t : Told). eqb t.number 0) obeyed) ∙ (λ i. record { slots = reload i; open_hour = true })
