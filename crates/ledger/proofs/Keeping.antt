-- Every ledger's slots are well formed, over any table of sections.
use Rattle.std.proofs.Common.{◌≡◌, ℕ, zero, suc, ◌+◌, eqb, List, [], ◌∷◌, length, get_or, drop, set, replicate, Some, None, Option, sym, refl, ap, ◌∙◌, subst, ⊎_elim, arith}
use Rattle.std.proofs.lemmas.List.{length-set, length-replicate, get_or-set_same, get_or-set_other, set_past, get_or-replicate, get_or_past}
use Rattle.std.proofs.lemmas.Bool.{cond-true, cond-false, cond_both, eq-eqb, ne_eqb, eqb-true, cases_lt, cases_eq}
use Rattle.entries.specs.Sections.{Section, total}
use Rattle.entries.specs.Files.{Told, first_fault, head_of, body_of, entry_length, short, followed, mark_fault, head_fault, body_fault, checks, entry_fault, post_fault, entries_fault, file_fault}
use Rattle.ledger.specs.Slots.{Slots, head_at, place, put, filled, load, content_fault, WellFormed}
use Rattle.ledger.specs.Ledger.{Act, posted, cleared, loaded, closed, Ledger, hour_fault, nothing, empty, fault, obeyed, step, run, ledger}
use Rattle.ledger.proofs.Places.{named_from}

-- two checks find nothing exactly where neither does
pub neither : (a b : ℕ) → first_fault a b ≡ 0 → (a ≡ 0) × (b ≡ 0)
neither a b z =
    ⊎_elim
    (λ e. (e, sym (cond-true (eqb a 0) b a (eq-eqb a 0 e)) ∙ z))
    (λ ne. absurd (ne (sym (cond-false (eqb a 0) b a (ne_eqb a 0 ne)) ∙ z)))
    (cases_eq a 0)

pub nor : (a b : ℕ) → a ≡ 0 → b ≡ 0 → first_fault a b ≡ 0
nor a b e f = cond-true (eqb a 0) b a (eq-eqb a 0 e) ∙ f

numbered : {t u : Told} → t ≡ u → t.number ≡ u.number
numbered e = ap (λ (t : Told). t.number) e

module _ (table : List Section) where
  -- an entry without a fault names a slot, and its body may stand there
  pub record Sound (bs : List ℕ) : Type 0 where
    pub named : head_fault table (head_of bs) ≡ 0
    pub held : body_fault table (head_of bs) (body_of bs) ≡ 0

  pub sound : (extra : ℕ) (bs : List ℕ) → checks table extra bs ≡ 0 → Sound bs
  sound extra bs z =
      let body : ℕ = body_fault table (head_of bs) (body_of bs) in
      let a = neither (short bs) (first_fault (head_fault table (head_of bs)) (first_fault extra body)) z in
      let b = neither (head_fault table (head_of bs)) (first_fault extra body) a.1 in
      record { named = b.0; held = (neither extra body b.1).1 }

  pub set_keeps : (s : Slots) (i : ℕ) (o : Option (List ℕ)) → content_fault table (head_at table i) o ≡ 0 → WellFormed table s → WellFormed table (set s i o)
  set_keeps s i o z well = record {
    count = length-set s i o ∙ well.count;
    fits = λ j.
        ⊎_elim
        (λ e.
        subst (λ j. content_fault table (head_at table j) (get_or (set s i o) j None) ≡ 0) (sym e)
        (⊎_elim
        (λ lt. ap (content_fault table (head_at table i)) (get_or-set_same s i o None lt) ∙ z)
        (λ le. ap (λ t. content_fault table (head_at table i) (get_or t i None)) (set_past s i o le) ∙ well.fits i)
        (cases_lt i (length s))))
        (λ ne. ap (content_fault table (head_at table j)) (get_or-set_other s i j o None ne) ∙ well.fits j)
        (cases_eq j i);
  }

  put_keeps : (bs : List ℕ) (s : Slots) → Sound bs → WellFormed table s → WellFormed table (put table bs s)
  put_keeps bs s so well =
      set_keeps s (place table (head_of bs)) (Some (body_of bs))
      (ap (λ h. body_fault table h (body_of bs)) (named_from 1 table (head_of bs) so.named) ∙ so.held) well

  filled_keeps : (most place : ℕ) (bs : List ℕ) (s : Slots) → (entries_fault table most place bs).number ≡ 0 → WellFormed table s → WellFormed table (filled table most bs s)
  unfolding entries_fault filled
  filled_keeps zero place bs s z well = well
  filled_keeps (suc most) place bs s z well =
      ⊎_elim
      (λ e. subst (WellFormed table) (sym (cond-true _ _ _ (eq-eqb (length bs) 0 e))) well)
      (λ ne.
      ⊎_elim
      (λ clean.
      let rest = numbered (cond-false _ _ _ (ne_eqb (length bs) 0 ne) ∙ cond-true _ _ _ (eq-eqb (entry_fault table bs) 0 clean)) in
      subst (WellFormed table) (sym (cond-false _ _ _ (ne_eqb (length bs) 0 ne)))
      (filled_keeps most (place + entry_length bs) (drop (entry_length bs) bs) (put table bs s) (sym rest ∙ z) (put_keeps bs s (sound 0 bs clean) well)))
      (λ bad. absurd (bad (sym (numbered (cond-false _ _ _ (ne_eqb (length bs) 0 ne) ∙ cond-false _ _ _ (ne_eqb (entry_fault table bs) 0 bad))) ∙ z)))
      (cases_eq (entry_fault table bs) 0))
      (cases_eq (length bs) 0)

  load_keeps : (file : List ℕ) (s : Slots) → (file_fault table file).number ≡ 0 → WellFormed table s → WellFormed table (load table file s)
  load_keeps file s z well =
      ⊎_elim
      (λ e. filled_keeps (length file) 5 (drop 5 file) s (sym (numbered (cond-true _ _ _ (eq-eqb (mark_fault file) 0 e))) ∙ z) well)
      (λ ne. absurd (ne (sym (numbered (cond-false _ _ _ (ne_eqb (mark_fault file) 0 ne))) ∙ z)))
      (cases_eq (mark_fault file) 0)

  none_there : (n i : ℕ) → get_or {A = Option (List ℕ)} (replicate n None) i None ≡ None
  none_there n i =
      ⊎_elim (λ lt. get_or-replicate n i None None lt) (λ le. get_or_past (replicate n None) i None (omega (arith, length-replicate {A = Option (List ℕ)} n None))) (cases_lt i n)

  nothing_keeps : WellFormed table (nothing table)
  unfolding nothing
  nothing_keeps = record {
    count = length-replicate (total table) None;
    fits = λ i. ap (content_fault table (head_at table i)) (none_there (total table) i);
  }

  obeyed_keeps : (l : Ledger) (a : Act) → (fault table l a).number ≡ 0 → WellFormed table l.slots → WellFormed table (obeyed table l a).slots
  obeyed_keeps l (posted bs) z well = put_keeps bs l.slots (sound (followed bs) bs (neither (post_fault table bs) (hour_fault l) z).0) well
  obeyed_keeps l (cleared h) z well = set_keeps l.slots (place table h) None refl well
  obeyed_keeps l (loaded file) z well =
      ⊎_elim
      (λ e. load_keeps file l.slots e well)
      (λ ne. absurd (ne (sym (numbered (cond-false _ _ _ (ne_eqb (file_fault table file).number 0 ne))) ∙ z)))
      (cases_eq (file_fault table file).number 0)
  obeyed_keeps l closed z well = well

  pub step_keeps : (l : Ledger) (a : Act) → WellFormed table l.slots → WellFormed table (step table l a).slots
  step_keeps l a well =
      cond_both (eqb (fault table l a).number 0) (obeyed table l a) l (λ m. WellFormed table m.slots)
      (λ t. obeyed_keeps l a (eqb-true _ _ t) well) (λ f. well)

  run_keeps : (acts : List Act) (l : Ledger) → WellFormed table l.slots → WellFormed table (run table l acts).slots
  run_keeps [] l well = well
  run_keeps (a ∷ acts) l well = run_keeps acts (step table l a) (step_keeps l a well)

  pub ledger_keeps : (acts : List Act) → WellFormed table (ledger table acts).slots
  ledger_keeps acts = run_keeps acts (empty table) nothing_keeps
