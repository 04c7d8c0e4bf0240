-- A file walked entry by entry: what is left decides.
use Rattle.std.proofs.Common.{◌≡◌, ℕ, zero, suc, ◌+◌, ◌-◌, ◌<◌, ◌≤◌, List, [], ◌∷◌, length, drop, sym, refl, ap, ◌∙◌, subst, ⊎_elim, arith, length-drop}
use Rattle.std.proofs.lemmas.List.{drop-drop}
use Rattle.std.proofs.lemmas.Bool.{lt-ltb, eq-eqb, ne_eqb, cond-true, cond-false, cases_lt, cases_eq}
use Rattle.entries.specs.Entries.{Raw}
use Rattle.entries.specs.Sections.{Section}
use Rattle.entries.specs.Files.{Told, no_fault, entry_length, entry_at, entries_in, entries_left, entry_fault, entries_fault, mark_fault, file_fault, Between}
use Rattle.entries.specs.declared.cursor.Cursor.{Cursor}
use Rattle.entries.proofs.Reading.{short_checks}

mark_whole : (bs : List ℕ) → mark_fault bs ≡ 0 → 5 ≤ length bs
mark_whole bs e =
    ⊎_elim
    (λ h. absurd (let one : mark_fault bs ≡ 1 = cond-true _ _ _ (lt-ltb (length bs) 5 h) in omega arith))
    (λ h. h)
    (cases_lt (length bs) 5)

no_entries : (m place : ℕ) (bs : List ℕ) → length bs ≡ 0 → entries_in m place bs ≡ []
unfolding entries_in
no_entries zero place bs e = refl
no_entries (suc m) place bs e = cond-true _ _ _ (eq-eqb (length bs) 0 e)

one_entry : (m place : ℕ) (bs : List ℕ) → 0 < length bs → entries_in (suc m) place bs ≡ entry_at place bs ∷ entries_in m (place + entry_length bs) (drop (entry_length bs) bs)
unfolding entries_in
one_entry m place bs some = cond-false _ _ _ (ne_eqb (length bs) 0 (λ z. omega arith))

-- any bound on the number of entries will do
any_most : (m n place : ℕ) (bs : List ℕ) → length bs ≤ m → length bs ≤ n → entries_in m place bs ≡ entries_in n place bs
any_most zero n place bs h k = no_entries 0 place bs (omega arith) ∙ sym (no_entries n place bs (omega arith))
any_most (suc m) zero place bs h k = no_entries (suc m) place bs (omega arith) ∙ sym (no_entries 0 place bs (omega arith))
any_most (suc m) (suc n) place bs h k =
    ⊎_elim
    (λ e. no_entries (suc m) place bs e ∙ sym (no_entries (suc n) place bs e))
    (λ ne.
    let some : 0 < length bs = omega arith in
    let long = length-drop (entry_length bs) bs in
    one_entry m place bs some
    ∙ ap (λ l. entry_at place bs ∷ l) (any_most m n (place + entry_length bs) (drop (entry_length bs) bs) (omega arith) (omega arith))
    ∙ sym (one_entry n place bs some))
    (cases_eq (length bs) 0)

-- a cursor moved on, whose limit is the end
pub moved_on : (c : Cursor) (a b : ℕ) → a ≡ b → c.limit ≡ c.end → ◌≡◌ {A = Cursor} (record { at = a; limit = c.limit; end = c.end }) (record { at = b; limit = c.end; end = c.end })
moved_on c a b to limit = λ i. record { at = to i; limit = limit i; end = c.end }

-- the entries that a cursor has before it
module _ (file : List ℕ) (c : Cursor) where
  pub left_none : c.at ≡ length file → entries_left file c ≡ []
  left_none h = no_entries (length file) c.at (drop c.at file) (simp length-drop (omega arith))

  pub left_more : c.at < length file → (r : Raw) → r ≡ entry_at c.at (drop c.at file) → (to : ℕ) → to ≡ c.at + entry_length (drop c.at file) → entries_left file c ≡ r ∷ entries_in (length file) to (drop to file)
  left_more h r is to past =
      let bs = drop c.at file in
      let n = entry_length (drop c.at file) in
      let long = length-drop c.at file in
      let rest = length-drop (entry_length (drop c.at file)) (drop c.at file) in
      let less : length file ≡ suc (length file - 1) = omega arith in
      let same = drop-drop (entry_length (drop c.at file)) c.at file in
      ap (λ m. entries_in m c.at bs) less
      ∙ one_entry (length file - 1) c.at bs (omega arith)
      ∙ ap (λ l. entry_at c.at bs ∷ l) (any_most (length file - 1) (length file) (c.at + n) (drop n bs) (omega arith) (omega arith) ∙ ap (entries_in (length file) (c.at + n)) same)
      ∙ (λ i. sym is i ∷ entries_in (length file) (sym past i) (drop (sym past i) file))

module _ (table : List Section) where
  -- an entry with no fault is whole
  entry_whole : (bs : List ℕ) → entry_fault table bs ≡ 0 → entry_length bs ≤ length bs
  entry_whole bs e =
      ⊎_elim
      (λ h. absurd (let one : 1 ≡ entry_fault table bs = short_checks table 0 bs (cond-true _ _ _ (lt-ltb (length bs) (entry_length bs) h)) in omega arith))
      (λ h. h)
      (cases_lt (length bs) (entry_length bs))

  none_left : (m place : ℕ) (bs : List ℕ) → length bs ≡ 0 → entries_fault table m place bs ≡ no_fault
  unfolding entries_fault
  none_left zero place bs e = refl
  none_left (suc m) place bs e = cond-true _ _ _ (eq-eqb (length bs) 0 e)

  module _ (m place : ℕ) (bs : List ℕ) (some : 0 < length bs) where
    step_on : entry_fault table bs ≡ 0 → entries_fault table (suc m) place bs ≡ entries_fault table m (place + entry_length bs) (drop (entry_length bs) bs)
    unfolding entries_fault
    step_on e = cond-false _ _ _ (ne_eqb (length bs) 0 (λ z. omega arith)) ∙ cond-true _ _ _ (eq-eqb (entry_fault table bs) 0 e)

    step_stops : (entry_fault table bs ≡ 0 → ⊥) → entries_fault table (suc m) place bs ≡ record { number = entry_fault table bs; place = place }
    unfolding entries_fault
    step_stops e = cond-false _ _ _ (ne_eqb (length bs) 0 (λ z. omega arith)) ∙ cond-false _ _ _ (ne_eqb (entry_fault table bs) 0 e)

  -- any bound on the number of entries will do
  pub any_bound : (m n place : ℕ) (bs : List ℕ) → length bs ≤ m → length bs ≤ n → entries_fault table m place bs ≡ entries_fault table n place bs
  any_bound zero n place bs h k = none_left 0 place bs (omega arith) ∙ sym (none_left n place bs (omega arith))
  any_bound (suc m) zero place bs h k = none_left (suc m) place bs (omega arith) ∙ sym (none_left 0 place bs (omega arith))
  any_bound (suc m) (suc n) place bs h k =
      ⊎_elim
      (λ e. none_left (suc m) place bs e ∙ sym (none_left (suc n) place bs e))
      (λ ne.
      let some : 0 < length bs = omega arith in
      let long = length-drop (entry_length bs) bs in
      ⊎_elim
      (λ e. step_on m place bs some e ∙ any_bound m n (place + entry_length bs) (drop (entry_length bs) bs) (omega arith) (omega arith) ∙ sym (step_on n place bs some e))
      (λ e. step_stops m place bs some e ∙ sym (step_stops n place bs some e))
      (cases_eq (entry_fault table bs) 0))
      (cases_eq (length bs) 0)

  -- the first fault of what is left at a place
  abbrev pub fault_from : ℕ → List ℕ → Told
  fault_from place bs = entries_fault table (length bs) place bs

  module _ (place : ℕ) (bs : List ℕ) (some : 0 < length bs) where
    less : length bs ≡ suc (length bs - 1)
    less = omega arith

    from_next : entry_fault table bs ≡ 0 → fault_from place bs ≡ fault_from (place + entry_length bs) (drop (entry_length bs) bs)
    from_next e =
        let long = length-drop (entry_length bs) bs in
        ap (λ k. entries_fault table k place bs) less ∙ step_on (length bs - 1) place bs some e ∙ any_bound (length bs - 1) (length (drop (entry_length bs) bs)) _ _ (omega arith) (omega arith)

    from_here : (entry_fault table bs ≡ 0 → ⊥) → fault_from place bs ≡ record { number = entry_fault table bs; place = place }
    from_here e = ap (λ k. entries_fault table k place bs) less ∙ step_stops (length bs - 1) place bs some e

  -- the cursor stands between two entries, and what is left has the fault of the whole file
  pub record Walked (file : List ℕ) (c : Cursor) : Type 0 where
    pub between : Between c file
    pub left : fault_from c.at (drop c.at file) ≡ file_fault table file

  pub walk_starts : (file : List ℕ) (c : Cursor) → c ≡ record { at = 5; limit = length file; end = length file } → 0 ≡ mark_fault file → Walked file c
  walk_starts file c is e =
      let whole = mark_whole file (sym e) in
      let long = length-drop 5 file in
      subst (Walked file) (sym is) (record {
        between = record { within = whole; limit = refl; end = refl };
        left = any_bound (length (drop 5 file)) (length file) 5 (drop 5 file) (omega arith) (omega arith) ∙ sym (cond-true _ _ _ (eq-eqb (mark_fault file) 0 (sym e)));
      })

  module _ {file : List ℕ} {c : Cursor} (so : Walked file c) where
    some_left : c.at < length file → 0 < length (drop c.at file)
    some_left h = simp length-drop (omega arith)

    pub walk_on : (c' : Cursor) → c.at < length file → entry_fault table (drop c.at file) ≡ 0 → c' ≡ record { at = c.at + entry_length (drop c.at file); limit = c.end; end = c.end } → Walked file c'
    walk_on c' h e is =
        let whole = entry_whole (drop c.at file) e in
        let long = length-drop c.at file in
        let b = so.between in
        let next = from_next c.at (drop c.at file) (some_left h) e in
        let same = drop-drop (entry_length (drop c.at file)) c.at file in
        subst (Walked file) (sym is) (record {
          between = record { within = omega arith; limit = refl; end = so.between.end };
          left = ap (fault_from (c.at + entry_length (drop c.at file))) (sym same) ∙ sym next ∙ so.left;
        })

    pub walk_fails : (t : Told) → c.at < length file → t ≡ record { number = entry_fault table (drop c.at file); place = c.at } → 0 < t.number → t ≡ file_fault table file
    walk_fails t h is pos =
        let e : t.number ≡ entry_fault table (drop c.at file) = ap (λ (x : Told). x.number) is in
        is ∙ sym (from_here c.at (drop c.at file) (some_left h) (λ z. omega arith)) ∙ so.left

    pub walk_ends : c.at ≡ length file → no_fault ≡ file_fault table file
    walk_ends h =
        let long = length-drop c.at file in
        sym (none_left (length (drop c.at file)) c.at (drop c.at file) (omega arith)) ∙ so.left
