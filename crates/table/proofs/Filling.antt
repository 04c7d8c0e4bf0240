-- A file whose entries are taken one by one.
use Rattle.std.proofs.Common.{◌≡◌, ℕ, zero, suc, ◌+◌, ◌-◌, ◌<◌, ◌≤◌, List, length, drop, set, Some, Ok, Err, Option, Result, sym, refl, ap, ◌∙◌, ⊎_elim, arith, length-drop}
use Rattle.std.proofs.lemmas.List.{drop-drop}
use Rattle.std.proofs.lemmas.Bool.{eq-eqb, ne_eqb, cond-true, cond-false, cases_eq}
use Rattle.entries.specs.Entries.{Raw}
use Rattle.entries.specs.Files.{Told, no_fault, entry_length, entry_at, entry_fault, file_fault, mark_fault, told, Next}
use Rattle.entries.specs.Table.{kinds}
use Rattle.entries.specs.declared.cursor.Cursor.{Cursor}
use Rattle.entries.specs.declared.entry.Entry.{Entry}
use Rattle.bodies.specs.declared.fault.Refusal.{Refusal}
use Rattle.entries.proofs.Reading.{fault_positive}
use Rattle.entries.proofs.Walking.{Walked, walk_starts, walk_on, walk_fails}
use Rattle.ledger.specs.Slots.{Slots, place, put, filled, load}

filled_none : (m : ℕ) (bs : List ℕ) (s : Slots) → length bs ≡ 0 → filled kinds m bs s ≡ s
unfolding filled
filled_none zero bs s e = refl
filled_none (suc m) bs s e = cond-true _ _ _ (eq-eqb (length bs) 0 e)

filled_one : (m : ℕ) (bs : List ℕ) (s : Slots) → 0 < length bs → filled kinds (suc m) bs s ≡ filled kinds m (drop (entry_length bs) bs) (put kinds bs s)
unfolding filled
filled_one m bs s some = cond-false _ _ _ (ne_eqb (length bs) 0 (λ z. omega arith))

-- any bound on the number of entries will do
filled_any : (m n : ℕ) (bs : List ℕ) (s : Slots) → length bs ≤ m → length bs ≤ n → filled kinds m bs s ≡ filled kinds n bs s
filled_any zero n bs s h k = filled_none 0 bs s (omega arith) ∙ sym (filled_none n bs s (omega arith))
filled_any (suc m) zero bs s h k = filled_none (suc m) bs s (omega arith) ∙ sym (filled_none 0 bs s (omega arith))
filled_any (suc m) (suc n) bs s h k =
    ⊎_elim
    (λ e. filled_none (suc m) bs s e ∙ sym (filled_none (suc n) bs s e))
    (λ ne.
    let some : 0 < length bs = omega arith in
    let long = length-drop (entry_length bs) bs in
    filled_one m bs s some ∙ filled_any m n (drop (entry_length bs) bs) (put kinds bs s) (omega arith) (omega arith) ∙ sym (filled_one n bs s some))
    (cases_eq (length bs) 0)

-- what is left to fill, and that the walk meets no fault
pub record Left (file : List ℕ) (before s : Slots) (c : Cursor) : Type 0 where
  pub walked : Walked kinds file c
  pub left : filled kinds (length file) (drop c.at file) s ≡ load kinds file before

module _ {file : List ℕ} {before s : Slots} {c : Cursor} (so : Left file before s c) where
  pub left_more : (r : Raw) (c' : Cursor) → c.at < length file → entry_fault kinds (drop c.at file) ≡ 0 → r ≡ entry_at c.at (drop c.at file)
      → c' ≡ record { at = c.at + entry_length (drop c.at file); limit = c.end; end = c.end }
      → (s' : Slots) → s' ≡ set s (place kinds r.head) (Some r.body) → Left file before s' c'
  left_more r c' h e is next s' put_is =
      let bs = drop c.at file in
      let long = length-drop c.at file in
      let rest = length-drop (entry_length (drop c.at file)) (drop c.at file) in
      let less : length file ≡ suc (length file - 1) = omega arith in
      let same = drop-drop (entry_length (drop c.at file)) c.at file in
      let here : s' ≡ put kinds bs s = put_is ∙ ap (λ (x : Raw). set s (place kinds x.head) (Some x.body)) is in
      let on : filled kinds (length file) (drop (c.at + entry_length bs) file) s' ≡ load kinds file before =
      ap (filled kinds (length file) (drop (c.at + entry_length bs) file)) here
      ∙ ap (λ (zs : List ℕ). filled kinds (length file) zs (put kinds bs s)) (sym same)
      ∙ filled_any (length file) (length file - 1) (drop (entry_length bs) bs) (put kinds bs s) (omega arith) (omega arith)
      ∙ sym (filled_one (length file - 1) bs s (omega arith))
      ∙ ap (λ m. filled kinds m bs s) (sym less)
      ∙ so.left in
      record { walked = walk_on kinds so.walked c' h e next; left = ap (λ (x : Cursor). filled kinds (length file) (drop x.at file) s') next ∙ on }

  pub left_none : c.at ≡ length file → s ≡ load kinds file before
  left_none h =
      let long = length-drop c.at file in
      sym (filled_none (length file) (drop c.at file) s (omega arith)) ∙ so.left

  pub no_refusal : file_fault kinds file ≡ no_fault → (t : Told) → c.at < length file → t ≡ record { number = entry_fault kinds (drop c.at file); place = c.at } → 0 < t.number → ⊥
  no_refusal clean t h is some =
      let e = ap (λ (x : Told). x.number) (walk_fails kinds so.walked t h is some ∙ clean) in omega arith

clean_mark : (file : List ℕ) → file_fault kinds file ≡ no_fault → mark_fault file ≡ 0
clean_mark file clean =
    ⊎_elim
    (λ e. e)
    (λ ne. ap (λ (x : Told). x.number) (sym (cond-false _ _ _ (ne_eqb (mark_fault file) 0 ne)) ∙ clean))
    (cases_eq (mark_fault file) 0)

pub left_starts : (file : List ℕ) (s : Slots) (c : Cursor) → c ≡ record { at = 5; limit = length file; end = length file } → file_fault kinds file ≡ no_fault → Left file s s c
left_starts file s c is clean = record {
  walked = walk_starts kinds file c is (sym (clean_mark file clean));
  left = ap (λ (x : Cursor). filled kinds (length file) (drop x.at file) s) is;
}

-- a file without a fault is never refused
pub never_refused : {file : List ℕ} {before s : Slots} {c : Cursor} → Left file before s c → file_fault kinds file ≡ no_fault → (c' : Cursor) (r : Result (Option Entry) Refusal)
    → Next kinds file c c' r → ((x : Option Entry) → r ≡ Ok x → ⊥) → s ≡ load kinds file before
never_refused so clean c' (Ok x) next refused = absurd (refused x refl)
never_refused so clean c' (Err r) next refused = absurd (no_refusal so clean (told (Err r)) next.0 next.1 (fault_positive r.fault))

-- what comes next in a file without a fault has none
pub sound_here : {file : List ℕ} {before s : Slots} {c : Cursor} → Left file before s c → file_fault kinds file ≡ no_fault → c.at < length file → entry_fault kinds (drop c.at file) ≡ 0
sound_here {file = file} {c = c} so clean h =
    ⊎_elim
    (λ e. e)
    (λ ne. absurd (no_refusal so clean (record { number = entry_fault kinds (drop c.at file); place = c.at }) h refl (omega arith)))
    (cases_eq (entry_fault kinds (drop c.at file)) 0)
