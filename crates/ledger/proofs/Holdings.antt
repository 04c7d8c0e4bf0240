-- What heads hold in slots, and slots made of it.
use Rattle.std.proofs.Common.{◌≡◌, ℕ, List, get_or, set, None, Option, sym, ap, ◌∙◌, ⊎_elim, arith}
use Rattle.std.proofs.lemmas.List.{ext_get_or, get_or_past, get_or-set_other}
use Rattle.std.proofs.lemmas.Bool.{cases_eq, cases_lt, cond-true, cond-false, eq-eqb, ne_eqb}
use Rattle.entries.specs.declared.head.Head.{Head}
use Rattle.entries.specs.Files.{head_fault}
use Rattle.entries.specs.Table.{kinds}
use Rattle.ledger.specs.Slots.{Slots, head_at, place, content_fault, WellFormed}
use Rattle.ledger.specs.Views.{Holding, slots_from}
use Rattle.ledger.specs.Readings.{held}
use Rattle.ledger.proofs.Places.{named_from, exists_from}
use Rattle.ledger.proofs.Laws.{solid}
use Rattle.ledger.proofs.Viewing.{count, at, read}

module _ (s : Slots) (h : Head) where
  pub held_there : head_fault kinds h ≡ 0 → held s h ≡ get_or s (place kinds h) None
  unfolding held
  held_there z = cond-true _ _ _ (eq-eqb (head_fault kinds h) 0 z)

  pub held_nowhere : (head_fault kinds h ≡ 0 → ⊥) → held s h ≡ None
  unfolding held
  held_nowhere ne = cond-false _ _ _ (ne_eqb (head_fault kinds h) 0 ne)

-- another slot set
pub held_set : (s : Slots) (g : Head) (o : Option (List ℕ)) (h : Head) → head_fault kinds g ≡ 0 → (h ≡ g → ⊥) → held (set s (place kinds g) o) h ≡ held s h
held_set s g o h z ne =
    ⊎_elim
    (λ y.
    let other : place kinds h ≡ place kinds g → ⊥ = λ e. ne (sym (named_from 1 kinds h y) ∙ ap (head_at kinds) e ∙ named_from 1 kinds g z) in
    held_there (set s (place kinds g) o) h y ∙ get_or-set_other s (place kinds g) (place kinds h) o None other ∙ sym (held_there s h y))
    (λ no. held_nowhere (set s (place kinds g) o) h no ∙ sym (held_nowhere s h no))
    (cases_eq (head_fault kinds h) 0)

pub held_from : (f : Holding) (h : Head) → head_fault kinds h ≡ 0 → held (slots_from f) h ≡ f h
held_from f h z = held_there (slots_from f) h z ∙ read f h z

pub same_slots : (f g : Holding) → ((h : Head) → head_fault kinds h ≡ 0 → f h ≡ g h) → slots_from f ≡ slots_from g
same_slots f g same =
    let c = count f in
    ext_get_or None (slots_from f) (slots_from g) (count f ∙ sym (count g)) (λ i lt.
    at f i (omega arith) ∙ same (head_at kinds i) (exists_from 1 kinds i solid (omega arith)) ∙ sym (at g i (omega arith)))

pub held_fits : (s : Slots) → WellFormed kinds s → (h : Head) → content_fault kinds h (held s h) ≡ 0
held_fits s well h =
    ⊎_elim
    (λ z.
    ap (content_fault kinds h) (held_there s h z)
    ∙ ap (λ g. content_fault kinds g (get_or s (place kinds h) None)) (sym (named_from 1 kinds h z)) ∙ well.fits (place kinds h))
    (λ no. ap (content_fault kinds h) (held_nowhere s h no))
    (cases_eq (head_fault kinds h) 0)

pub from_fits : (f : Holding) → ((h : Head) → head_fault kinds h ≡ 0 → content_fault kinds h (f h) ≡ 0) → WellFormed kinds (slots_from f)
from_fits f fits = record {
  count = count f;
  fits = λ i.
      let c = count f in
      ⊎_elim
      (λ lt. ap (content_fault kinds (head_at kinds i)) (at f i lt) ∙ fits (head_at kinds i) (exists_from 1 kinds i solid lt))
      (λ le. ap (content_fault kinds (head_at kinds i)) (get_or_past (slots_from f) i None (omega arith)))
      (cases_lt i 1138);
}
