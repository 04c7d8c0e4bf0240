-- Slots given by what each head holds.
use Rattle.std.proofs.Common.{◌≡◌, ℕ, zero, suc, ◌<◌, List, [], ◌∷◌, length, get_or, set, replicate, None, Option, sym, ap, ◌∙◌, ⊎_elim, arith}
use Rattle.std.proofs.lemmas.List.{ext_get_or, length-set, length-replicate, get_or-replicate, get_or_append_left, get_or_push, get_or-set_same, get_or-set_other}
use Rattle.std.proofs.lemmas.Bool.{cases_eq}
use Rattle.entries.specs.declared.head.Head.{Head}
use Rattle.entries.specs.Files.{head_fault}
use Rattle.entries.specs.Table.{kinds}
use Rattle.ledger.specs.Slots.{head_at, place}
use Rattle.ledger.specs.Ledger.{nothing}
use Rattle.ledger.specs.Views.{tabulated, Holding, slots_from, Elsewhere}
use Rattle.ledger.specs.Laws.{Views}
use Rattle.ledger.proofs.Places.{named_from, placed_from, exists_from, within_from}
use Rattle.ledger.proofs.Drawing.{length_tabulated}
use Rattle.ledger.proofs.Laws.{solid}

get_d_tabulated : {A : Type 0} (n : ℕ) (f : ℕ → A) (i : ℕ) (d : A) → i < n → get_or (tabulated n f) i d ≡ f i
get_d_tabulated zero f i d h = absurd (omega arith)
get_d_tabulated (suc n) f i d h =
    let l = length_tabulated n f in
    ⊎_elim
    (λ e. get_or_push (tabulated n f) (f n) d i (l ∙ sym e) ∙ ap f (sym e))
    (λ ne. get_or_append_left (tabulated n f) (f n ∷ []) d i (omega arith) ∙ get_d_tabulated n f i d (omega arith))
    (cases_eq i n)

pub count : (f : Holding) → length (slots_from f) ≡ 1138
unfolding slots_from
count f = length_tabulated 1138 (λ i. f (head_at kinds i))

pub at : (f : Holding) (i : ℕ) → i < 1138 → get_or (slots_from f) i None ≡ f (head_at kinds i)
unfolding slots_from
at f i h = get_d_tabulated 1138 (λ i. f (head_at kinds i)) i None h

pub read : (f : Holding) (h : Head) → head_fault kinds h ≡ 0 → get_or (slots_from f) (place kinds h) None ≡ f h
read f h z = at f (place kinds h) (within_from 1 kinds h z) ∙ ap f (named_from 1 kinds h z)

none_held : (f : Holding) → ((h : Head) → head_fault kinds h ≡ 0 → f h ≡ None) → slots_from f ≡ nothing kinds
unfolding nothing
none_held f all =
    let c = count f in
    ext_get_or None (slots_from f) (replicate 1138 None) (c ∙ sym (length-replicate {A = Option (List ℕ)} 1138 None)) (λ i h.
    at f i (omega arith) ∙ all (head_at kinds i) (exists_from 1 kinds i solid (omega arith)) ∙ sym (get_or-replicate 1138 i None None (omega arith)))

module _ (f g : Holding) (h : Head) (z : head_fault kinds h ≡ 0) (same : Elsewhere h f g) where
  changed : slots_from g ≡ set (slots_from f) (place kinds h) (g h)
  changed =
      let c = count f in
      let d = count g in
      let w = within_from 1 kinds h z in
      let s = set (slots_from f) (place kinds h) (g h) in
      ext_get_or None (slots_from g) s (d ∙ sym (length-set (slots_from f) (place kinds h) (g h) ∙ c)) (λ i lt.
      ⊎_elim
      (λ e.
      ap (λ j. get_or (slots_from g) j None) e ∙ read g h z
      ∙ sym (get_or-set_same (slots_from f) (place kinds h) (g h) None (omega arith)) ∙ ap (λ j. get_or s j None) (sym e))
      (λ ne.
      at g i (omega arith)
      ∙ same (head_at kinds i) (exists_from 1 kinds i solid (omega arith)) (λ e. ne (sym (placed_from 1 kinds i (omega arith)) ∙ ap (place kinds) e))
      ∙ sym (get_or-set_other (slots_from f) (place kinds h) i (g h) None ne ∙ at f i (omega arith)))
      (cases_eq i (place kinds h)))

pub views : Views
views = record { count = count; read = read; empty = none_held; changed = changed }
