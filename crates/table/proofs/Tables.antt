-- A table of which one record or one line is written: its slots.
use Rattle.std.proofs.Common.{◌≡◌, ℕ, ◌+◌, ◌*◌, ◌<◌, cond, ◌&&◌, eqb, ltb, ◌≢◌, List, length, get_or, set, Some, None, Option, sym, ap, ◌∙◌, ⊎_elim, arith, get_or-set_other, get_or-set_same}
use Rattle.std.proofs.lemmas.Bool.{cond-false, cases_Bool, cases_eq, ne_eqb, and_parts, ltb-true}
use Rattle.std.specs.Option.{option_map}
use Rattle.vocabulary.specs.declared.lines.Terms.{Terms}
use Rattle.vocabulary.specs.declared.resource.Resource.{Resource}
use Rattle.vocabulary.specs.Empty.{no_resource}
use Rattle.bodies.specs.Bodies.{terms_bytes}
use Rattle.entries.specs.Entries.{Raw, head}
use Rattle.entries.specs.Files.{head_fault}
use Rattle.entries.specs.declared.head.Head.{Head}
use Rattle.entries.specs.Table.{kinds}
use Rattle.ledger.specs.Slots.{place}
use Rattle.ledger.specs.Views.{slots_from}
use Rattle.ledger.proofs.Viewing.{views}
use Rattle.table.specs.Holding.{holds, Changed}
use Rattle.table.specs.Tables.{table_holds}

-- a test that a slot of a kind exists
pub exists : (f u n m : ℕ) → ◌≡◌ {A = ℕ} (cond (ltb f n && ltb u m) 0 4) 0 → (f < n) × (u < m)
exists f u n m z =
    ⊎_elim
    (λ t. let p = and_parts (ltb f n) (ltb u m) t in (ltb-true _ _ p.0, ltb-true _ _ p.1))
    (λ no. absurd (let four : ◌≡◌ {A = ℕ} (cond (ltb f n && ltb u m) 0 4) 4 = cond-false _ 0 4 no in omega arith))
    (cases_Bool (ltb f n && ltb u m))

module _ (lines : List (Option Terms)) (rs : List Resource) where
  -- one record is written
  module _ (i : ℕ) (r : Resource) (k u : ℕ) (body : Option (List ℕ)) (ne : k ≢ 1) (within : i < length rs) (slot : head_fault kinds (head k i u) ≡ 0)
      (changed : Changed (get_or rs i no_resource) r k u body) where
    elsewhere : (h : Head) → head_fault kinds h ≡ 0 → (h ≡ head k i u → ⊥) → table_holds lines (set rs i r) h ≡ table_holds lines rs h
    elsewhere h z other =
        ap (λ (o : Option (List ℕ)). cond (eqb h.kind 1) (option_map terms_bytes (get_or lines (10 * h.first + h.sub) None)) o)
        (⊎_elim
        (λ at. ap (λ (w : Resource). holds w h.kind h.sub) (ap (λ j. get_or (set rs i r) j no_resource) at ∙ get_or-set_same rs i r no_resource within)
        ∙ changed.elsewhere h.kind h.sub (λ kind sub. other (λ j. record { kind = kind j; first = at j; sub = sub j }))
        ∙ ap (λ j. holds (get_or rs j no_resource) h.kind h.sub) (sym at))
        (λ no. ap (λ (w : Resource). holds w h.kind h.sub) (get_or-set_other rs i h.first r no_resource no))
        (cases_eq h.first i))

    pub record_written : slots_from (table_holds lines (set rs i r)) ≡ set (slots_from (table_holds lines rs)) (place kinds (head k i u)) body
    record_written =
        views.changed (table_holds lines rs) (table_holds lines (set rs i r)) (head k i u) slot elsewhere
        ∙ ap (set (slots_from (table_holds lines rs)) (place kinds (head k i u)))
        (cond-false _ _ _ (ne_eqb k 1 ne) ∙ ap (λ (w : Resource). holds w k u) (get_or-set_same rs i r no_resource within) ∙ changed.here)

  -- the same of the slot that an entry names
  pub entry_written : {i : ℕ} {r : Resource} (x : Raw) → Changed (get_or rs i no_resource) r x.head.kind x.head.sub (Some x.body) → x.head.first ≡ i → i < length rs → x.head.kind ≢ 1 → head_fault kinds x.head ≡ 0
      → slots_from (table_holds lines (set rs i r)) ≡ set (slots_from (table_holds lines rs)) (place kinds x.head) (Some x.body)
  entry_written {i} {r} x changed first within ne slot =
      let named : x.head ≡ head x.head.kind i x.head.sub = λ j. record { kind = x.head.kind; first = first j; sub = x.head.sub } in
      record_written i r x.head.kind x.head.sub (Some x.body) ne within (ap (head_fault kinds) (sym named) ∙ slot) changed
      ∙ ap (λ (h : Head). set (slots_from (table_holds lines rs)) (place kinds h) (Some x.body)) (sym named)

  -- what a slot of a record, or of a line, holds
  pub record_read : (k i u : ℕ) → k ≢ 1 → head_fault kinds (head k i u) ≡ 0 → get_or (slots_from (table_holds lines rs)) (place kinds (head k i u)) None ≡ holds (get_or rs i no_resource) k u
  record_read k i u ne slot = views.read (table_holds lines rs) (head k i u) slot ∙ cond-false _ _ _ (ne_eqb k 1 ne)

  pub line_read : (c t : ℕ) → head_fault kinds (head 1 c t) ≡ 0 → get_or (slots_from (table_holds lines rs)) (place kinds (head 1 c t)) None ≡ option_map terms_bytes (get_or lines (10 * c + t) None)
  line_read c t slot = views.read (table_holds lines rs) (head 1 c t) slot

  -- one line is written
  module _ (c t : ℕ) (terms : Option Terms) (body : Option (List ℕ)) (within : 10 * c + t < length lines) (slot : head_fault kinds (head 1 c t) ≡ 0)
      (is : option_map terms_bytes terms ≡ body) where
    line_elsewhere : (h : Head) → head_fault kinds h ≡ 0 → (h ≡ head 1 c t → ⊥) → table_holds (set lines (10 * c + t) terms) rs h ≡ table_holds lines rs h
    line_elsewhere h z other =
        ⊎_elim
        (λ one.
        let named : h ≡ head 1 h.first h.sub = λ j. record { kind = one j; first = h.first; sub = h.sub } in
        let a = exists h.first h.sub 5 10 (ap (head_fault kinds) (sym named) ∙ z) in
        let b = exists c t 5 10 slot in
        let apart : 10 * h.first + h.sub ≢ 10 * c + t = λ same.
        let first : h.first ≡ c = omega (arith, a.1, b.1) in
        let sub : h.sub ≡ t = omega (arith, a.1, b.1) in
        other (λ j. record { kind = one j; first = first j; sub = sub j }) in
        ap (λ (o : Option Terms). cond (eqb h.kind 1) (option_map terms_bytes o) (holds (get_or rs h.first no_resource) h.kind h.sub))
        (get_or-set_other lines (10 * c + t) (10 * h.first + h.sub) terms None apart))
        (λ no. cond-false _ _ _ (ne_eqb h.kind 1 no) ∙ sym (cond-false _ _ _ (ne_eqb h.kind 1 no)))
        (cases_eq h.kind 1)

    pub line_written : slots_from (table_holds (set lines (10 * c + t) terms) rs) ≡ set (slots_from (table_holds lines rs)) (place kinds (head 1 c t)) body
    line_written =
        views.changed (table_holds lines rs) (table_holds (set lines (10 * c + t) terms) rs) (head 1 c t) slot line_elsewhere
        ∙ ap (set (slots_from (table_holds lines rs)) (place kinds (head 1 c t))) (ap (option_map terms_bytes) (get_or-set_same lines (10 * c + t) terms None within) ∙ is)
