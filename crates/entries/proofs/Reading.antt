-- The entry that begins a list of bytes: its parts and its fault.
use Rattle.std.proofs.Common.{◌≡◌, ℕ, ◌+◌, ◌-◌, ◌*◌, ◌/◌, ◌%◌, ◌<◌, ◌≤◌, List, [], ◌∷◌, length, take, drop, Ok, Err, Result, MatchResult, sym, refl, ap, ◌∙◌, subst, arith, length-drop}
use Rattle.std.proofs.lemmas.List.{drop-drop, take_all}
use Rattle.std.proofs.lemmas.Bool.{le-ltb, ne_eqb, cond-false}
use Rattle.bodies.specs.Numbers.{size}
use Rattle.bodies.specs.Faults.{fault_number, Reads}
use Rattle.entries.specs.Sections.{Section}
use Rattle.entries.specs.declared.head.Head.{Head}
use Rattle.entries.specs.Entries.{Raw, head, raw}
use Rattle.entries.specs.Files.{told, entry_bytes, first_fault, short, followed, head_of, body_of, entry_length, entry_at, head_fault, body_fault, checks, entry_fault, post_fault}
use Rattle.bodies.proofs.Bytes.{Octets}
use Rattle.bodies.specs.declared.fault.Refusal.{Refusal}
use Rattle.bodies.specs.declared.fault.Fault.{Fault}
use Rattle.bodies.specs.declared.fault.Fault.TheVariants.{Short, Mark, Kind, Slot, Length, Range, Order, Room, Closed, Empty}

pub fault_positive : (f : Fault) → 0 < fault_number f
fault_positive Short = omega arith
fault_positive Mark = omega arith
fault_positive Kind = omega arith
fault_positive Slot = omega arith
fault_positive Length = omega arith
fault_positive Range = omega arith
fault_positive Order = omega arith
fault_positive Room = omega arith
fault_positive Closed = omega arith
fault_positive Empty = omega arith

-- what was read of the entry at a place, by how reading it ended
pub placed_ok : {A : Type 0} (n place : ℕ) (P : A → Type 0) (r : Result A Fault) (x : A) → Reads n P r → MatchResult r (λ y. ◌≡◌ {A = Result A Refusal} (Ok x) (Ok y)) (λ f. ◌≡◌ {A = Result A Refusal} (Ok x) (Err (record { fault = f; place = place }))) → (n ≡ 0) × P x
placed_ok n place P (Ok y) x said h = let e : y ≡ x = cc in (said.0, subst P e said.1)
placed_ok n place P (Err f) x said h = absurd (cc)

pub placed_err : {A : Type 0} (n place : ℕ) (P : A → Type 0) (r : Result A Fault) (d : Refusal) → Reads n P r → MatchResult r (λ y. ◌≡◌ {A = Result A Refusal} (Err d) (Ok y)) (λ f. ◌≡◌ {A = Result A Refusal} (Err d) (Err (record { fault = f; place = place }))) → told (Err d) ≡ record { number = n; place = place }
placed_err n place P (Ok y) d said h = absurd (cc)
placed_err n place P (Err f) d said h =
    let e : d ≡ record { fault = f; place = place } = cc in
    (λ i. record { number = fault_number (e i).fault; place = (e i).place }) ∙ (λ i. record { number = said i; place = place })

pub first_stands : (m a b : ℕ) → m ≡ a → 0 < m → m ≡ first_fault a b
first_stands m a b e h = e ∙ sym (cond-false _ _ _ (ne_eqb a 0 (λ z. omega arith)))

pub first_passes : (a b : ℕ) → a ≡ 0 → first_fault a b ≡ b
first_passes a b e = ap (λ n. first_fault n b) e

pub short_checks : (table : List Section) (extra : ℕ) (bs : List ℕ) → short bs ≡ 1 → 1 ≡ checks table extra bs
short_checks table extra bs e = first_stands 1 (short bs) _ (sym e) (omega arith)

-- bs begin with a whole entry, whose body has n bytes
module _ (table : List Section) (bs : List ℕ) (n : ℕ) (is : n ≡ size (drop 3 bs)) (fits : 5 + n ≤ length bs) where
  not_short : short bs ≡ 0
  not_short = cond-false _ _ _ (le-ltb (length bs) (entry_length bs) (omega arith))

  pub whole_checks : (extra : ℕ) → checks table extra bs ≡ first_fault (head_fault table (head_of bs)) (first_fault extra (body_fault table (head_of bs) (body_of bs)))
  whole_checks extra = first_passes (short bs) _ not_short

  pub entry_alone : (h : Head) → h ≡ head_of bs → raw h (take (5 + n - 5) (drop 5 bs)) 0 ≡ entry_at 0 bs
  entry_alone h named = let e : 5 + n - 5 ≡ size (drop 3 bs) = omega arith in λ i. raw (named i) (take (e i) (drop 5 bs)) 0

  -- the entry stands alone, and its head names a slot
  pub post_body : length bs ≤ 5 + n → (r : Raw) → r ≡ entry_at 0 bs → head_fault table r.head ≡ 0 → (m : ℕ) → m ≡ body_fault table r.head r.body → m ≡ post_fault table bs
  post_body h r made named m e =
      let alone : followed bs ≡ 0 = cond-false _ _ _ (le-ltb (entry_length bs) (length bs) (omega arith)) in
      e ∙ ap (λ (x : Raw). body_fault table x.head x.body) made
      ∙ sym (whole_checks (followed bs) ∙ first_passes _ _ (ap (λ (x : Raw). head_fault table x.head) (sym made) ∙ named) ∙ first_passes _ _ alone)

-- an entry by itself is written again as it was
again_from : (a b c d e : ℕ) (rest : List ℕ) → e < 256 → length rest ≡ d * 256 + e → entry_bytes (head a b c) (take (d * 256 + e) rest) ≡ a ∷ b ∷ c ∷ d ∷ e ∷ rest
again_from a b c d e rest h l =
    let high : length rest / 256 ≡ d = omega arith in
    let low : length rest % 256 ≡ e = omega arith in
    ap (entry_bytes (head a b c)) (take_all (d * 256 + e) rest (omega arith)) ∙ (λ i. a ∷ b ∷ c ∷ high i ∷ low i ∷ rest)

pub entry_again : (bs : List ℕ) (n : ℕ) → n ≡ size (drop 3 bs) → length bs ≡ 5 + n → Octets bs → entry_bytes (head_of bs) (body_of bs) ≡ bs
unfolding size
entry_again [] n is l byte = absurd (omega arith)
entry_again (a ∷ []) n is l byte = absurd (omega arith)
entry_again (a ∷ b ∷ []) n is l byte = absurd (omega arith)
entry_again (a ∷ b ∷ c ∷ []) n is l byte = absurd (omega arith)
entry_again (a ∷ b ∷ c ∷ d ∷ []) n is l byte = absurd (omega arith)
entry_again (a ∷ b ∷ c ∷ d ∷ e ∷ rest) n is l byte = again_from a b c d e rest (byte 4) (omega arith)

-- an entry of a file, from `at` to `past`
module _ (table : List Section) (file : List ℕ) (at past : ℕ) (h : Head) (named : h ≡ head_of (drop at file)) (to : past ≡ at + entry_length (drop at file)) (within : past ≤ length file) where
  body_here : take (past - (at + 5)) (drop (at + 5) file) ≡ body_of (drop at file)
  body_here =
      let e : past - (at + 5) ≡ size (drop 3 (drop at file)) = omega arith in
      let from : drop (at + 5) file ≡ drop 5 (drop at file) = sym (drop-drop 5 at file) in
      (λ i. take (e i) (from i))

  pub entry_here : raw h (take (past - (at + 5)) (drop (at + 5) file)) at ≡ entry_at at (drop at file)
  entry_here = λ i. raw (named i) (body_here i) at

  pub fault_here : (m : ℕ) → m ≡ first_fault (head_fault table h) (body_fault table h (take (past - (at + 5)) (drop (at + 5) file))) → m ≡ entry_fault table (drop at file)
  fault_here m e =
      let long = length-drop at file in
      e ∙ (λ i. first_fault (head_fault table (named i)) (body_fault table (named i) (body_here i)))
      ∙ sym (whole_checks table (drop at file) (size (drop 3 (drop at file))) refl (omega arith) 0)
