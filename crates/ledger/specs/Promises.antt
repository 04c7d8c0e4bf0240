-- What the rules keep, whatever the calls: readings, mitigated offers, equal meanings, and neighbours.
use Rattle.std.specs.Prelude.{◌≡◌, ℕ, ◌≤◌, true, false, ◌&&◌, List, [], ◌∷◌, ◌++◌, ℤ, is_some, Some, ◌≢◌}
use Rattle.bounds.specs.declared.line.Line.{Line}
use Rattle.bounds.specs.Meanings.{Meaning}
use Rattle.kinds.specs.Judged.{DifferWhen}
use Rattle.vocabulary.specs.declared.condition.Condition.{Condition}
use Rattle.vocabulary.specs.declared.product.Product.{Product}
use Rattle.vocabulary.specs.declared.parameter.Parameter.{Parameter}
use Rattle.vocabulary.specs.declared.test.Test.{Test}
use Rattle.vocabulary.specs.Numbers.{condition_number, test_number, parameter_number}
use Rattle.vocabulary.specs.Orders.{product_of}
use Rattle.vocabulary.specs.Verdicts.{failed}
use Rattle.vocabulary.specs.Conditions.{condition_in_force, in_zone}
use Rattle.verdicts.specs.Rules.{impact}
use Rattle.charges.specs.Findings.{Meanings, finding}
use Rattle.answers.specs.Answers.{conduct}
use Rattle.bodies.specs.Bodies.{standing_of}
use Rattle.entries.specs.declared.head.Head.{Head}
use Rattle.entries.specs.Files.{head_of, head_fault, no_fault}
use Rattle.entries.specs.Table.{kinds}
use Rattle.ledger.specs.Slots.{Slots, WellFormed}
use Rattle.ledger.specs.Ledger.{Act, posted, cleared, loaded, closed, empty, fault, step, ledger}
use Rattle.ledger.specs.Views.{Holding, slots_from}
use Rattle.ledger.specs.Readings.{held, slot, lines, own}
use Rattle.charges.specs.Lawful.{Lawful}
use Rattle.ledger.specs.Mitigation.{substituted, mitigated, mitigated_file}

-- what is held is read: from slots made of holdings, and every line of well-formed slots
pub record Read : Type 0 where
  pub held : (f : Holding) (h : Head) → head_fault kinds h ≡ 0 → held (slots_from f) h ≡ f h
  pub lines : (s : Slots) → WellFormed kinds s → (c : Condition) (t : Test) → is_some (lines s c t) ≡ is_some (slot s 1 (condition_number c) (test_number t))

-- a parameter's offer before and after mitigation
pub record OfferMitigated (m : Meanings) (s : Slots) (r : ℕ) (p : Parameter) : Type 0 where
  -- it differs exactly where the rules substitute it
  pub substituted : DifferWhen (substituted m (lines s) (own s r) p) (slot (mitigated m s) 3 r (parameter_number p)) (slot s 3 r (parameter_number p))
  -- outside uncompetitive intertie zones exactly where conduct and the product's impact fail, inside never
  pub outside : in_zone (condition_in_force (own s r) (product_of p)) ≡ false
      → DifferWhen (failed (conduct m (lines s) (own s r) p) && failed (impact m.impacts (lines s) (own s r) (product_of p)))
      (slot (mitigated m s) 3 r (parameter_number p)) (slot s 3 r (parameter_number p))
  pub inside : in_zone (condition_in_force (own s r) (product_of p)) ≡ true
      → slot (mitigated m s) 3 r (parameter_number p) ≡ slot s 3 r (parameter_number p)

pub record Mitigated (m : Meanings) (s : Slots) : Type 0 where
  pub well_formed : WellFormed kinds (mitigated m s)
  pub offers : (r : ℕ) (p : Parameter) → OfferMitigated m s r p
  -- every other slot stays
  pub others : (k f u : ℕ) → (k ≢ 3) → slot (mitigated m s) k f u ≡ slot s k f u
  -- mitigating again changes nothing
  pub again : mitigated m (mitigated m s) ≡ mitigated m s
  -- the empty ledger takes the mitigated file, and then its mitigated file is the same bytes
  pub taken : fault kinds (empty kinds) (loaded (mitigated_file m s)) ≡ no_fault
  pub same : mitigated_file m (step kinds (empty kinds) (loaded (mitigated_file m s))).slots ≡ mitigated_file m s

abbrev pub Mitigates : Type 0
Mitigates = (m : Meanings) → Lawful m → (s : Slots) → WellFormed kinds s → Mitigated m s

-- meanings that agree on every line, reference and value
pub record Agree (m n : Meanings) : Type 0 where
  pub curves : (l : Line) (r v : ℤ) → m.curves l r v ≡ n.curves l r v
  pub amounts : (l : Line) (r v : ℤ) → m.amounts l r v ≡ n.amounts l r v
  pub impacts : (l : Line) (r v : ℤ) → m.impacts l r v ≡ n.impacts l r v
  pub quantities : (l : Line) (r v : ℤ) → m.quantities l r v ≡ n.quantities l r v

pub record Alike (m n : Meanings) (s : Slots) : Type 0 where
  pub conducts : (r : ℕ) (p : Parameter) → conduct m (lines s) (own s r) p ≡ conduct n (lines s) (own s r) p
  pub findings : (r : ℕ) (product : Product) → finding m (lines s) (own s) product r ≡ finding n (lines s) (own s) product r
  pub mitigations : mitigated m s ≡ mitigated n s

abbrev pub EqualMeanings : Type 0
EqualMeanings = (m n : Meanings) → Agree m n → (s : Slots) → Alike m n s

-- a post or a clear for a slot of resource r
abbrev pub For : Act → ℕ → Type 0
For (posted bs) r = (2 ≤ (head_of bs).kind) × ((head_of bs).first ≡ r)
For (cleared h) r = (2 ≤ h.kind) × (h.first ≡ r)
For (loaded file) r = ⊥
For closed r = ⊥

-- the standing of resource r names entity e
pub record Belongs (s : Slots) (r e : ℕ) : Type 0 where
  pub body : List ℕ
  pub standing : slot s 2 r 0 ≡ Some body
  pub entity : (standing_of body).entity ≡ e

-- an entity that both belong to is 0, which is none
abbrev pub ShareNone : Slots → ℕ → ℕ → Type 0
ShareNone s r q = (e : ℕ) → Belongs s r e → Belongs s q e → e ≡ 0

-- what is said of resource q stays from slots s to slots t
pub record Unmoved (m : Meanings) (s t : Slots) (q : ℕ) : Type 0 where
  pub slots : (k u : ℕ) → 2 ≤ k → slot t k q u ≡ slot s k q u
  pub conducts : (p : Parameter) → conduct m (lines t) (own t q) p ≡ conduct m (lines s) (own s q) p
  pub findings : (product : Product) → finding m (lines t) (own t) product q ≡ finding m (lines s) (own s) product q

-- one more call for a resource moves none that shares no entity with it before or after
abbrev pub Neighbours : Type 0
Neighbours =
    (m : Meanings) (acts : List Act) (a : Act) (r q : ℕ) → For a r → (q ≢ r)
    → ShareNone (ledger kinds acts).slots r q
    → ShareNone (ledger kinds (acts ++ (a ∷ []))).slots r q
    → Unmoved m (ledger kinds acts).slots (ledger kinds (acts ++ (a ∷ []))).slots q
