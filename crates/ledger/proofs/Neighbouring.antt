-- One more call for a resource, and those that share no entity with it.
use Rattle.std.proofs.Common.{◌≡◌, ℕ, ◌+◌, ◌*◌, ◌≤◌, eqb, List, [], ◌∷◌, ◌++◌, get_or, pos, Some, None, Option, sym, refl, ap, ◌∙◌, ⊎_elim, arith}
use Rattle.std.proofs.lemmas.Bool.{and_left, eqb-true, eqb-false, cases_eq, cond-false, cond_both, ne_eqb}
use Rattle.std.specs.Option.{option_map}
use Rattle.bounds.specs.Meanings.{Meaning}
use Rattle.kinds.specs.Judged.{judged}
use Rattle.vocabulary.specs.declared.condition.Condition.{Condition}
use Rattle.vocabulary.specs.declared.product.Product.{Product}
use Rattle.vocabulary.specs.declared.test.Test.TheVariants.{EntityQuantity}
use Rattle.vocabulary.specs.declared.verdict.Verdict.{Verdict}
use Rattle.vocabulary.specs.declared.verdict.Verdict.TheVariants.{NotTested, Passed, Failed}
use Rattle.vocabulary.specs.Numbers.{product_number, condition_number, amount_number, test_number, run_number}
use Rattle.vocabulary.specs.Readings.{Own, Lines}
use Rattle.vocabulary.specs.Conditions.{condition_in_force, entity_of}
use Rattle.verdicts.specs.Rules.{offered, resource_quantity}
use Rattle.charges.specs.declared.share.Group.{Group}
use Rattle.charges.specs.Groups.{known, group_of, group, brought, total, offered_in, reference_in, group_verdict, entity_quantity}
use Rattle.charges.specs.Findings.{Meanings, verdicts_of, found, finding}
use Rattle.charges.proofs.Totals.{total_same}
use Rattle.bodies.specs.Numbers.{word, number}
use Rattle.bodies.specs.Curves.{curve_steps}
use Rattle.bodies.specs.Bodies.{standing_of}
use Rattle.entries.specs.declared.head.Head.{Head}
use Rattle.entries.specs.Entries.{head}
use Rattle.entries.specs.Files.{first_fault, head_of, body_of, followed, head_fault, post_fault}
use Rattle.entries.specs.Table.{kinds}
use Rattle.ledger.specs.Slots.{Slots, place}
use Rattle.ledger.specs.Ledger.{Act, posted, cleared, loaded, closed, Ledger, hour_fault, empty_fault, empty, fault, obeyed, step, run, ledger}
use Rattle.ledger.specs.Readings.{held, slot, line_in, lines, own}
use Rattle.answers.specs.Answers.{conduct}
use Rattle.ledger.specs.Promises.{For, Belongs, ShareNone, Unmoved, Neighbours}
use Rattle.ledger.proofs.Keeping.{neither, sound}
use Rattle.ledger.proofs.Holdings.{held_set}

run_push : (acts : List Act) (a : Act) (l : Ledger) → run kinds l (acts ++ (a ∷ [])) ≡ step kinds (run kinds l acts) a
run_push [] a l = refl
run_push (b ∷ acts) a l = run_push acts a (step kinds l b)

-- a slot that is not of resource r
abbrev Away : Head → ℕ → Type 0
Away h r = 2 ≤ h.kind → h.first ≡ r → ⊥

away_not : (h g : Head) (r : ℕ) → Away h r → 2 ≤ g.kind → g.first ≡ r → h ≡ g → ⊥
away_not h g r away big e same =
    let kind : h.kind ≡ g.kind = ap (λ (k : Head). k.kind) same in
    away (omega arith) (ap (λ (k : Head). k.first) same ∙ e)

obeyed_away : (l : Ledger) (a : Act) (r : ℕ) → For a r → (fault kinds l a).number ≡ 0 → (h : Head) → Away h r → held (obeyed kinds l a).slots h ≡ held l.slots h
obeyed_away l (posted bs) r is z h away =
    let so = sound kinds (followed bs) bs (neither (post_fault kinds bs) (hour_fault l) z).0 in
    held_set l.slots (head_of bs) (Some (body_of bs)) h so.named (away_not h (head_of bs) r away is.0 is.1)
obeyed_away l (cleared g) r is z h away =
    let named = (neither (head_fault kinds g) (first_fault (hour_fault l) (empty_fault (get_or l.slots (place kinds g) None))) z).0 in
    held_set l.slots g None h named (away_not h g r away is.0 is.1)
obeyed_away l (loaded file) r is z h away = absurd is
obeyed_away l closed r is z h away = absurd is

step_away : (l : Ledger) (a : Act) (r : ℕ) → For a r → (h : Head) → Away h r → held (step kinds l a).slots h ≡ held l.slots h
step_away l a r is h away =
    cond_both (eqb (fault kinds l a).number 0) (obeyed kinds l a) l (λ (x : Ledger). held x.slots h ≡ held l.slots h)
    (λ t. obeyed_away l a r is (eqb-true _ _ t) h away) (λ no. refl)

-- slots that hold the same but for resource r
module _ (s t : Slots) (r : ℕ) (same : (h : Head) → Away h r → held t h ≡ held s h) where
  lines_same : lines t ≡ lines s
  lines_same = λ i condition test. line_in (same (head 1 (condition_number condition) (test_number test)) (λ (big : 2 ≤ 1) e. omega arith) i)

  module _ (q : ℕ) (other : q ≡ r → ⊥) where
    slot_same : (k u : ℕ) → slot t k q u ≡ slot s k q u
    slot_same k u = same (head k q u) (λ big e. other e)

    own_same : own t q ≡ own s q
    own_same = λ i. record {
      standing = option_map standing_of (slot_same 2 0 i);
      offer = record {
        curve = λ product. option_map curve_steps (slot_same 3 (product_number product) i);
        amount = λ amount. option_map number (slot_same 3 (4 + amount_number amount) i);
      };
      reference = record {
        curve = λ product. option_map curve_steps (slot_same 4 (product_number product) i);
        amount = λ amount. option_map number (slot_same 4 (4 + amount_number amount) i);
      };
      quantity = λ product. option_map word (slot_same 5 (product_number product) i);
      price = λ product run. option_map number (slot_same 6 (3 * product_number product + run_number run) i);
    }

-- a group's entity, which is never 0
group_entity : (e : ℕ) (c : Option Condition) (v : Verdict) (g : Group) → group_of e c v ≡ Some g → (g.entity ≡ e) × (e ≡ 0 → ⊥)
group_entity e c NotTested g is = absurd (let z : ◌≡◌ {A = ℕ} 0 1 = cc in omega arith)
group_entity e c Failed g is = absurd (let z : ◌≡◌ {A = ℕ} 0 1 = cc in omega arith)
group_entity e None Passed g is = absurd (let z : ◌≡◌ {A = ℕ} 0 1 = cc in omega arith)
group_entity e (Some c) Passed g is =
    cond_both (eqb e 0) None (Some (record { entity = e; condition = c })) (λ o. o ≡ Some g → (g.entity ≡ e) × (e ≡ 0 → ⊥))
    (λ t made. absurd (let z : ◌≡◌ {A = ℕ} 0 1 = cc in omega arith))
    (λ f made. let same : record { entity = e; condition = c } ≡ g = cc in (ap (λ (h : Group). h.entity) (sym same), eqb-false e 0 f))
    is

-- another entity's resource brings nothing
outsider : (g : Group) (e : ℕ) (c : Option Condition) (v : Verdict) (x : ℕ) → (e ≡ g.entity → ⊥) → brought g (group_of e c v) x ≡ 0
outsider g e c NotTested x ne = refl
outsider g e c Failed x ne = refl
outsider g e None Passed x ne = refl
outsider g e (Some c) Passed x ne =
    cond_both (eqb e 0) None (Some (record { entity = e; condition = c })) (λ o. brought g o x ≡ 0)
    (λ t. refl) (λ f. cond-false _ _ _ (and_left _ _ (ne_eqb e g.entity ne)))

-- an entity other than 0 comes from a standing
abbrev stood : Option (List ℕ) → Own → Own
stood o w = record { standing = option_map standing_of o; offer = w.offer; reference = w.reference; quantity = w.quantity; price = w.price }

module _ (s : Slots) (e : ℕ) (some : e ≡ 0 → ⊥) where
  belongs_by : (r : ℕ) (w : Own) (o : Option (List ℕ)) → slot s 2 r 0 ≡ o → entity_of (stood o w) ≡ e → Belongs s r e
  belongs_by r w None at is = absurd (some (sym is))
  belongs_by r w (Some body) at is = record { body = body; standing = at; entity = is }

  belongs : (r : ℕ) → entity_of (own s r) ≡ e → Belongs s r e
  belongs r is = belongs_by r (own s r) (slot s 2 r 0) refl is

  apart : (r q : ℕ) → ShareNone s r q → entity_of (own s q) ≡ e → entity_of (own s r) ≡ e → ⊥
  apart r q none x y = some (none e (belongs r y) (belongs q x))

-- what is found of q, whose entity r does not share
module _ (s t : Slots) (r q : ℕ) (other : q ≡ r → ⊥) (same : (h : Head) → Away h r → held t h ≡ held s h) (before : ShareNone s r q) (after : ShareNone t r q)
    (quantities : Meaning) (product : Product) where
  abbrev share : Lines → Own → (Own → ℕ) → Group → ℕ
  share ls o amount g = brought g (group quantities ls o product) (amount o)

  module _ (g : Group) (entity : g.entity ≡ entity_of (own s q)) (some : entity_of (own s q) ≡ 0 → ⊥) where
    share_same : (amount : Own → ℕ) (k : ℕ) → share (lines t) (own t k) amount g ≡ share (lines s) (own s k) amount g
    share_same amount k =
        ⊎_elim
        (λ e.
        let still : entity_of (own t q) ≡ entity_of (own s q) = ap entity_of (own_same s t r same q other) in
        ap (λ j. share (lines t) (own t j) amount g) e
        ∙ outsider g (entity_of (own t r)) (condition_in_force (own t r) product) (resource_quantity quantities (lines t) (own t r) product) (amount (own t r))
        (λ x. apart t (entity_of (own s q)) some r q after still (x ∙ entity))
        ∙ sym (outsider g (entity_of (own s r)) (condition_in_force (own s r) product) (resource_quantity quantities (lines s) (own s r) product) (amount (own s r))
        (λ x. apart s (entity_of (own s q)) some r q before refl (x ∙ entity)))
        ∙ ap (λ j. share (lines s) (own s j) amount g) (sym e))
        (λ ne. λ i. share (lines_same s t r same i) (own_same s t r same k ne i) amount g)
        (cases_eq k r)

    sums_same : (amount : Own → ℕ) → total (λ k. share (lines t) (own t k) amount g) 32 ≡ total (λ k. share (lines s) (own s k) amount g) 32
    sums_same amount = total_same _ _ 32 (λ k h. share_same amount k)

  verdict_same : (o : Option Group) → group quantities (lines s) (own s q) product ≡ o
      → group_verdict quantities (lines t) (λ g. total (reference_in quantities (lines t) (own t) product g) 32) (λ g. total (offered_in quantities (lines t) (own t) product g) 32) o
      ≡ group_verdict quantities (lines s) (λ g. total (reference_in quantities (lines s) (own s) product g) 32) (λ g. total (offered_in quantities (lines s) (own s) product g) 32) o
  verdict_same None is = refl
  verdict_same (Some g) is =
      let e = group_entity (entity_of (own s q)) (condition_in_force (own s q) product) (resource_quantity quantities (lines s) (own s q) product) g is in
      λ i. judged quantities (lines_same s t r same i g.condition EntityQuantity)
      (Some (pos (sums_same g e.0 e.1 (λ o. known (o.quantity product)) i)))
      (Some (pos (sums_same g e.0 e.1 (λ o. offered o product) i)))

  entity_same : entity_quantity quantities (lines t) (own t) product q ≡ entity_quantity quantities (lines s) (own s) product q
  entity_same =
      ap (group_verdict quantities (lines t) (λ g. total (reference_in quantities (lines t) (own t) product g) 32) (λ g. total (offered_in quantities (lines t) (own t) product g) 32))
      (λ i. group quantities (lines_same s t r same i) (own_same s t r same q other i) product)
      ∙ verdict_same (group quantities (lines s) (own s q) product) refl

unmoved : (m : Meanings) (s t : Slots) (r q : ℕ) → (q ≡ r → ⊥) → ((h : Head) → Away h r → held t h ≡ held s h) → ShareNone s r q → ShareNone t r q → Unmoved m s t q
unfolding finding
unmoved m s t r q other same before after = record {
  slots = λ k u big. slot_same s t r same q other k u;
  conducts = λ p i. conduct m (lines_same s t r same i) (own_same s t r same q other i) p;
  findings = λ product i.
      let ls = lines_same s t r same i in
      let o = own_same s t r same q other i in
      found m ls o product (verdicts_of m ls o product (entity_same s t r q other same before after m.quantities product i));
}

pub neighbours : Neighbours
neighbours m acts a r q is other before after =
    let l : Ledger = ledger kinds acts in
    let e : step kinds l a ≡ ledger kinds (acts ++ (a ∷ [])) = sym (run_push acts a (empty kinds)) in
    unmoved m l.slots (ledger kinds (acts ++ (a ∷ []))).slots r q other
    (λ h away. ap (λ (x : Ledger). held x.slots h) (sym e) ∙ step_away l a r is h away) before after
