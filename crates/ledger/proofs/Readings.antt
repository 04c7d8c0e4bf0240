-- What is held is read.
use Rattle.std.proofs.Common.{◌≡◌, ℕ, Bool, true, false, cond, ◌&&◌, ltb, leb, List, ℤ, pos, is_some, Some, None, Option, refl, arith}
use lib.Signed.{le_z}
use Rattle.std.proofs.lemmas.Int.{ints}
use Rattle.std.proofs.lemmas.Bool.{and_parts, and_from, both_ways, cond_both}
use Rattle.bounds.specs.Ranges.{in_price_range, in_range}
use Rattle.bounds.specs.Lines.{line_if, line_of}
use Rattle.vocabulary.specs.declared.lines.Terms.{Terms}
use Rattle.vocabulary.specs.Numbers.{condition_number, test_number}
use Rattle.bodies.specs.Bodies.{between, terms_of, in_terms_range}
use Rattle.entries.specs.Entries.{head}
use Rattle.entries.specs.Table.{kinds}
use Rattle.ledger.specs.Slots.{content_fault}
use Rattle.ledger.specs.Readings.{held, line_in}
use Rattle.ledger.specs.Promises.{Read}
use Rattle.ledger.proofs.Bodies.{sized_none, inside}
use Rattle.ledger.proofs.Holdings.{held_from, held_fits}

zero_price : (z : ℤ) → between (pos 0) (pos 0) z ≡ true → in_price_range z ≡ true
zero_price z e = let p = and_parts (le_z (pos 0) z) (le_z z (pos 0)) e in grind (arith, ints)

-- the floor is a price under every test
pub terms_in_range : (test : ℕ) (t : Terms) → in_terms_range test t ≡ true → in_range t.percent t.«cap» t.floor ≡ true
terms_in_range test t e =
    let floor : Bool = cond (ltb test 2) (in_price_range t.floor) (between (pos 0) (pos 0) t.floor) in
    let p = and_parts (leb t.percent 1000) (leb t.«cap» 100000000 && floor) e in
    let q = and_parts (leb t.«cap» 100000000) floor p.1 in
    let price : in_price_range t.floor ≡ true =
    cond_both (ltb test 2) (in_price_range t.floor) (between (pos 0) (pos 0) t.floor) (λ b. b ≡ true → in_price_range t.floor ≡ true)
    (λ _ h. h) (λ _ h. zero_price t.floor h) q.1 in
    and_from _ (in_price_range t.floor) (and_from (leb t.percent 1000) (leb t.«cap» 100000000) p.0 q.0) price

line_some : (percent limit : ℕ) (floor : ℤ) (b : Bool) (e : in_range percent limit floor ≡ b) → in_range percent limit floor ≡ true → is_some (line_if percent limit floor b e) ≡ true
line_some percent limit floor true e h = refl
line_some percent limit floor false e h = absurd (both_ways _ e h)

line_read : (percent limit : ℕ) (floor : ℤ) → in_range percent limit floor ≡ true → is_some (line_of percent limit floor) ≡ true
unfolding line_of
line_read percent limit floor h = line_some percent limit floor (in_range percent limit floor) refl h

body_read : (c t : ℕ) (o : Option (List ℕ)) → content_fault kinds (head 1 c t) o ≡ 0 → is_some (line_in o) ≡ is_some o
body_read c t None z = refl
body_read c t (Some body) z =
    let terms = terms_of body in
    line_read terms.percent terms.«cap» terms.floor (terms_in_range t terms (inside _ (sized_none 12 body _ z)))

pub read : Read
read = record {
  held = held_from;
  lines = λ s well c t. body_read (condition_number c) (test_number t) (held s (head 1 (condition_number c) (test_number t))) (held_fits s well (head 1 (condition_number c) (test_number t)));
}
