-- Bodies, kind by kind: what one says, its bytes, and its fault, 5 to 7, or 0.
use Rattle.std.specs.Prelude.{ℕ, ◌%◌, Bool, cond, ◌&&◌, List, [], ◌∷◌, ◌++◌, length, take, drop, ℤ, pos, ◌==◌, int_le, nat_le, nat_lt, slice_index}
use Rattle.bounds.specs.Ranges.{in_price_range}
use Rattle.vocabulary.specs.declared.lines.Terms.{Terms}
use Rattle.vocabulary.specs.declared.standing.Standing.{Standing}
use Rattle.vocabulary.specs.declared.resource.Remark.{Remark}
use Rattle.bodies.specs.Numbers.{word, number, word_bytes, number_bytes}
use Rattle.bodies.specs.Curves.{curve_steps, steps_fault}

-- fault 6 unless the test holds
abbrev pub unless_in_range : Bool → ℕ
unless_in_range b = cond b 0 6

-- fault 5 unless the body has n bytes, then the fault of what they say
abbrev pub sized : ℕ → List ℕ → ℕ → ℕ
sized n body fault = cond (length body == n) fault 5

abbrev pub between : ℤ → ℤ → ℤ → Bool
between low high z = int_le low z && int_le z high

-- a line's percent, cap and floor
abbrev pub terms_of : List ℕ → Terms
terms_of body = record { percent = word body; «cap» = word (drop 4 body); floor = number (drop 8 body) }

abbrev pub terms_bytes : Terms → List ℕ
terms_bytes t = word_bytes t.percent ++ (word_bytes t.«cap» ++ number_bytes t.floor)

-- the floor is a price under tests 0 and 1, and 0 under the others
abbrev pub in_terms_range : ℕ → Terms → Bool
in_terms_range test t =
    nat_le t.percent 1000
    && (nat_le t.«cap» 100000000
    && cond (nat_lt test 2) (in_price_range t.floor) (between (pos 0) (pos 0) t.floor))

abbrev pub line_fault : ℕ → List ℕ → ℕ
line_fault test body = sized 12 body (unless_in_range (in_terms_range test (terms_of body)))

-- an entity, a multiplier and a set for each product
abbrev pub standing_of : List ℕ → Standing
standing_of body = record {
  entity = slice_index body 0;
  multiplier = slice_index body 1;
  energy = slice_index body 2;
  spinning = slice_index body 3;
  non_spinning = slice_index body 4;
  thirty_minute = slice_index body 5;
}

abbrev pub standing_bytes : Standing → List ℕ
standing_bytes s = s.entity ∷ s.multiplier ∷ s.energy ∷ s.spinning ∷ s.non_spinning ∷ s.thirty_minute ∷ []

-- conditions 0 to 3 in any company, or condition 4 alone
abbrev pub in_set_range : ℕ → Bool
in_set_range set = nat_le set 16

abbrev pub in_standing_range : Standing → Bool
in_standing_range s =
    nat_le s.entity 15
    && (nat_le 1 s.multiplier
    && (nat_le s.multiplier 9
    && (in_set_range s.energy
    && (in_set_range s.spinning
    && (in_set_range s.non_spinning
    && in_set_range s.thirty_minute)))))

abbrev pub standing_fault : List ℕ → ℕ
standing_fault body = sized 6 body (unless_in_range (in_standing_range (standing_of body)))

-- parameter 0 is energy, 1 to 3 are reserve
abbrev pub most_steps : ℕ → ℕ
most_steps parameter = cond (parameter == 0) 20 5

abbrev pub curve_fault : ℕ → List ℕ → ℕ
curve_fault parameter body = cond (length body % 8 == 0) (steps_fault (most_steps parameter) (curve_steps body)) 5

-- parameters 4 and 5 are costs, 6 is a run time, 7 a ramp rate
abbrev pub most_amount : ℕ → ℤ
most_amount parameter = cond (parameter == 6) (pos 24) (cond (parameter == 7) (pos 10000) (pos 100000000))

abbrev pub amount_fault : ℕ → List ℕ → ℕ
amount_fault parameter body = sized 4 body (unless_in_range (between (pos 0) (most_amount parameter) (number body)))

abbrev pub parameter_fault : ℕ → List ℕ → ℕ
parameter_fault parameter body = cond (nat_lt parameter 4) (curve_fault parameter body) (amount_fault parameter body)

abbrev pub quantity_fault : List ℕ → ℕ
quantity_fault body = sized 4 body (unless_in_range (nat_le (word body) 100000))

abbrev pub price_fault : List ℕ → ℕ
price_fault body = sized 4 body (unless_in_range (in_price_range (number body)))

-- the words of a remark
abbrev pub remark_bytes : Remark → List ℕ
remark_bytes r = take r.count r.bytes

abbrev pub remark_fault : List ℕ → ℕ
remark_fault body = cond (nat_le 1 (length body) && nat_le (length body) 120) 0 5
