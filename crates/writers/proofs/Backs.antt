-- What was written is read back.
use Rattle.std.proofs.Common.{◌≡◌, ℕ, ◌/◌, ◌%◌, ◌≤◌, leb, List, ◌∷◌, ◌++◌, length, take, drop, ℤ, pos, refl, ap, ◌∙◌, arith, w32, SFits}
use Rattle.std.proofs.lemmas.Nat.{div-add-mod'}
use Rattle.std.proofs.lemmas.List.{take_all, take_at}
use Rattle.std.proofs.lemmas.Bool.{and_from, le-leb, eq-eqb, cond-true}
use Rattle.bounds.specs.Ranges.{in_price_range}
use Rattle.curves.specs.declared.step.Step.{Step}
use Rattle.vocabulary.specs.declared.lines.Terms.{Terms}
use Rattle.bodies.specs.Numbers.{word, size, word_bytes, number_bytes}
use Rattle.bodies.specs.Bodies.{unless_in_range, between, terms_of, terms_bytes, in_terms_range, most_steps, most_amount, remark_fault}
use Rattle.bodies.specs.Curves.{curve_bytes, steps_fault}
use Rattle.entries.specs.Entries.{Raw, raw}
use Rattle.entries.specs.Files.{entry_bytes, entry_at, body_of}
use Rattle.entries.specs.declared.head.Head.{Head}
use Rattle.bodies.proofs.Bytes.{number_back_alone}
use Rattle.bodies.proofs.Backs.{length_curve, curve_back as steps_back}
use Rattle.writers.specs.Buffers.{onto}
use Rattle.writers.specs.Reads.{LineReads, NumberReads, QuantityReads, CurveReads}

size_back : (n : ℕ) (rest : List ℕ) → size ((n / 256) ∷ (n % 256) ∷ rest) ≡ n
unfolding size
size_back n rest = div-add-mod' n 256

pub entry_alone : (h : Head) (body : List ℕ) → entry_at 0 (entry_bytes h body) ≡ raw h body 0
entry_alone h body =
    ap (λ n. raw h (take n body) 0) (size_back (length body) body) ∙ ap (λ b. raw h b 0) (take_all (length body) body (omega arith))

-- an entry at the front of a buffer
pub entry_back : (h : Head) (body old : List ℕ) → entry_at 0 (onto (entry_bytes h body) old) ≡ raw h body 0
entry_back h body old =
    let rest = drop (length (entry_bytes h body)) old in
    ap (λ n. raw h (take n (body ++ rest)) 0) (size_back (length body) (body ++ rest)) ∙ ap (λ b. raw h b 0) (take_at body rest (length body) refl)

pub body_back : (h : Head) (body old out : List ℕ) → out ≡ onto (entry_bytes h body) old → body_of out ≡ body
body_back h body old out e = ap body_of e ∙ ap (λ (r : Raw). r.body) (entry_back h body old)

-- a body of its kind's length has the fault of what it says
pub line_back : (test : ℕ) (t : Terms) → terms_of (terms_bytes t) ≡ t → LineReads test t (terms_bytes t)
unfolding word_bytes
line_back test t e = record { value = e; fault = ap (λ x. unless_in_range (in_terms_range test x)) e }

pub number_back_law : (z : ℤ) → SFits w32 z → NumberReads z (number_bytes z)
unfolding word_bytes
number_back_law z f =
    let e = number_back_alone z f in
    record {
      value = e;
      amount = λ parameter. ap (λ x. unless_in_range (between (pos 0) (most_amount parameter) x)) e;
      price = ap (λ x. unless_in_range (in_price_range x)) e;
    }

pub quantity_back : (n : ℕ) → word (word_bytes n) ≡ n → QuantityReads n (word_bytes n)
unfolding word_bytes
quantity_back n e = record { value = e; fault = ap (λ x. unless_in_range (leb x 100000)) e }

pub curve_back : (parameter : ℕ) (ss : List Step) → CurveReads parameter ss (curve_bytes ss)
curve_back parameter ss =
    let l = length_curve ss in
    let whole : length (curve_bytes ss) % 8 ≡ 0 = omega arith in
    record {
      value = steps_back ss;
      fault = λ h. cond-true _ _ _ (eq-eqb (length (curve_bytes ss) % 8) 0 whole) ∙ ap (steps_fault (most_steps parameter)) (steps_back ss h);
    }

-- a remark of n bytes
pub remark_back : (body : List ℕ) (n : ℕ) → length body ≡ n → n ≤ 120 → 1 ≤ n → remark_fault body ≡ 0
remark_back body n e h k = cond-true _ _ _ (and_from _ _ (le-leb 1 (length body) (omega arith)) (le-leb (length body) 120 (omega arith)))
