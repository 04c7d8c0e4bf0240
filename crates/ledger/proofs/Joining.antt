-- Parts joined place by place, and by sections.
use Rattle.std.proofs.Common.{◌≡◌, ℕ, zero, suc, ◌+◌, ◌-◌, ◌*◌, ◌/◌, ◌%◌, ◌<◌, List, [], ◌∷◌, ◌++◌, sym, refl, ap, ◌∙◌, suc-mul, arith}
use Rattle.std.proofs.lemmas.Nat.{div-mul-add, mod-mul-add}
use Rattle.std.proofs.lemmas.List.{append_assoc, append-nil}
use Rattle.entries.specs.Sections.{Section, width, total, head_from}
use Rattle.entries.specs.declared.head.Head.{Head}
use Rattle.entries.specs.Entries.{head}
use Rattle.ledger.specs.Views.{joined_below, by_heads}
use Rattle.ledger.proofs.Places.{head_here, head_there}

joined_none : (f : ℕ → List ℕ) → joined_below 0 f ≡ []
unfolding joined_below
joined_none f = refl

pub joined_more : (n : ℕ) (f : ℕ → List ℕ) → joined_below (suc n) f ≡ joined_below n f ++ f n
unfolding joined_below
joined_more n f = refl

pub joined_same : (n : ℕ) (f g : ℕ → List ℕ) → ((i : ℕ) → i < n → f i ≡ g i) → joined_below n f ≡ joined_below n g
joined_same zero f g same = joined_none f ∙ sym (joined_none g)
joined_same (suc n) f g same =
    let before = joined_same n f g (λ i h. same i (omega arith)) in
    let here = same n (omega arith) in
    joined_more n f ∙ (λ i. before i ++ here i) ∙ sym (joined_more n g)

pub joined_split : (m n : ℕ) (f : ℕ → List ℕ) → joined_below (m + n) f ≡ joined_below m f ++ joined_below n (λ j. f (m + j))
joined_split m zero f =
    let e : m + 0 ≡ m = omega arith in
    ap (λ k. joined_below k f) e ∙ sym (append-nil (joined_below m f)) ∙ ap (λ l. joined_below m f ++ l) (sym (joined_none (λ j. f (m + j))))
joined_split m (suc n) f =
    let e : m + suc n ≡ suc (m + n) = omega arith in
    let g : ℕ → List ℕ = λ j. f (m + j) in
    ap (λ k. joined_below k f) e ∙ joined_more (m + n) f
    ∙ ap (λ l. l ++ f (m + n)) (joined_split m n f)
    ∙ append_assoc (joined_below m f) (joined_below n g) (f (m + n))
    ∙ ap (λ l. joined_below m f ++ l) (sym (joined_more n g))

-- n parts for each of m numbers
joined_grid : (m n : ℕ) (g : ℕ → ℕ → List ℕ) → joined_below (m * n) (λ i. g (i / n) (i % n)) ≡ joined_below m (λ first. joined_below n (λ sub. g first sub))
joined_grid zero n g =
    let e : 0 * n ≡ 0 = omega arith in
    ap (λ k. joined_below k (λ i. g (i / n) (i % n))) e ∙ joined_none (λ i. g (i / n) (i % n)) ∙ sym (joined_none (λ first. joined_below n (λ sub. g first sub)))
joined_grid (suc m) n g =
    let e : suc m * n ≡ m * n + n = suc-mul m n in
    let f : ℕ → List ℕ = λ i. g (i / n) (i % n) in
    let row : ℕ → List ℕ = λ first. joined_below n (λ sub. g first sub) in
    let last : joined_below n (λ j. f (m * n + j)) ≡ row m =
    joined_same n (λ j. f (m * n + j)) (λ j. g m j) (λ j h. λ i. g (div-mul-add m n j h i) (mod-mul-add m n j h i)) in
    let before = joined_grid m n g in
    ap (λ k. joined_below k f) e ∙ joined_split (m * n) n f ∙ (λ i. before i ++ last i) ∙ sym (joined_more m row)

pub joined_sections : (k : ℕ) (ss : List Section) (f : Head → List ℕ) → joined_below (total ss) (λ i. f (head_from k ss i)) ≡ by_heads k ss f
joined_sections k [] f = joined_none (λ i. f (head_from k [] i))
joined_sections k (s ∷ rest) f =
    let all : ℕ → List ℕ = λ i. f (head_from k (s ∷ rest) i) in
    let here =
    joined_same (width s) all (λ i. f (head k (i / s.subs) (i % s.subs))) (λ i h. ap f (head_here k s rest i h))
    ∙ joined_grid s.firsts s.subs (λ first sub. f (head k first sub)) in
    let there =
    joined_same (total rest) (λ j. all (width s + j)) (λ j. f (head_from (k + 1) rest j)) (λ j h.
    let e : width s + j - width s ≡ j = omega arith in
    ap f (head_there k s rest (width s + j) (omega arith) ∙ ap (head_from (k + 1) rest) e))
    ∙ joined_sections (k + 1) rest f in
    joined_split (width s) (total rest) all ∙ (λ i. here i ++ there i)
