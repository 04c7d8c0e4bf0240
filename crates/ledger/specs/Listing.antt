-- The listing, drawn from slots and the meanings of the bounds.
use Rattle.std.specs.Prelude.{◌≡◌, ℕ, cond, List, [], ◌∷◌, ◌++◌, is_some, Some, None, Option, decimal, ◌≢◌, sum}
use Rattle.vocabulary.specs.declared.parameter.Parameter.{Parameter}
use Rattle.vocabulary.specs.declared.product.Product.{Product}
use Rattle.vocabulary.specs.declared.verdict.Verdict.{Verdict}
use Rattle.vocabulary.specs.Orders.{of_products, of_parameters}
use Rattle.charges.specs.declared.finding.Finding.{Finding}
use Rattle.charges.specs.Findings.{Meanings, finding}
use Rattle.answers.specs.declared.answer.Answer.{Answer}
use Rattle.answers.specs.Answers.{conduct}
use Rattle.answers.specs.Lines.{two_digits, letters, line_of as answer_line}
use Rattle.entries.specs.Table.{kinds}
use Rattle.ledger.specs.Slots.{Slots}
use Rattle.ledger.specs.Ledger.{Act, ledger}
use Rattle.ledger.specs.Views.{joined_below}
use Rattle.ledger.specs.Readings.{lines, own}
use Rattle.ledger.specs.Promises.{Agree, For, ShareNone}

-- the resource's number, five groups of letters, the charges added, and the line's end
abbrev pub line_of : (Parameter → Verdict) → (Product → Finding) → ℕ → List ℕ
line_of conducts found r =
    two_digits r
    ++ letters (of_parameters conducts)
    ++ letters (of_products (λ p. (found p).verdicts.impact))
    ++ letters (of_products (λ p. (found p).verdicts.resource))
    ++ letters (of_products (λ p. (found p).verdicts.entity))
    ++ letters (of_products (λ p. (found p).verdicts.quantity_impact))
    ++ (32 ∷ decimal (sum (of_products (λ p. (found p).charge))))
    ++ (10 ∷ [])

-- a resource without a standing has no line
unfoldable pub listing_line : Meanings → Slots → ℕ → List ℕ
listing_line m s r =
    cond (is_some (own s r).standing) (line_of (conduct m (lines s) (own s r)) (λ p. finding m (lines s) (own s) p r) r) []

-- the line that an answer makes; a resource that is not listed has none
abbrev pub line_if : ℕ → Option Answer → List ℕ
line_if r None = []
line_if r (Some a) = answer_line r a

abbrev pub listing : Meanings → Slots → List ℕ
listing m s = joined_below 32 (listing_line m s)

-- meanings that agree draw the same listing
abbrev pub EqualListings : Type 0
EqualListings = (m n : Meanings) → Agree m n → (s : Slots) → listing m s ≡ listing n s

-- one more call for a resource leaves the lines of all that share no entity with it before or after
abbrev pub NeighboursLines : Type 0
NeighboursLines =
    (m : Meanings) (acts : List Act) (a : Act) (r q : ℕ) → For a r → (q ≢ r)
    → ShareNone (ledger kinds acts).slots r q
    → ShareNone (ledger kinds (acts ++ (a ∷ []))).slots r q
    → listing_line m (ledger kinds (acts ++ (a ∷ []))).slots q ≡ listing_line m (ledger kinds acts).slots q
