-- Lines of the listing from equal verdicts and findings.
use Rattle.std.proofs.Common.{◌≡◌, ℕ, Bool, true, false, cond, [], ◌∷◌, is_some, Some, None, decimal, refl, ap, append_assoc, arith}
use Rattle.std.specs.Prelude.{sum}
use mathlib.Core.Path.{fun_ext}
use Rattle.std.specs.Option.{option_map}
use Rattle.vocabulary.specs.declared.parameter.Parameter.{Parameter}
use Rattle.vocabulary.specs.declared.product.Product.{Product}
use Rattle.vocabulary.specs.declared.verdict.Verdict.{Verdict}
use Rattle.charges.specs.declared.finding.Finding.{Finding}
use Rattle.charges.specs.Findings.{Meanings, finding}
use Rattle.vocabulary.specs.Orders.{of_products}
use Rattle.answers.specs.Answers.{conduct, answer_from, answer, listed}
use Rattle.answers.specs.Lines.{verdicts_of, line_of as answer_line}
use Rattle.bodies.specs.Bodies.{standing_of}
use Rattle.ledger.specs.Slots.{Slots}
use Rattle.ledger.specs.Views.{joined_below}
use Rattle.ledger.specs.Readings.{lines, own}
use Rattle.ledger.specs.Listing.{line_of, line_if, listing_line, EqualListings, NeighboursLines}
use Rattle.ledger.proofs.Agreeing.{equal_meanings}
use Rattle.ledger.proofs.Neighbouring.{neighbours}

-- the same standing, conducts and findings give the same line
same_line : (b c : Bool) (f g : Parameter → Verdict) (x y : Product → Finding) (r : ℕ) → b ≡ c → ((p : Parameter) → f p ≡ g p) → ((p : Product) → x p ≡ y p)
    → cond b (line_of f x r) [] ≡ cond c (line_of g y r) []
same_line b c f g x y r s v w = λ i. cond (s i) (line_of (fun_ext v i) (fun_ext w i) r) []

pub neighbours_lines : NeighboursLines
unfolding listing_line
neighbours_lines m acts a r q for other before after =
    let still = neighbours m acts a r q for other before after in
    same_line _ _ _ _ _ _ q (ap (λ o. is_some (option_map standing_of o)) (still.slots 2 0 (omega arith))) still.conducts still.findings

pub equal_listings : EqualListings
unfolding listing_line
equal_listings m n agree s =
    let alike = equal_meanings m n agree s in
    ap (joined_below 32) (fun_ext (λ r. same_line _ _ _ _ _ _ r refl (alike.conducts r) (λ p. alike.findings r p)))

-- the line of what an answer says
line_said : (b : Bool) (f : Parameter → Verdict) (x : Product → Finding) (r : ℕ) → cond b (line_of f x r) [] ≡ line_if r (cond b (Some (answer_from f x)) None)
unfolding answer_line
line_said true f x r = append_assoc (verdicts_of r (answer_from f x)) (32 ∷ decimal (sum (of_products (λ p. (x p).charge)))) (10 ∷ [])
line_said false f x r = refl

pub listing_line_said : (m : Meanings) (s : Slots) (r : ℕ) → listing_line m s r ≡ line_if r (listed m (lines s) (own s) r)
unfolding listing_line answer
listing_line_said m s r = line_said (is_some (own s r).standing) (conduct m (lines s) (own s r)) (λ p. finding m (lines s) (own s) p r) r
