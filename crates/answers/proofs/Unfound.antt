-- Nothing is found of a resource without a standing.
use Rattle.std.proofs.Common.{◌≡◌, ℕ, None}
use Rattle.vocabulary.specs.Readings.{Lines, Own}
use Rattle.charges.specs.Groups.{total, group, offered_in, reference_in, group_verdict}
use Rattle.charges.specs.Tables.{Owns}
use Rattle.charges.specs.Findings.{Meanings, verdicts_of, found, finding}
use Rattle.answers.specs.Answers.{conduct, answer_from, answer, nothing_found}

pub unfound : (m : Meanings) (lines : Lines) (owns : Owns) (r : ℕ) → (owns r).standing ≡ None → answer m lines owns r ≡ nothing_found
unfolding answer finding
unfound m lines owns r none = λ j.
    let o : Own = record { standing = none j; offer = (owns r).offer; reference = (owns r).reference; quantity = (owns r).quantity; price = (owns r).price } in
    answer_from (conduct m lines o) (λ p. found m lines o p (verdicts_of m lines o p
    (group_verdict m.quantities lines (λ g. total (reference_in m.quantities lines owns p g) 32) (λ g. total (offered_in m.quantities lines owns p g) 32) (group m.quantities lines o p))))
