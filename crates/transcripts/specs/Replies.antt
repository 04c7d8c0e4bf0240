-- What a line is answered by.
use Rattle.std.specs.Prelude.{ℕ, cond, List, [], ◌∷◌, ◌++◌, map, length, codes, decimal, ◌==◌, nat_lt, slice_index}
use Rattle.vocabulary.specs.Numbers.{letter}
use Rattle.vocabulary.specs.declared.verdict.Verdict.{Verdict}
use Rattle.charges.specs.Findings.{Meanings}
use Rattle.answers.specs.Answers.{answer}
use Rattle.answers.specs.declared.answer.Answer.{Answer}
use Rattle.entries.specs.Files.{Told}
use Rattle.ledger.specs.Ledger.{without_place}
use Rattle.ledger.specs.Readings.{lines, own}
use Rattle.ledger.specs.Slots.{Slots}
use Rattle.scripts.specs.Digits.{hex_of}
use Rattle.answering.specs.Texts.{refused}

-- `OK`, or the fault's number and its place
abbrev pub told_text : Told → List ℕ
told_text t = cond (t.number == 0) (codes "OK" ++ (10 ∷ [])) (refused t)

-- lower-case hex, `-` for no bytes
abbrev pub hex_line : List ℕ → List ℕ
hex_line bytes = cond (length bytes == 0) (codes "-") (hex_of bytes) ++ (10 ∷ [])

abbrev pub spelled : List Verdict → List ℕ
spelled verdicts = map letter verdicts

-- five groups of letters, a blank between
abbrev pub verdicts_text : Answer → List ℕ
verdicts_text a =
    spelled a.conduct
    ++ (32 ∷ (spelled a.impact
    ++ (32 ∷ (spelled a.resource
    ++ (32 ∷ (spelled a.entity
    ++ (32 ∷ spelled a.quantity_impact)))))))

-- four numbers, a blank between
abbrev pub charges_text : List ℕ → List ℕ
charges_text charges =
    decimal (slice_index charges 0)
    ++ (32 ∷ (decimal (slice_index charges 1)
    ++ (32 ∷ (decimal (slice_index charges 2)
    ++ (32 ∷ decimal (slice_index charges 3))))))

abbrev pub answer_text : Answer → List ℕ
answer_text a = verdicts_text a ++ (32 ∷ (charges_text a.charges ++ (10 ∷ [])))

-- the verdicts and charges of a resource; fault 4 for one that is not there
abbrev pub found_text : Meanings → Slots → ℕ → List ℕ
found_text m s resource = cond (nat_lt resource 32) (answer_text (answer m (lines s) (own s) resource)) (refused (without_place 4))

abbrev pub no_call : ℕ → List ℕ
no_call number = codes "LINE " ++ (decimal number ++ (codes " IS NO CALL" ++ (10 ∷ [])))
