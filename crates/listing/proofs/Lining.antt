-- The parts of a line.
use Rattle.std.proofs.Common.{◌≡◌, ℕ, ◌+◌, ◌-◌, List, ◌++◌, length, take, drop, arith, length-append}
use lib.ListN.{length-map}
use borrow.Rule.Slice.PartMut.{put_mid}
use Rattle.vocabulary.specs.declared.verdict.Verdict.{Verdict}
use Rattle.vocabulary.specs.Numbers.{letter}
use Rattle.answers.specs.declared.answer.Answer.{Answer}
use Rattle.answers.specs.Lines.{letters, verdicts_of, line_of}
use Rattle.writers.specs.Buffers.{onto}
use Rattle.listing.specs.Lengths.{verdicts_length, owed_length}
use Rattle.listing.proofs.Fronts.{Front, more}

-- the next part is a group of letters
pub group : {a old out : List ℕ} {at : ℕ} → Front a old out at → (vs : List Verdict) (part : List ℕ) (m : ℕ) → m ≡ length vs + 1 → part ≡ onto (letters vs) (take (length out - at) (drop at out)) → Front (a ++ letters vs) old (put_mid at (length out - at) out part) (at + m)
group so vs part m e w = let l = length-map vs letter in more so (letters vs) part m (omega arith) w

pub length_verdicts : (resource : ℕ) (a : Answer) → length (verdicts_of resource a) ≡ verdicts_length a
length_verdicts resource a = simp (length-append, length-map) (omega arith)

pub length_line : (resource : ℕ) (a : Answer) → length (line_of resource a) ≡ verdicts_length a + owed_length a.charges
unfolding line_of
length_line resource a = simp (length-append, length-map) (omega arith)
