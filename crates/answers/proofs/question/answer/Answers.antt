use Rattle.std.proofs.Common.{refl}
use Rattle.charges.specs.Findings.{finding}
use Rattle.answers.specs.Answers.{answer}
use Rattle.answers.proofs.question.answer.Goals as goal

pub returns-clause-value : goal.returns-clause-value
unfolding answer finding
returns-clause-value g c = rw (c.assembled.ensures, c.finding.ensures.value, c.finding-2.ensures.value, c.finding-3.ensures.value, c.finding-4.ensures.value, c.amount_conducts.ensures) refl
