use Rattle.std.proofs.Common.{length, sym, ap, arith}
use Rattle.files.proofs.Running.{joined_none, length_more}
use Rattle.listing.specs.Wholes.{line_at}
use Rattle.listing.proofs.whole.listing_length.Goals as goal

pub loop-answer-init : goal.loop-answer-init
loop-answer-init c = (ap length (sym (joined_none (line_at c.args.answers.now))), omega arith)

pub loop-answer-preserved : goal.loop-answer-preserved
loop-answer-preserved c =
    let more = length_more (line_at c.args.answers.now) c.loop-answer.answer-index in
    let one = c.length_if-sum.ensures.len c.loop-answer.answer-index in
    (omega arith, omega arith)
