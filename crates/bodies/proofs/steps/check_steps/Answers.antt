use Rattle.std.proofs.Common.{sym}
use Rattle.std.proofs.lemmas.Bool.{cond-false}
use Rattle.bodies.proofs.Streaming.{looked_first, looked_more, looked_unfit, unfit_first}
use Rattle.bodies.proofs.steps.check_steps.Goals as goal

pub returns-then-not-in_range : goal.returns-then-not-in_range
returns-then-not-in_range c =
    sym (cond-false _ _ _ (unfit_first c.args.body.now _ c.as_chunks.ensures.front c.read_step-last.result c.in-len1-up.len_at_least c.read_step-last.ensures c.if-not-in_range.ensures))

pub loop-bytes-init : goal.loop-bytes-init
loop-bytes-init c = looked_first c.args.body.now _ c.as_chunks.ensures.front c.read_step-last.result c.in-len1-up.len_at_least c.read_step-last.ensures c.if-not-in_range.ensures

pub returns-then-not-in_range-2 : goal.returns-then-not-in_range-2
returns-then-not-in_range-2 c =
    sym (cond-false _ _ _ (looked_unfit c.loop-bytes.invariant c.read_step-next.result c.loop-bytes-test.true c.read_step-next.ensures c.if-not-in_range-2.ensures))

pub loop-bytes-preserved : goal.loop-bytes-preserved
loop-bytes-preserved c =
    looked_more c.loop-bytes.invariant c.read_step-next.result _ c.loop-bytes-test.true c.read_step-next.ensures c.if-not-in_range-2.ensures c.still_rises-ordered.ensures
