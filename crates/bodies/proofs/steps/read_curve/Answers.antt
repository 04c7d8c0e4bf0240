use Rattle.std.proofs.Common.{◌≡◌, refl, sym, ap, ◌∙◌, arith}
use Rattle.std.proofs.lemmas.Bool.{cond-false}
use Rattle.curves.specs.Steps.{in_order}
use Rattle.bodies.specs.Bodies.{most_steps}
use Rattle.bodies.specs.Curves.{curve_bytes, all_in_range}
use Rattle.bodies.proofs.Stepping.{range_not, length_curve_steps, counted_fault, curve_chunked, row_more, row_whole, row_order, row_ordered, most_few, curve_again}
use Rattle.bodies.proofs.steps.read_curve.Goals as goal

pub loop-i-init : goal.loop-i-init
loop-i-init c = record { read = refl; fit = refl; room = refl }

pub returns-then-not-in_range : goal.returns-then-not-in_range
returns-then-not-in_range c =
    let body = c.args.body.now in
    let n = c.in_ok-count.ensures in
    let unfit = range_not c.as_chunks.result.0.now c.loop-i.i c.read_step-step.result c.loop-i-test.true c.read_step-step.ensures c.if-not-in_range.ensures in
    counted_fault (most_steps c.args.parameter) body (omega arith) (omega arith) (omega arith) 6
    (sym (cond-false _ _ _ (ap all_in_range (curve_chunked body _ c.as_chunks.ensures.front) ∙ unfit)))

pub loop-i-preserved : goal.loop-i-preserved
loop-i-preserved c =
    let n = c.in_ok-count.ensures in
    let few = most_few c.args.parameter in
    row_more c.loop-i.invariant c.read_step-step.result c.loop-i-test.true (omega (arith, c.as_chunks.ensures.front_len)) c.read_step-step.ensures c.if-not-in_range.ensures

pub returns-then-not-in_order : goal.returns-then-not-in_order
returns-then-not-in_order c =
    let body = c.args.body.now in
    let n = c.in_ok-count.ensures in
    let cut = c.as_chunks.ensures.front_len in
    counted_fault (most_steps c.args.parameter) body (omega arith) (omega arith) (omega arith) 7
    (row_order c.loop-i.invariant body c.in_ok-count.count c.as_chunks.ensures.front c.loop-i-test.false (omega arith) _ c.if-not-in_order.ensures)

pub returns : goal.returns
returns c =
    let body = c.args.body.now in
    let n = c.in_ok-count.ensures in
    let cut = c.as_chunks.ensures.front_len in
    let long = length_curve_steps body in
    let same : c.in_ok-count.count ≡ c.loop-i.i = omega arith in
    let ordered = c.if-not-in_order.ensures in
    let whole = row_whole c.loop-i.invariant body c.in_ok-count.count c.as_chunks.ensures.front c.loop-i-test.false same in (
      sym (counted_fault (most_steps c.args.parameter) body (omega arith) (omega arith) (omega arith) 0
          (row_order c.loop-i.invariant body c.in_ok-count.count c.as_chunks.ensures.front c.loop-i-test.false same _ ordered)),
      record {
        count = omega arith;
        steps = whole;
        ordered = ap in_order whole ∙ sym (row_ordered c.loop-i.invariant body c.in_ok-count.count c.as_chunks.ensures.front c.loop-i-test.false same _ ordered);
        again = ap curve_bytes whole ∙ curve_again body (omega arith) (λ i. omega (arith, c.type_inv.body i));
      },
    )
