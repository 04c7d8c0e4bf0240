use Rattle.std.proofs.Common.{sym, arith}
use Rattle.charges.specs.Groups.{share_offered, share_reference}
use Rattle.charges.proofs.Totals.{total_none, total_more}
use Rattle.charges.proofs.Shares.{offered_small, reference_small, sums_small}
use Rattle.charges.proofs.group.added_up.Goals as goal

pub loop-share-init : goal.loop-share-init
loop-share-init c = (sym (total_none _), sym (total_none _))

pub overflow_add-offered : goal.overflow_add-offered
overflow_add-offered c =
    let fits = offered_small c.args.shares.now c.requires c.args.group in
    let sum = sums_small _ c.loop-share.share-index _ (omega arith) fits c.loop-share.invariant.0 in
    omega (arith, fits c.loop-share.share-index c.loop-share-test.true, c.brought-offered.ensures)

pub overflow_add-reference : goal.overflow_add-reference
overflow_add-reference c =
    let fits = reference_small c.args.shares.now c.requires c.args.group in
    let sum = sums_small _ c.loop-share.share-index _ (omega arith) fits c.loop-share.invariant.1 in
    omega (arith, fits c.loop-share.share-index c.loop-share-test.true, c.brought-reference.ensures)

pub loop-share-preserved : goal.loop-share-preserved
loop-share-preserved c = (
  total_more (share_offered c.args.shares.now c.args.group) c.loop-share.share-index _ _ c.loop-share.invariant.0 c.brought-offered.ensures,
  total_more (share_reference c.args.shares.now c.args.group) c.loop-share.share-index _ _ c.loop-share.invariant.1 c.brought-reference.ensures,
)

pub returns-clause-small : goal.returns-clause-small
returns-clause-small c =
    let xs = c.args.shares.now in
    let g = c.args.group in
    (sums_small _ _ _ (omega arith) (offered_small xs c.requires g) c.loop-share.invariant.0, sums_small _ _ _ (omega arith) (reference_small xs c.requires g) c.loop-share.invariant.1)
