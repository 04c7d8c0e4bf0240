use Rattle.std.proofs.Common.{◌≡◌}
use Rattle.charges.specs.Groups.{total, share_offered, share_reference}
use Rattle.charges.proofs.group.added_up.Given as goal

abbrev pub invariant-loop-share : goal.invariant-loop-share
invariant-loop-share l =
    (l.offered ≡ total (share_offered l.shares l.group) l.share-index) × (l.reference ≡ total (share_reference l.shares l.group) l.share-index)
