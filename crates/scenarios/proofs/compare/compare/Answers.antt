use Rattle.scenarios.proofs.Loading.{fits}
use Rattle.scenarios.proofs.compare.compare.Goals as goal

pub first_difference-requires : goal.first_difference-requires
first_difference-requires g c = record {
  well = fits c.args.expected.now _ c.open-book.ensures.ledger _ _ c.load.ensures.ledger;
  ranged = c.load.ensures.ranged c.open-book.ensures.ranged;
}
