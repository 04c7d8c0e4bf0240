use Rattle.ledger.proofs.Laws.{places}
use Rattle.ledger.proofs.places_stand.Goals as goal

pub returns : goal.returns
returns c = places
