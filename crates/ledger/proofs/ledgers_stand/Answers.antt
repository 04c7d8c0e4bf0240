use Rattle.ledger.proofs.Laws.{reached, reloads, injective}
use Rattle.ledger.proofs.ledgers_stand.Goals as goal

pub returns : goal.returns
returns c = record { reached = reached; reloads = reloads; injective = injective }
