use Rattle.ledger.proofs.Agreeing.{equal_meanings}
use Rattle.ledger.proofs.meanings_stand.Goals as goal

pub returns : goal.returns
returns c = equal_meanings
