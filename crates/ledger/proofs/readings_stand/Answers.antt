use Rattle.ledger.proofs.Readings.{read}
use Rattle.ledger.proofs.readings_stand.Goals as goal

pub returns : goal.returns
returns c = read
