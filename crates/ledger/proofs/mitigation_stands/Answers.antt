use Rattle.ledger.proofs.Mitigating.{mitigates}
use Rattle.ledger.proofs.mitigation_stands.Goals as goal

pub returns : goal.returns
returns c = mitigates
