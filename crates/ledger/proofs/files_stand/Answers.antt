use Rattle.ledger.proofs.Bounding.{bounded}
use Rattle.ledger.proofs.Drawing.{by_sections}
use Rattle.ledger.proofs.files_stand.Goals as goal

pub returns : goal.returns
returns c = record { bounded = bounded; sections = by_sections }
