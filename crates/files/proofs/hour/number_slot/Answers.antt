use Rattle.std.proofs.Common.{rules}
use Rattle.files.proofs.hour.number_slot.Goals as goal

pub returns-clause-bytes : goal.returns-clause-bytes
returns-clause-bytes c = search rules
