use Rattle.std.proofs.Common.{◌∙◌}
use Rattle.scripts.proofs.Taking.{count}
use Rattle.scripts.proofs.script.Script.len.Goals as goal

pub returns : goal.returns
returns c = c.len.ensures ∙ count c.args.self.now
