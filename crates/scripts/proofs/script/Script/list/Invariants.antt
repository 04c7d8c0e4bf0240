use Rattle.std.proofs.Common.{◌≡◌, map, take, vec_items}
use Rattle.scripts.specs.Scripts.{said_by, calls_in}
use Rattle.scripts.proofs.script.Script.list.Given as goal

abbrev pub invariant-loop-call : goal.invariant-loop-call
invariant-loop-call l = map said_by (vec_items l.list) ≡ take l.call-index (calls_in l.self)
