use Rattle.std.proofs.Common.{◌+◌, vec_items}
use Rattle.scripts.proofs.Gathering.{Gathered}
use Rattle.scripts.proofs.reader.read_script.Given as goal

abbrev pub invariant-loop-i : goal.invariant-loop-i
invariant-loop-i l = Gathered l.above l.text l.i-iterator.iter.rest.now (vec_items l.bytes) (vec_items l.calls) (l.above + l.i-iterator.count)
