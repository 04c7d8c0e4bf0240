use Rattle.std.proofs.Common.{◌≡◌, ◌++◌, take, map, vec_items}
use Rattle.scripts.proofs.Pairs.{pair_value}
use Rattle.scripts.proofs.hex.decode.Given as goal

abbrev pub invariant-loop-high : goal.invariant-loop-high
invariant-loop-high l = vec_items l.out ≡ vec_items l.initial.out ++ map pair_value (take l.high-index l.pairs)
