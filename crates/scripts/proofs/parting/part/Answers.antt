use Rattle.std.proofs.Common.{◌<◌, length, sym, arith}
use Rattle.scripts.proofs.Wholes.{parts_later}
use Rattle.scripts.proofs.parting.part.Goals as goal

pub loop-line-preserved : goal.loop-line-preserved
loop-line-preserved c =
    let said = c.in-Some.ensures in
    let shorter = c.in-Some.ensures.shorter in
    let some : 0 < length c.loop-line.rest.now = omega arith in
    parts_later c.loop-line.invariant c.in-Some.line.now c.in-Some.more.now said.lines some (sym c.if-is.ensures) said.parts.0 said.parts.1 said.shorter
