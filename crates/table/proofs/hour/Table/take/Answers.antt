use Rattle.std.proofs.Common.{arith}
use Rattle.std.proofs.lemmas.Grind.{common_steps}
use Rattle.entries.specs.Entries.{raw_of}
use Rattle.table.specs.Tables.{slots_of}
use Rattle.table.proofs.Tables.{entry_written}
use Rattle.table.proofs.Keeping.{record_stays}
use Rattle.table.proofs.hour.Table.take.Goals as goal

pub returns-in-Standing : goal.returns-in-Standing
unfolding slots_of
returns-in-Standing c =
    let t = c.args.self.now in
    record {
      slots = entry_written t.lines t.resources (raw_of c.args.entry) c.take.ensures.changed (grind (arith, common_steps)) (grind (arith, common_steps)) (grind (arith, common_steps)) c.requires.slot;
      ranged = λ fit. record_stays t.lines t.resources _ _ fit c.take.ensures.kept;
    }
