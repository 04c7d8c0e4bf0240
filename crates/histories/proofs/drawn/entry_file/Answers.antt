use Rattle.std.proofs.Common.{arith}
use Rattle.ledger.proofs.Bounding.{bounded}
use Rattle.table.specs.Tables.{slots_of}
use Rattle.histories.proofs.Filled.{filled}
use Rattle.histories.proofs.drawn.entry_file.Goals as goal

pub returns : goal.returns
returns g c =
    let most = bounded (slots_of c.args.book.now.table) c.requires in
    filled _ _ _ _ _ c.write_entries.ensures (omega arith) most c.unwrap_or-length.ensures
