use Rattle.std.proofs.Common.{ap}
use Rattle.entries.specs.Table.{kinds}
use Rattle.ledger.specs.Mitigation.{mitigated, mitigated_held}
use Rattle.ledger.specs.Slots.{entry_file}
use Rattle.ledger.proofs.Holdings.{same_slots}
use Rattle.table.specs.Tables.{slots_of}
use Rattle.files.specs.Placing.{file_of}
use Rattle.offers.specs.Rows.{mitigated_rows}
use Rattle.offers.proofs.Offering.{rows_said}
use Rattle.book.proofs.Drawing.{redrawn}
use Rattle.book.proofs.book.Book.write_mitigated.Goals as goal

pub returns-clause-written : goal.returns-clause-written
unfolding file_of mitigated
returns-clause-written g c =
    let m = g.R.Rules.meanings c.args.self.now.rules in
    let t = c.args.self.now.table in
    λ fit. redrawn (ap (entry_file kinds) (same_slots (mitigated_rows m t) (mitigated_held m (slots_of t)) (rows_said m t fit))) c.write_file.ensures
