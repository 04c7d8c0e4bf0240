use Rattle.std.proofs.Common.{◌≡◌, drop}
use Rattle.entries.specs.Table.{kinds}
use Rattle.ledger.specs.Ledger.{run, ledger}
use Rattle.table.specs.Ranges.{AllRanged}
use Rattle.book.specs.Ledgers.{ledger_of}
use Rattle.histories.specs.Acts.{acts_of}
use Rattle.histories.proofs.replay.replay.Given as goal

-- what is left to do leads to the ledger of the whole list
abbrev pub invariant-loop-call : goal.invariant-loop-call
invariant-loop-call g l = record {
  left : run kinds (ledger_of l.book.table l.book.is_open) (acts_of (drop l.call-index l.calls)) ≡ ledger kinds (acts_of l.calls);
  bounds : l.book.rules ≡ l.initial.book.rules;
  ranged : AllRanged l.book.table;
}
