use Rattle.std.proofs.Common.{◌≡◌, string_bytes}
use Rattle.table.specs.Ranges.{AllRanged}
use Rattle.book.specs.Ledgers.{ledger_of}
use Rattle.transcripts.proofs.Answering.{Answered}
use Rattle.transcripts.proofs.transcript.transcript_over.Given as goal

abbrev pub invariant-loop-i : goal.invariant-loop-i
invariant-loop-i g l =
    record {
      bounds : l.book.rules ≡ l.initial.book.rules;
      ranged : AllRanged l.book.table;
      answered : Answered (g.R.Rules.meanings l.initial.book.rules) l.script l.i-iterator.iter.rest.now
          (ledger_of l.book.table l.book.is_open) (string_bytes l.text) l.i-iterator.count;
    }
