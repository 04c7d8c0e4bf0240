use Rattle.std.proofs.Common.{refl, ap, ◌∙◌}
use Rattle.transcripts.proofs.Answering.{begins, goes_on}
use Rattle.transcripts.proofs.transcript.transcript_over.Goals as goal

pub loop-i-init : goal.loop-i-init
loop-i-init g c =
    let same = c.into_iter-i-iterator.ensures.into_iter_gives in
    let lines = ap (λ e. e.iter) same ∙ c.enumerate-i-items.ensures.source in
    let none = ap (λ e. e.count) same ∙ c.enumerate-i-items.ensures.count in
    record {
      bounds = refl;
      ranged = c.open-book.ensures.ranged;
      answered = begins _ _ _ _ _ _ c.open-book.ensures.ledger c.new-text.ensures.bytes (ap (λ l. l.rest.now) lines ∙ c.lines_in.ensures) none;
    }

pub loop-i-preserved : goal.loop-i-preserved
loop-i-preserved g c =
    let meant = g.R.Rules.meanings in
    let same = c.loop-i.invariant.bounds in
    let step = c.in-Some.ensures.steps in
    let done = c.in_ok-answer.ensures in
    record {
      bounds = c.obey_line.ensures.bounds ∙ same;
      ranged = c.obey_line.ensures.ranged;
      answered = goes_on c.loop-i.invariant.answered (meant c.loop-i.book.rules) (ap meant same) c.in-Some.line.now c.next.new.self.iter.rest.now _ _ _ _ step.0
          c.in-Some.i step.1 done.text done.ledger c.as_str.ensures.value c.in_ok-push_str.ensures.bytes _ step.2;
    }
