use Rattle.std.proofs.Common.{sym, ap, ◌∙◌, subst}
use Rattle.entries.specs.Table.{kinds}
use Rattle.ledger.specs.Slots.{entry_file, WellFormed}
use Rattle.ledger.proofs.Laws.{reached}
use Rattle.histories.specs.Acts.{acts_of}
use Rattle.histories.specs.Histories.{slots_after}
use Rattle.histories.proofs.Comparing.{slots_are, well, reloaded, taken}
use Rattle.histories.proofs.again.write_again.Goals as goal

pub entry_file-before-requires : goal.entry_file-before-requires
entry_file-before-requires g c = well _ _ (acts_of c.args.calls.now) c.replay-one.ensures.ledger

pub entry_file-after-requires : goal.entry_file-after-requires
entry_file-after-requires g c =
    let calls = acts_of c.args.calls.now in
    let before = c.part.ensures ∙ c.entry_file-before.ensures.same ∙ ap (entry_file kinds) (slots_are _ _ calls c.replay-one.ensures.ledger) in
    subst (WellFormed kinds) (sym (reloaded (slots_after calls) (reached calls) _ _ before c.open-other.ensures.ledger _ c.load.ensures.ledger)) (reached calls)

pub returns : goal.returns
returns g c =
    let calls = acts_of c.args.calls.now in
    let is = c.entry_file-before.ensures.same ∙ ap (entry_file kinds) (slots_are _ _ calls c.replay-one.ensures.ledger) in
    let before = c.part.ensures ∙ is in
    record {
      entry_file_of_calls = is;
      is_taken = c.is_ok-taken.ensures.value ∙ taken (slots_after calls) (reached calls) _ _ before c.open-other.ensures.ledger _ c.load.ensures.answer;
      same_bytes = c.entry_file-after.ensures.same ∙ ap (entry_file kinds) (reloaded (slots_after calls) (reached calls) _ _ before c.open-other.ensures.ledger _ c.load.ensures.ledger) ∙ sym is;
    }
