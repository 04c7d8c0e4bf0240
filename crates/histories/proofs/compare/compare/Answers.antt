use Rattle.std.proofs.Common.{sym, ap, ◌∙◌, subst}
use Rattle.entries.specs.Table.{kinds}
use Rattle.ledger.specs.Mitigation.{mitigated}
use Rattle.ledger.specs.Slots.{WellFormed}
use Rattle.histories.specs.Acts.{acts_of}
use Rattle.histories.specs.Histories.{slots_after}
use Rattle.histories.proofs.Comparing.{well, files_are, reloaded, taken, mitigated_fits, stays, compared, whole}
use Rattle.histories.proofs.compare.compare.Goals as goal

pub of-of_first-requires-clause-well : goal.of-of_first-requires-clause-well
of-of_first-requires-clause-well g c = well _ _ (acts_of c.args.first.now) c.replay-one.ensures.ledger

pub of-of_second-requires-clause-well : goal.of-of_second-requires-clause-well
of-of_second-requires-clause-well g c = well _ _ (acts_of c.args.second.now) c.replay-two.ensures.ledger

pub file-requires-clause-well : goal.file-requires-clause-well
file-requires-clause-well g c =
    let meant = g.R.Rules.meanings in
    let m = meant c.args.first_rules in
    let keeps = g.met.R.Rules.lawful c.args.first_rules in
    let first = acts_of c.args.first.now in
    let left = files_are _ _ first c.replay-one.ensures.ledger m _ (ap meant c.replay-one.ensures.bounds) _ c.of-of_first.ensures in
    let fits = mitigated_fits m keeps first in
    subst (WellFormed kinds) (sym (reloaded (mitigated m (slots_after first)) fits _ _ (c.part.ensures ∙ left.mitigated_file_drawn.same) c.open-new.ensures.ledger _ c.load.ensures.ledger)) fits

pub returns : goal.returns
returns g c =
    let meant = g.R.Rules.meanings in
    let meant-second = g.S.Rules.meanings in
    let m = meant c.args.first_rules in
    let n = meant-second c.args.second_rules in
    let keeps = g.met.R.Rules.lawful c.args.first_rules in
    let keeps-second = g.met.S.Rules.lawful c.args.second_rules in
    let first = acts_of c.args.first.now in
    let second = acts_of c.args.second.now in
    let left = files_are _ _ first c.replay-one.ensures.ledger m _ (ap meant c.replay-one.ensures.bounds) _ c.of-of_first.ensures in
    let right = files_are _ _ second c.replay-two.ensures.ledger n _ (ap meant-second c.replay-two.ensures.bounds) _ c.of-of_second.ensures in
    let fits = mitigated_fits m keeps first in
    let s = mitigated m (slots_after first) in
    let are = c.part.ensures ∙ left.mitigated_file_drawn.same in
    let held = reloaded s fits _ _ are c.open-new.ensures.ledger _ c.load.ensures.ledger in
    record {
      compared = compared m n first second _ left right c.same_bytes-alike.ensures;
      whole = whole m n first second _ left right keeps keeps-second
          (c.is_ok-taken.ensures.value ∙ taken s fits _ _ are c.open-new.ensures.ledger _ c.load.ensures.answer)
          (c.file.ensures.same ∙ stays m keeps first _ (ap meant (c.load.ensures.bounds ∙ c.open-new.ensures.bounds ∙ c.replay-one.ensures.bounds)) _ held);
    }
