use Rattle.std.proofs.Common.{Ok, subst}
use Rattle.std.proofs.lemmas.Result.{err_from_is_err_and}
use Rattle.entries.specs.Files.{Next}
use Rattle.entries.specs.Table.{kinds}
use Rattle.entries.proofs.Reading.{fault_positive}
use Rattle.entries.proofs.Walking.{walk_starts, walk_on, walk_fails, walk_ends}
use Rattle.entries.proofs.reader.check_file.Goals as goal

pub loop-entry-init : goal.loop-entry-init
loop-entry-init c = walk_starts kinds c.args.file.now _ c.at_first-cursor.ensures.value c.in_ok-check_mark.ensures

pub returns-in_err-_entry : goal.returns-in_err-_entry
returns-in_err-_entry c =
    let p = err_from_is_err_and c.from_residual-in_err-_entry.result c.from_residual-in_err-_entry.ensures.1 in
    let h = c.in_err-_entry.ensures in
    rw (p.1, p.2) (walk_fails kinds c.loop-entry.invariant _ h.0 h.1 (fault_positive _))

pub loop-entry-preserved : goal.loop-entry-preserved
loop-entry-preserved c =
    let h = subst (λ o. Next kinds c.args.file.now c.loop-entry.cursor c.next_entry.new.cursor (Ok o)) c.in-Some.is c.in_ok-_entry.ensures in
    walk_on kinds c.loop-entry.invariant c.next_entry.new.cursor h.0 h.1 h.3

pub returns : goal.returns
returns c =
    let h = subst (λ o. Next kinds c.args.file.now c.loop-entry.cursor c.next_entry.new.cursor (Ok o)) c.in_default.is c.in_ok-_entry.ensures in
    walk_ends kinds c.loop-entry.invariant h.0
