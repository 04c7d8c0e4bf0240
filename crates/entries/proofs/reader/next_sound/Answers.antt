use Rattle.std.proofs.Common.{Ok, refl, ap, ◌∙◌, subst}
use Rattle.std.proofs.lemmas.Result.{err_from_is_err_and}
use Rattle.entries.specs.Files.{Told, Ahead}
use Rattle.entries.specs.Table.{kinds}
use Rattle.entries.proofs.Reading.{placed_ok, placed_err, entry_here, fault_here, fault_positive, first_stands}
use Rattle.entries.proofs.Walking.{moved_on, left_none, left_more}
use Rattle.entries.proofs.reader.next_sound.Goals as goal

pub returns-in_default : goal.returns-in_default
returns-in_default c =
    let end = subst (λ o. Ahead kinds c.args.file.now c.args.cursor.now (Ok o)) c.in_default.is c.in_ok-head.ensures in
    (end, refl, left_none c.args.file.now c.args.cursor.now end)

pub returns-in_err-entry : goal.returns-in_err-entry
returns-in_err-entry c =
    let file = c.args.file.now in
    let was = c.args.cursor.now in
    let p = err_from_is_err_and c.from_residual-in_err-entry.result c.from_residual-in_err-entry.ensures.1 in
    let a = subst (λ o. Ahead kinds file was (Ok o)) c.in-Some.is c.in_ok-head.ensures in
    let refused = placed_err _ was.at _ c.with_head.result c.in_err-entry.field-0.0 c.with_head.ensures c.in_err-entry.ensures in
    let fault = fault_here kinds file was.at c.in-Some.past c.in-Some.head a.1 a.2 a.3 _ (first_stands _ _ _ (ap (λ (t : Told). t.number) refused) (fault_positive _)) in
    rw (p.1, p.2) (a.0, (λ i. record { number = fault i; place = (refused i).place }), refl)

pub returns : goal.returns
returns c =
    let file = c.args.file.now in
    let was = c.args.cursor.now in
    let a = subst (λ o. Ahead kinds file was (Ok o)) c.in-Some.is c.in_ok-head.ensures in
    let read = placed_ok _ was.at _ c.with_head.result c.in_ok-entry.entry c.with_head.ensures c.in_ok-entry.ensures in
    let entry = read.1 ∙ entry_here kinds file was.at c.in-Some.past c.in-Some.head a.1 a.2 a.3 in
    let moved = moved_on was c.in-Some.past _ a.2 c.requires.between.limit in (
      a.0,
      c.requires.sound a.0,
      entry,
      moved,
      left_more file was a.0 _ entry _ a.2,
    )
