use Rattle.std.proofs.Common.{Ok, refl, sym, ap, ◌∙◌, subst}
use Rattle.std.proofs.lemmas.Result.{err_from_is_err_and}
use Rattle.entries.specs.Files.{Ahead}
use Rattle.entries.specs.Table.{kinds}
use Rattle.entries.specs.declared.cursor.Cursor.{Cursor}
use Rattle.entries.proofs.Reading.{placed_ok, placed_err, entry_here, fault_here}
use Rattle.entries.proofs.Walking.{left_none, left_more}
use Rattle.entries.proofs.reader.next_entry.Goals as goal

pub returns-in_default : goal.returns-in_default
returns-in_default c =
    let end = subst (λ o. Ahead kinds c.args.file.now c.args.cursor.now (Ok o)) c.in_default.is c.in_ok-head.ensures in
    (end, refl, left_none c.args.file.now c.args.cursor.now end)

pub returns-in_err-entry : goal.returns-in_err-entry
returns-in_err-entry c =
    let file = c.args.file.now in
    let was = c.args.cursor.now in
    let p = err_from_is_err_and c.from_residual-in_err-entry.result c.from_residual-in_err-entry.ensures.1 in
    let a = subst (λ o. Ahead kinds file was (Ok o)) c.in-Some.is c.in_ok-head.ensures in
    let refused = placed_err _ was.at _ c.checked.result c.in_err-entry.field-0.0 c.checked.ensures c.in_err-entry.ensures in
    let fault = fault_here kinds file was.at c.in-Some.past c.in-Some.head a.1 a.2 a.3 _ refl in
    rw (p.1, p.2) (
      a.0,
      refused ∙ (λ i. record { number = fault i; place = was.at }),
      c.drop-guard.ensures ∙ (λ i. record { at = was.at; limit = sym c.requires.limit i; end = was.end }),
    )

pub returns : goal.returns
returns c =
    let file = c.args.file.now in
    let was = c.args.cursor.now in
    let a = subst (λ o. Ahead kinds file was (Ok o)) c.in-Some.is c.in_ok-head.ensures in
    let read = placed_ok _ was.at _ c.checked.result c.in_ok-entry.entry c.checked.ensures c.in_ok-entry.ensures in
    let entry = read.1 ∙ entry_here kinds file was.at c.in-Some.past c.in-Some.head a.1 a.2 a.3 in
    let moved = c.drop-guard-2.ensures ∙ (λ i. record { at = a.2 i; limit = was.end; end = was.end }) in (
      a.0,
      sym (fault_here kinds file was.at c.in-Some.past c.in-Some.head a.1 a.2 a.3 0 (sym read.0)),
      entry,
      moved,
      left_more file was a.0 _ entry _ (ap (λ (x : Cursor). x.at) moved),
    )
