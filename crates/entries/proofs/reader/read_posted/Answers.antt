use Rattle.std.proofs.Common.{sym, ap, ◌∙◌, arith}
use Rattle.std.proofs.lemmas.Result.{err_from_is_err_and}
use Rattle.entries.specs.Entries.{Raw}
use Rattle.entries.specs.Files.{entry_bytes, head_fault}
use Rattle.entries.specs.Table.{kinds}
use Rattle.entries.proofs.Reading.{post_body, entry_alone, entry_again}
use Rattle.entries.proofs.reader.read_posted.Goals as goal

pub returns-in_err-check_body : goal.returns-in_err-check_body
returns-in_err-check_body c =
    let bytes = c.args.bytes.now in
    let p = err_from_is_err_and c.from_residual-in_err-check_body.result c.from_residual-in_err-check_body.ensures.1 in
    let said = c.in_ok-head.ensures in
    let read = c.in_ok-entry.ensures in
    let whole = read.1 ∙ entry_alone kinds bytes _ said.1.1 said.1.2 _ said.1.0 in
    let named = ap (λ (r : Raw). head_fault kinds r.head) read.1 ∙ read.0 in
    rw (p.1, p.2) (post_body kinds bytes _ said.1.1 said.1.2 c.if-bytes-length.false _ whole named _ c.in_err-check_body.ensures)

pub returns : goal.returns
returns c =
    let bytes = c.args.bytes.now in
    let said = c.in_ok-head.ensures in
    let read = c.in_ok-entry.ensures in
    let whole = read.1 ∙ entry_alone kinds bytes _ said.1.1 said.1.2 _ said.1.0 in
    let named = ap (λ (r : Raw). head_fault kinds r.head) read.1 ∙ read.0 in (
      sym (post_body kinds bytes _ said.1.1 said.1.2 c.if-bytes-length.false _ whole named _ c.in_ok-check_body.ensures),
      (whole, ap (λ (r : Raw). entry_bytes r.head r.body) whole ∙ entry_again bytes _ said.1.1 (omega arith) (λ i. omega (arith, c.type_inv.bytes i))),
    )
