use Rattle.std.proofs.Common.{length, ap, ◌∙◌}
use Rattle.entries.specs.Files.{head_bytes, entry_at}
use Rattle.writers.proofs.Lending.{behind}
use Rattle.writers.proofs.Backs.{entry_alone, entry_back}
use Rattle.writers.proofs.bytes.write_entry.Goals as goal

pub returns-clause-back : goal.returns-clause-back
returns-clause-back c = entry_alone c.args.head c.args.body.now

pub returns-clause-reads : goal.returns-clause-reads
returns-clause-reads c =
    let h = c.args.head in
    let body = c.args.body.now in
    let written = behind c.args.out.now _ _ (head_bytes h (length body)) body _ c.write_head-at.ensures.len c.write_head-at.ensures.bytes c.write_bytes.ensures.bytes in
    ap (entry_at 0) written ∙ entry_back h body c.args.out.now
