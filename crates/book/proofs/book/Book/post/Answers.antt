use Rattle.std.proofs.Common.{ap, ◌∙◌}
use Rattle.entries.specs.Entries.{Raw}
use Rattle.entries.specs.Files.{head_fault, body_fault, followed}
use Rattle.entries.specs.Table.{kinds}
use Rattle.ledger.proofs.Keeping.{sound}
use Rattle.book.proofs.book.Book.post.Goals as goal

pub take-requires : goal.take-requires
take-requires g c =
    let h = c.in_ok-entry.ensures in
    let held = sound kinds (followed c.args.bytes.now) c.args.bytes.now h.0 in
    record {
      slot = ap (λ (r : Raw). head_fault kinds r.head) h.1.0 ∙ held.named;
      fault = ap (λ (r : Raw). body_fault kinds r.head r.body) h.1.0 ∙ held.held;
    }
