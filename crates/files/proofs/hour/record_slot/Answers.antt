use Rattle.std.proofs.Common.{◌≡◌, sym, ◌∙◌, rules}
use Rattle.entries.specs.Entries.{head}
use Rattle.table.specs.Holding.{holds}
use Rattle.ledger.specs.Slots.{entry_of}
use Rattle.files.proofs.Contents.{only_standing, only_remark}
use Rattle.files.proofs.hour.record_slot.Goals as goal

pub returns-in-2-clause-bytes : goal.returns-in-2-clause-bytes
unfolding holds
returns-in-2-clause-bytes c =
    let two = c.in-2.is in
    let none = only_standing c.args.head.kind c.args.head.first c.args.head.sub two c.requires.slot in
    c.standing_slot.ensures.bytes ∙ (λ i. entry_of (head (sym two i) c.args.head.first (sym none i)) (holds c.args.one.now (sym two i) (sym none i)))

pub returns-in_default-clause-bytes : goal.returns-in_default-clause-bytes
unfolding holds
returns-in_default-clause-bytes c =
    let seven : c.args.head.kind ≡ 7 = search rules in
    let none = only_remark c.args.head.kind c.args.head.first c.args.head.sub seven c.requires.slot in
    c.remark_slot.ensures.bytes ∙ (λ i. entry_of (head (sym seven i) c.args.head.first (sym none i)) (holds c.args.one.now (sym seven i) (sym none i)))
