use Rattle.std.proofs.Common.{◌≢◌, ◌<◌, is_some, sym, ap, ◌∙◌, arith}
use Rattle.std.proofs.lemmas.Grind.{common_steps}
use Rattle.table.specs.Tables.{slots_of}
use Rattle.table.proofs.Tables.{record_written, record_read}
use Rattle.table.proofs.Keeping.{record_stays}
use Rattle.table.proofs.hour.Table.clear.Goals as goal

pub returns-in_default : goal.returns-in_default
unfolding slots_of
returns-in_default c =
    let t = c.args.self.now in
    let h = c.args.head in
    let ne : h.kind ≢ 1 = grind (arith, common_steps) in
    let there : h.first < 32 = grind (arith, common_steps) in
    let e = c.clear.ensures in
    record {
      slots = record_written t.lines t.resources h.first _ h.kind h.sub _ ne (omega arith) c.requires e.changed;
      was = e.was ∙ ap is_some (sym (record_read t.lines t.resources h.kind h.first h.sub ne c.requires));
      ranged = λ fit. record_stays t.lines t.resources h.first _ fit e.kept;
    }
