use Rattle.std.proofs.Common.{is_some, sym, ap, ◌∙◌, arith}
use Rattle.std.specs.Option.{option_map}
use Rattle.bodies.specs.Bodies.{terms_bytes}
use Rattle.table.specs.Ranges.{terms_ranged}
use Rattle.table.specs.Tables.{slots_of}
use Rattle.table.proofs.Fullness.{some_mapped}
use Rattle.table.proofs.Tables.{exists, line_written, line_read}
use Rattle.table.proofs.Keeping.{line_stays}
use Rattle.table.proofs.hour.Table.clear_line.Goals as goal

pub returns : goal.returns
unfolding slots_of
returns c =
    let t = c.args.self.now in
    let there = exists c.args.condition c.args.test 5 10 c.requires in
    let e = c.take.ensures in
    record {
      slots = line_written t.lines t.resources c.args.condition c.args.test c.take.new.self _ (omega arith) c.requires (ap (option_map terms_bytes) e.after);
      was = c.is_some.ensures ∙ ap is_some e.value ∙ some_mapped terms_bytes _ ∙ ap is_some (sym (line_read t.lines t.resources c.args.condition c.args.test c.requires));
      ranged = λ fit. line_stays t.lines t.resources _ c.take.new.self fit (ap terms_ranged e.after);
    }
