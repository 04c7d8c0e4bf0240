use Rattle.std.proofs.Common.{◌*◌, sym, ◌∙◌, subst}
use Rattle.curves.specs.Rows.{row_steps}
use Rattle.bodies.specs.Curves.{curve_bytes}
use Rattle.entries.specs.Files.{head_bytes}
use Rattle.writers.specs.Reads.{CurveReads}
use Rattle.writers.proofs.Backs.{body_back, curve_back}
use Rattle.writers.proofs.Lending.{behind, headed}
use Rattle.writers.proofs.entry.write_curve.Goals as goal

pub returns-clause-back : goal.returns-clause-back
returns-clause-back c =
    let law = curve_back c.args.head.sub (row_steps c.args.row.now) in
    record { value = law.value; fault = law.fault }

pub returns-clause-reads : goal.returns-clause-reads
returns-clause-reads c =
    let out = c.args.out.now in
    let h = c.args.head in
    let n = 8 * c.args.row.now.count in
    let body = curve_bytes (row_steps c.args.row.now) in
    let written =
    behind out _ _ (head_bytes h n) body _ c.write_head-at.ensures.len c.write_head-at.ensures.bytes c.write_steps.ensures.bytes
    ∙ headed h n body out (sym c.write_steps.ensures.len ∙ c.write_steps.ensures.whole) in
    let steps = row_steps c.args.row.now in
    subst (CurveReads h.sub steps) (sym (body_back h body out _ written)) (curve_back h.sub steps)
