use Rattle.std.proofs.Common.{Some, ap, ◌∙◌, arith}
use Rattle.bodies.specs.Bodies.{terms_of}
use Rattle.ledger.proofs.Bodies.{sized_none, inside}
use Rattle.ledger.proofs.Readings.{terms_in_range}
use Rattle.table.specs.Ranges.{terms_ranged}
use Rattle.table.specs.Tables.{slots_of}
use Rattle.table.proofs.Tables.{exists, line_written}
use Rattle.table.proofs.Keeping.{line_stays}
use Rattle.table.proofs.hour.Table.take_line.Goals as goal

pub returns-in-Ok-clause-slots : goal.returns-in-Ok-clause-slots
unfolding slots_of
returns-in-Ok-clause-slots c =
    let there = exists c.args.condition c.args.test 5 10 c.requires.slot in
    line_written c.args.self.now.lines c.args.self.now.resources c.args.condition c.args.test (Some c.in-Ok.terms) _ (omega arith) c.requires.slot (ap Some c.in-Ok.ensures.1.1)

pub returns-in-Ok-clause-ranged : goal.returns-in-Ok-clause-ranged
returns-in-Ok-clause-ranged c fit =
    let t = c.args.self.now in
    let h = c.in-Ok.ensures in
    let body = c.args.body.now in
    line_stays t.lines t.resources _ _ fit
    (ap (λ x. terms_ranged (Some x)) h.1.0 ∙ terms_in_range c.args.test (terms_of body) (inside _ (sized_none 12 body _ h.0)))
