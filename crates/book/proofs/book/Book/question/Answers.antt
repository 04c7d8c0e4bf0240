use Rattle.std.proofs.Common.{refl, ap, ◌∙◌, arith}
use Rattle.std.specs.Option.{option_map}
use Rattle.answers.proofs.Unfound.{unfound}
use Rattle.bodies.specs.Bodies.{standing_of}
use Rattle.ledger.specs.Readings.{lines, own}
use Rattle.table.specs.Tables.{slots_of}
use Rattle.book.proofs.Drawing.{answered}
use Rattle.book.proofs.book.Book.question.Goals as goal

pub returns-clause-asked : goal.returns-clause-asked
returns-clause-asked g c =
    let m = g.R.Rules.meanings c.args.self.now.rules in
    let s = slots_of c.args.self.now.table in
    λ fit.
    let is = c.question.ensures ∙ answered m c.args.self.now.table fit c.args.resource in
    record {
      found = λ _. (refl, is);
      without_standing = λ _ none. is ∙ unfound m (lines s) (own s) c.args.resource (ap (option_map standing_of) none);
      absent = λ far. absurd (omega arith);
    }
