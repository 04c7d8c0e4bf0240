use Rattle.std.proofs.Common.{◌≤◌, length, ◌∙◌, subst}
use Rattle.book.proofs.Drawing.{redrawn, rows_drawn, rows_listed}
use Rattle.book.proofs.book.Book.write_listing.Goals as goal

pub write_listing-requires : goal.write_listing-requires
write_listing-requires g c = c.listed-answers.ensures.small

pub returns : goal.returns
returns g c =
    let m = g.R.Rules.meanings c.args.self.now.rules in
    let t = c.args.self.now.table in
    let drawn = rows_drawn m t _ c.listed-answers.ensures.value in
    let rows = redrawn drawn c.write_listing.ensures.written in
    record {
      rows = rows;
      written = λ fit. redrawn (rows_listed m t fit) rows;
      short = λ fit. subst (λ file. length file ≤ 1696) (drawn ∙ rows_listed m t fit) c.write_listing.ensures.short;
    }
