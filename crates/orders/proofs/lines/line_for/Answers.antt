use Rattle.std.proofs.Common.{ap, rules}
use Rattle.std.proofs.lemmas.Iterator.Consumers.{YieldsList-from_first}
use Rattle.std.proofs.lemmas.Iterator.Search.{find_from_yields_List}
use Rattle.scripts.specs.Texts.{lines_of}
use Rattle.orders.specs.Lines.{is_for}
use Rattle.orders.proofs.lines.line_for.Goals as goal

pub returns : goal.returns
returns c =
    find_from_yields_List (is_for c.args.resource) c.find.new.self _ _ c.find.ensures.ran
    (YieldsList-from_first (λ l. l.now) (λ s. lines_of s.rest.now) (lines_of c.args.listing.now) (ap lines_of c.lines_in.ensures))
    (λ x b q h. search rules)
