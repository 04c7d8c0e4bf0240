use Rattle.std.proofs.Common.{arith}
use Rattle.std.proofs.lemmas.Int.{to_z-of_z}
use Rattle.curves.proofs.Walks.{price_kept}
use Rattle.curves.proofs.curve.Curve.price_at.Goals as goal

pub returns : goal.returns
returns c = grind (arith, to_z-of_z, price_kept)
