use Rattle.std.proofs.Common.{arith}
use Rattle.std.proofs.lemmas.List.{length-set}
use Rattle.listing.proofs.Lettering.{lettered_more}
use Rattle.listing.proofs.letters.write_letters.Goals as goal

pub loop-i-preserved : goal.loop-i-preserved
loop-i-preserved c = lettered_more c.loop-i.invariant _ (omega arith) (simp length-set (omega arith)) _ c.letter.ensures
