-- The calls of a list, as the plain ledger is told them.
use Rattle.std.specs.Prelude.{List, [], ◌∷◌}
use Rattle.entries.specs.Entries.{head}
use Rattle.ledger.specs.Ledger.{Act, posted, cleared, loaded, closed}
use Rattle.histories.specs.declared.call.Call.{Call}
use Rattle.histories.specs.declared.call.Call.TheVariants.{Post, Clear, Load, Close}

abbrev pub act_of : Call → Act
act_of (Post bytes) = posted bytes.now
act_of (Clear kind first sub) = cleared (head kind first sub)
act_of (Load file) = loaded file.now
act_of Close = closed

abbrev pub acts_of : List Call → List Act
acts_of [] = []
acts_of (call ∷ rest) = act_of call ∷ acts_of rest
