use Rattle.std.proofs.Common.{refl}
use Rattle.answers.proofs.question.amount_conducts.Goals as goal

pub returns : goal.returns
returns g c = rw (← c.places-places.ensures, c.amount_conduct.ensures, c.amount_conduct-2.ensures, c.amount_conduct-3.ensures, c.amount_conduct-4.ensures) refl
