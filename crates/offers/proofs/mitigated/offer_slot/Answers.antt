use Rattle.std.proofs.Common.{refl}
use Rattle.offers.proofs.mitigated.offer_slot.Goals as goal

pub returns-in-Amount-clause-bytes : goal.returns-in-Amount-clause-bytes
returns-in-Amount-clause-bytes g c = rw (← c.places-places.ensures, ← c.at.ensures, c.in-Amount.is, c.number_slot.ensures.bytes, c.mitigated_amount.ensures.value) refl
