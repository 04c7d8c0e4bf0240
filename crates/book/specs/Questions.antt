-- The answer to a question on a resource.
use Rattle.std.specs.Prelude.{◌≡◌, ℕ, ◌<◌, ◌≤◌, None, Ok, Err, Result}
use Rattle.bodies.specs.declared.fault.Fault.TheVariants.{Slot}
use Rattle.bodies.specs.declared.fault.Refusal.{Refusal}
use Rattle.charges.specs.Findings.{Meanings}
use Rattle.answers.specs.declared.answer.Answer.{Answer}
use Rattle.answers.specs.Answers.{answer, nothing_found}
use Rattle.ledger.specs.Slots.{Slots}
use Rattle.ledger.specs.Readings.{slot, lines, own}

-- the record holds what the rules find of the resource, or stays where there is no such resource
pub record Asked (m : Meanings) (s : Slots) (resource : ℕ) (before after : Answer) (r : Result Unit Refusal) : Type 0 where
  pub found : resource < 32 → (r ≡ Ok tt) × (after ≡ answer m (lines s) (own s) resource)
  pub without_standing : resource < 32 → slot s 2 resource 0 ≡ None → after ≡ nothing_found
  pub absent : 32 ≤ resource → (r ≡ Err (record { fault = Slot; place = 0 })) × (after ≡ before)
