use Rattle.writers.proofs.Lending.{Stepped}
use Rattle.writers.proofs.entry.write_steps.Given as goal

abbrev pub invariant-loop-step : goal.invariant-loop-step
invariant-loop-step l = Stepped l.step-items l.initial.out l.out l.at l.step-index
