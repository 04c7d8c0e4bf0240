-- Which test a product or an amount is put to, and how many steps a curve may have.
use Rattle.std.specs.Prelude.{ℕ}
use Rattle.vocabulary.specs.declared.product.Product.{Product}
use Rattle.vocabulary.specs.declared.product.Product.TheVariants.{Energy, Spinning, NonSpinning, ThirtyMinute}
use Rattle.vocabulary.specs.declared.amount.Amount.{Amount}
use Rattle.vocabulary.specs.declared.amount.Amount.TheVariants as amounts
use Rattle.vocabulary.specs.declared.test.Test.{Test}
use Rattle.vocabulary.specs.declared.test.Test.TheVariants as tests

abbrev of_energy_or_reserve : {A : Type 0} → A → A → Product → A
of_energy_or_reserve energy reserve Energy = energy
of_energy_or_reserve energy reserve Spinning = reserve
of_energy_or_reserve energy reserve NonSpinning = reserve
of_energy_or_reserve energy reserve ThirtyMinute = reserve

abbrev pub most_steps : Product → ℕ
most_steps = of_energy_or_reserve 20 5

abbrev pub curve_test : Product → Test
curve_test = of_energy_or_reserve tests.EnergyCurve tests.ReserveCurve

abbrev pub impact_test : Product → Test
impact_test = of_energy_or_reserve tests.EnergyImpact tests.ReserveImpact

abbrev pub amount_test : Amount → Test
amount_test amounts.StartUp = tests.StartUp
amount_test amounts.SpeedNoLoad = tests.SpeedNoLoad
amount_test amounts.RunTime = tests.RunTime
amount_test amounts.RampRate = tests.RampRate
