-- The number of every word, and the letter of every verdict.
use Rattle.std.specs.Prelude.{ℕ, ◌+◌}
use Rattle.vocabulary.specs.declared.product.Product.{Product}
use Rattle.vocabulary.specs.declared.product.Product.TheVariants.{Energy, Spinning, NonSpinning, ThirtyMinute}
use Rattle.vocabulary.specs.declared.condition.Condition.{Condition}
use Rattle.vocabulary.specs.declared.condition.Condition.TheVariants.{Narrow, Dynamic, Broad, GlobalPower, Intertie}
use Rattle.vocabulary.specs.declared.amount.Amount.{Amount}
use Rattle.vocabulary.specs.declared.amount.Amount.TheVariants as amounts
use Rattle.vocabulary.specs.declared.parameter.Parameter.{Parameter}
use Rattle.vocabulary.specs.declared.parameter.Parameter.TheVariants as parameters
use Rattle.vocabulary.specs.declared.test.Test.{Test}
use Rattle.vocabulary.specs.declared.test.Test.TheVariants as tests
use Rattle.vocabulary.specs.declared.run.Run.{Run}
use Rattle.vocabulary.specs.declared.run.Run.TheVariants.{AsOffered, ReferenceLevel, ReferenceQuantity}
use Rattle.vocabulary.specs.declared.verdict.Verdict.{Verdict}
use Rattle.vocabulary.specs.declared.verdict.Verdict.TheVariants.{NotTested, Passed, Failed}

-- energy, then operating reserve: 10S, 10N and 30R
abbrev pub product_number : Product → ℕ
product_number Energy = 0
product_number Spinning = 1
product_number NonSpinning = 2
product_number ThirtyMinute = 3

-- NCA, DCA, BCA, GMP and UIZ
abbrev pub condition_number : Condition → ℕ
condition_number Narrow = 0
condition_number Dynamic = 1
condition_number Broad = 2
condition_number GlobalPower = 3
condition_number Intertie = 4

-- start-up cost, speed no-load cost, minimum run time, ramp rate
abbrev pub amount_number : Amount → ℕ
amount_number amounts.StartUp = 0
amount_number amounts.SpeedNoLoad = 1
amount_number amounts.RunTime = 2
amount_number amounts.RampRate = 3

-- the products' curves are 0 to 3, the amounts 4 to 7
abbrev pub parameter_number : Parameter → ℕ
parameter_number (parameters.Curve product) = product_number product
parameter_number (parameters.Amount amount) = 4 + amount_number amount

abbrev pub test_number : Test → ℕ
test_number tests.EnergyCurve = 0
test_number tests.ReserveCurve = 1
test_number tests.StartUp = 2
test_number tests.SpeedNoLoad = 3
test_number tests.RunTime = 4
test_number tests.RampRate = 5
test_number tests.EnergyImpact = 6
test_number tests.ReserveImpact = 7
test_number tests.ResourceQuantity = 8
test_number tests.EntityQuantity = 9

abbrev pub run_number : Run → ℕ
run_number AsOffered = 0
run_number ReferenceLevel = 1
run_number ReferenceQuantity = 2

-- N, P and F
abbrev pub letter : Verdict → ℕ
letter NotTested = 78
letter Passed = 80
letter Failed = 70
