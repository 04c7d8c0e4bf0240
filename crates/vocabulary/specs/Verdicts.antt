-- Verdicts as answers to a test.
use Rattle.std.specs.Prelude.{Bool, true, false}
use Rattle.vocabulary.specs.declared.verdict.Verdict.{Verdict}
use Rattle.vocabulary.specs.declared.verdict.Verdict.TheVariants.{NotTested, Passed, Failed}

abbrev pub failed : Verdict → Bool
failed NotTested = false
failed Passed = false
failed Failed = true

-- the verdict on what was tested
abbrev pub said : Bool → Verdict
said true = Passed
said false = Failed
