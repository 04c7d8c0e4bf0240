-- Verdicts and mitigation, for values of any kind.
use Rattle.std.specs.Prelude.{◌≡◌, Bool, true, false, ◌&&◌, Some, None, Option}
use Rattle.bounds.specs.declared.line.Line.{Line}
use Rattle.vocabulary.specs.declared.verdict.Verdict.{Verdict}
use Rattle.vocabulary.specs.declared.verdict.Verdict.TheVariants.{NotTested}
use Rattle.vocabulary.specs.Verdicts.{failed, said}

-- not tested where the line, the reference or the offer is missing
abbrev pub judged : {V : Type 0} → (Line → V → V → Bool) → Option Line → Option V → Option V → Verdict
judged test None reference offer = NotTested
judged test (Some line) None offer = NotTested
judged test (Some line) (Some reference) None = NotTested
judged test (Some line) (Some reference) (Some offer) = said (test line reference offer)

abbrev pub replaced : {V : Type 0} → (V → V → V) → Bool → Option V → Option V → Option V
replaced substitute false reference offer = offer
replaced substitute true None offer = offer
replaced substitute true (Some reference) None = None
replaced substitute true (Some reference) (Some offer) = Some (substitute reference offer)

-- the substitute where conduct fails and the offer may be replaced, else the offer
abbrev pub mitigated : {V : Type 0} → (Line → V → V → Bool) → (V → V → V) → Option Line → Bool → Option V → Option V → Option V
mitigated test substitute line replaceable reference offer =
    replaced substitute (failed (judged test line reference offer) && replaceable) reference offer

-- two values differ exactly where b holds
abbrev pub DifferWhen : {V : Type 0} → Bool → V → V → Type 0
DifferWhen true x y = x ≡ y → ⊥
DifferWhen false x y = x ≡ y
