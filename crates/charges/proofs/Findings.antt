-- Findings from equal parts.
use Rattle.std.proofs.Common.{◌≡◌, ℕ, ap, ◌∙◌}
use Rattle.vocabulary.specs.declared.product.Product.{Product}
use Rattle.vocabulary.specs.declared.verdict.Verdict.{Verdict}
use Rattle.vocabulary.specs.Readings.{Lines, Own}
use Rattle.charges.specs.declared.finding.Verdicts.{Verdicts}
use Rattle.charges.specs.declared.finding.Finding.{Finding}
use Rattle.charges.specs.Findings.{Meanings, charge, found}

abbrev pub verdicts : Verdict → Verdict → Verdict → Verdict → Verdict → Verdicts
verdicts conduct impact resource entity quantity =
    record { conduct = conduct; impact = impact; resource = resource; entity = entity; quantity_impact = quantity }

pub same_verdicts : {a a' b b' c c' d d' e e' : Verdict} → a ≡ a' → b ≡ b' → c ≡ c' → d ≡ d' → e ≡ e' → verdicts a b c d e ≡ verdicts a' b' c' d' e'
same_verdicts p q r s t = λ i. verdicts (p i) (q i) (r i) (s i) (t i)

-- the charge by verdicts that are the right ones
pub same_found : (m : Meanings) (lines : Lines) (o : Own) (product : Product) (v w : Verdicts) (n : ℕ) → v ≡ w → n ≡ charge m.curves lines o product v
    → ◌≡◌ {A = Finding} (record { verdicts = v; charge = n }) (found m lines o product w)
same_found m lines o product v w n e f = (λ i. record { verdicts = v; charge = f i }) ∙ ap (found m lines o product) e
