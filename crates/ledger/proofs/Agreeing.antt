-- Meanings that agree everywhere are the same.
use Rattle.std.proofs.Common.{◌≡◌, ap}
use Rattle.charges.specs.Findings.{Meanings, finding}
use Rattle.ledger.specs.Readings.{lines, own}
use Rattle.answers.specs.Answers.{conduct}
use Rattle.ledger.specs.Mitigation.{mitigated}
use Rattle.ledger.specs.Promises.{Agree, EqualMeanings}

pub same : (m n : Meanings) → Agree m n → m ≡ n
same m n a = λ i. record {
  curves = λ l r v. a.curves l r v i;
  amounts = λ l r v. a.amounts l r v i;
  impacts = λ l r v. a.impacts l r v i;
  quantities = λ l r v. a.quantities l r v i;
}

pub equal_meanings : EqualMeanings
equal_meanings m n a s =
    let e = same m n a in
    record {
      conducts = λ r p. ap (λ k. conduct k (lines s) (own s r) p) e;
      findings = λ r product. ap (λ k. finding k (lines s) (own s) product r) e;
      mitigations = ap (λ k. mitigated k s) e;
    }
