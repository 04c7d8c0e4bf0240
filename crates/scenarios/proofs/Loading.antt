-- A scenario's entries, loaded into an empty book.
use Rattle.std.proofs.Common.{◌≡◌, Bool, true, [], ◌∷◌, Ok, Err, Result, MatchResult, sym, subst}
use Rattle.std.specs.Result.{is_ok, IsErrAnd}
use Rattle.bodies.specs.declared.fault.Refusal.{Refusal}
use Rattle.charges.specs.Findings.{Meanings}
use Rattle.entries.specs.Files.{told}
use Rattle.entries.specs.Table.{kinds}
use Rattle.ledger.specs.Ledger.{Ledger, loaded, empty, fault, step}
use Rattle.ledger.specs.Slots.{WellFormed}
use Rattle.table.specs.declared.hour.Table.{Table}
use Rattle.table.specs.Tables.{slots_of}
use Rattle.book.specs.Ledgers.{ledger_of}
use Rattle.histories.specs.declared.document.Document.{Document}
use Rattle.histories.proofs.Comparing.{well}
use Rattle.scenarios.specs.declared.compare.Expected.{Expected}
use Rattle.scenarios.specs.declared.outcome.Disagreement.{Disagreement}
use Rattle.scenarios.specs.declared.outcome.Disagreement.TheVariants.{Differs}
use Rattle.scenarios.specs.Agreement.{FirstDifference, Compared, slots_of_scenario}

module _ (e : Expected) (l : Ledger) (new : l ≡ empty kinds) where
  pub answered : (r : Result Unit Refusal) → told r ≡ fault kinds l (loaded e.entries.now) → told r ≡ fault kinds (empty kinds) (loaded e.entries.now)
  answered r is = subst (λ x. told r ≡ fault kinds x (loaded e.entries.now)) new is

  module _ (t : Table) (is_open : Bool) (is : ledger_of t is_open ≡ step kinds l (loaded e.entries.now)) where
    step_is : ledger_of t is_open ≡ step kinds (empty kinds) (loaded e.entries.now)
    step_is = subst (λ x. ledger_of t is_open ≡ step kinds x (loaded e.entries.now)) new is

    pub fits : WellFormed kinds (slots_of t)
    fits = well t is_open (loaded e.entries.now ∷ []) step_is

-- what is told of a difference, once the entries were taken
pub compared : (m : Meanings) (e : Expected) (taken : Result Unit Refusal) (r : Result Unit Document) (q : Result Unit Disagreement) → is_ok taken ≡ true → told taken ≡ fault kinds (empty kinds) (loaded e.entries.now)
    → FirstDifference m (slots_of_scenario e) e r → MatchResult r (λ x. q ≡ Ok x) (λ d. IsErrAnd q (λ y. y ≡ Differs d)) → Compared m e q
compared m e (Err x) r q ok answer d is = absurd (let h = ok in cc)
compared m e (Ok x) (Ok y) q ok answer d is = subst (Compared m e) (sym is) (sym answer, d)
compared m e (Ok x) (Err y) (Ok z) ok answer d is = absurd is
compared m e (Ok x) (Err y) (Err z) ok answer d is = subst (λ w. Compared m e (Err w)) (sym is) d
