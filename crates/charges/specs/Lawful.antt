-- Meanings of bounds that keep their law.
use Rattle.std.specs.Prelude.{◌≡◌, true, ℤ}
use Rattle.bounds.specs.declared.line.Line.{Line}
use Rattle.bounds.specs.declared.side.Side.{Side}
use Rattle.bounds.specs.Meanings.{Meaning, Harmless}
use Rattle.kinds.specs.Passing.{harmless_self}
use Rattle.verdicts.specs.declared.places.Places.{Places}
use Rattle.charges.specs.Findings.{Meanings, meant_by}

-- a value equal to its reference passes
abbrev pub PassesReference : Meaning → Type 0
PassesReference meaning = (l : Line) (r : ℤ) → meaning l r r ≡ true

pub record Lawful (m : Meanings) : Type 0 where
  pub curves : PassesReference m.curves
  pub amounts : PassesReference m.amounts
  pub quantities : PassesReference m.quantities

-- a bound's law, as its interface has it
abbrev pub Spares : {B : Type 0} → Side → (B → Meaning) → Type 0
Spares {B} side meaning = (b : B) (l : Line) (r v : ℤ) → Harmless side r v → meaning b l r v ≡ true

pub lawful : {C A I Q : Type 0} (c : C → Meaning) (a : A → Meaning) (i : I → Meaning) (q : Q → Meaning) (s t u : Side) → Spares s c → Spares t a → Spares u q
    → (places : Places C A I Q) → Lawful (meant_by c a i q places)
lawful c a i q s t u sc sa sq places = record {
  curves = λ l r. sc places.curves.bound l r r (harmless_self s r);
  amounts = λ l r. sa places.amounts.bound l r r (harmless_self t r);
  quantities = λ l r. sq places.quantities.bound l r r (harmless_self u r);
}
