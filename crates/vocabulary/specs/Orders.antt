-- Products and parameters in the order of their numbers.
use Rattle.std.specs.Prelude.{ℕ, List, [], ◌∷◌, ◌++◌, slice_index_or}
use Rattle.vocabulary.specs.declared.amount.Amount.TheVariants.{StartUp, SpeedNoLoad, RunTime, RampRate}
use Rattle.vocabulary.specs.declared.parameter.Parameter.{Parameter}
use Rattle.vocabulary.specs.declared.parameter.Parameter.TheVariants.{Curve, Amount}
use Rattle.vocabulary.specs.declared.product.Product.{Product}
use Rattle.vocabulary.specs.declared.product.Product.TheVariants.{Energy, Spinning, NonSpinning, ThirtyMinute}

-- something of each product
abbrev pub of_products : {A : Type 0} → (Product → A) → List A
of_products f = f Energy ∷ f Spinning ∷ f NonSpinning ∷ f ThirtyMinute ∷ []

-- something of each parameter: the products' curves, then the amounts
abbrev pub of_parameters : {A : Type 0} → (Parameter → A) → List A
of_parameters f = of_products (λ p. f (Curve p)) ++ (f (Amount StartUp) ∷ f (Amount SpeedNoLoad) ∷ f (Amount RunTime) ∷ f (Amount RampRate) ∷ [])

-- the parameters by number
abbrev parameters : List Parameter
parameters =
    Curve Energy ∷ Curve Spinning ∷ Curve NonSpinning ∷ Curve ThirtyMinute
    ∷ Amount StartUp ∷ Amount SpeedNoLoad ∷ Amount RunTime ∷ Amount RampRate ∷ []

abbrev pub parameter_at : ℕ → Parameter
parameter_at n = slice_index_or parameters n (Curve Energy)

-- the product that a parameter belongs to: amounts are of energy
abbrev pub product_of : Parameter → Product
product_of (Curve product) = product
product_of (Amount amount) = Energy
