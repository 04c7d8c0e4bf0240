-- The body that each slot of a record holds, and a record of which one slot changed.
use Rattle.std.specs.Prelude.{◌≡◌, ℕ, ◌-◌, cond, List, Some, None, Option, ◌==◌, ◌≢◌, nat_lt, slice_index_or}
use Rattle.std.specs.Option.{option_map}
use Rattle.curves.specs.Rows.{curve_in}
use Rattle.vocabulary.specs.declared.resource.Values.{Values}
use Rattle.vocabulary.specs.declared.resource.Remark.{Remark}
use Rattle.vocabulary.specs.declared.resource.Resource.{Resource}
use Rattle.vocabulary.specs.Readings.{no_row}
use Rattle.bodies.specs.Bodies.{standing_bytes, most_steps, remark_bytes, remark_fault}
use Rattle.bodies.specs.Curves.{curve_bytes}
use Rattle.bodies.specs.Numbers.{word_bytes, number_bytes}

-- an offer's or a reference's parameter
unfoldable pub values_hold : Values → ℕ → Option (List ℕ)
values_hold v parameter =
    cond (nat_lt parameter 4) (option_map curve_bytes (curve_in (most_steps parameter) (slice_index_or v.curves parameter no_row)))
    (option_map number_bytes (slice_index_or v.amounts (parameter - 4) None))

-- an empty remark has no bytes
abbrev pub remark_held : Remark → Option (List ℕ)
remark_held r = cond (remark_fault (remark_bytes r) == 0) (Some (remark_bytes r)) None

-- what kinds 2 to 7 hold
abbrev pub by_kind : {A : Type 0} → ℕ → A → A → A → A → A → A → A → A
by_kind kind standing offer reference quantity price remark none =
    cond (kind == 2) standing (
    cond (kind == 3) offer (
    cond (kind == 4) reference (
    cond (kind == 5) quantity (
    cond (kind == 6) price (
    cond (kind == 7) remark none)))))

abbrev pub at_sub_zero : ℕ → Option (List ℕ) → Option (List ℕ)
at_sub_zero sub body = cond (sub == 0) body None

-- by kind and sub; a standing and a remark have sub 0
unfoldable pub holds : Resource → ℕ → ℕ → Option (List ℕ)
holds r kind sub =
    by_kind kind
    (at_sub_zero sub (option_map standing_bytes r.standing))
    (values_hold r.offer sub)
    (values_hold r.reference sub)
    (option_map word_bytes (slice_index_or r.quantities sub None))
    (option_map number_bytes (slice_index_or r.prices sub None))
    (at_sub_zero sub (remark_held r.remark))
    None

-- the parameter holds the body, and the others what they held
pub record ValuesChanged (v v' : Values) (parameter : ℕ) (body : Option (List ℕ)) : Type 0 where
  pub here : values_hold v' parameter ≡ body
  pub elsewhere : (p : ℕ) → (p ≢ parameter) → values_hold v' p ≡ values_hold v p

-- the slot of a kind and a sub holds the body, and the others what they held
pub record Changed (r r' : Resource) (kind sub : ℕ) (body : Option (List ℕ)) : Type 0 where
  pub here : holds r' kind sub ≡ body
  pub elsewhere : (k u : ℕ) → (k ≡ kind → u ≢ sub) → holds r' k u ≡ holds r k u
