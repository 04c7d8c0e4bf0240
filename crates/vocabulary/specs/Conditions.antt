-- The condition in force, and what else a standing says.
use Rattle.std.specs.Prelude.{ℕ, ◌/◌, ◌%◌, Bool, true, false, cond, Some, None, Option, ◌==◌}
use Rattle.vocabulary.specs.declared.condition.Condition.{Condition}
use Rattle.vocabulary.specs.declared.condition.Condition.TheVariants.{Narrow, Dynamic, Broad, GlobalPower, Intertie}
use Rattle.vocabulary.specs.declared.product.Product.{Product}
use Rattle.vocabulary.specs.declared.standing.Standing.{Standing}
use Rattle.vocabulary.specs.Readings.{Own, set_for}

abbrev odd : ℕ → Bool
odd n = n % 2 == 1

-- a set adds 1, 2, 4, 8, 16 for conditions 0 to 4; its lowest-numbered condition
abbrev pub lowest : ℕ → Option Condition
lowest set =
    cond (odd set) (Some Narrow) (
    cond (odd (set / 2)) (Some Dynamic) (
    cond (odd (set / 4)) (Some Broad) (
    cond (odd (set / 8)) (Some GlobalPower) (
    cond (odd (set / 16)) (Some Intertie) None))))

-- the condition, where it is no uncompetitive intertie zone
abbrev pub outside_zones : Option Condition → Option Condition
outside_zones None = None
outside_zones (Some Narrow) = Some Narrow
outside_zones (Some Dynamic) = Some Dynamic
outside_zones (Some Broad) = Some Broad
outside_zones (Some GlobalPower) = Some GlobalPower
outside_zones (Some Intertie) = None

-- an uncompetitive intertie zone
abbrev pub in_zone : Option Condition → Bool
in_zone None = false
in_zone (Some Narrow) = false
in_zone (Some Dynamic) = false
in_zone (Some Broad) = false
in_zone (Some GlobalPower) = false
in_zone (Some Intertie) = true

abbrev standing_condition : Option Standing → Product → Option Condition
standing_condition None product = None
standing_condition (Some s) product = lowest (set_for s product)

-- none without a standing or with an empty set
abbrev pub condition_in_force : Own → Product → Option Condition
condition_in_force o product = standing_condition o.standing product

abbrev standing_entity : Option Standing → ℕ
standing_entity None = 0
standing_entity (Some s) = s.entity

-- 0 where the resource belongs to none
abbrev pub entity_of : Own → ℕ
entity_of o = standing_entity o.standing

abbrev standing_multiplier : Option Standing → ℕ
standing_multiplier None = 0
standing_multiplier (Some s) = s.multiplier

abbrev pub multiplier_of : Own → ℕ
multiplier_of o = standing_multiplier o.standing
