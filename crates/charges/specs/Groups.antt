-- Groups: resources of one entity under one condition, each of which passed by itself.
use Rattle.std.specs.Prelude.{◌≡◌, ℕ, zero, suc, ◌+◌, ◌<◌, ◌≤◌, Bool, false, cond, ◌&&◌, List, get_or, pos, Some, None, Option, ◌==◌, slice_index_or}
use Rattle.bounds.specs.Meanings.{Meaning}
use Rattle.kinds.specs.Judged.{judged}
use Rattle.vocabulary.specs.declared.product.Product.{Product}
use Rattle.vocabulary.specs.declared.condition.Condition.{Condition}
use Rattle.vocabulary.specs.declared.test.Test.TheVariants.{EntityQuantity}
use Rattle.vocabulary.specs.declared.verdict.Verdict.{Verdict}
use Rattle.vocabulary.specs.declared.verdict.Verdict.TheVariants.{NotTested, Passed, Failed}
use Rattle.vocabulary.specs.Numbers.{condition_number}
use Rattle.vocabulary.specs.Readings.{Lines, Own}
use Rattle.vocabulary.specs.Conditions.{condition_in_force, entity_of}
use Rattle.verdicts.specs.Rules.{offered, resource_quantity}
use Rattle.charges.specs.declared.share.Group.{Group}
use Rattle.charges.specs.declared.share.Share.{Share}
use Rattle.charges.specs.Tables.{Owns}

-- a quantity that is missing counts as 0
abbrev pub known : Option ℕ → ℕ
known None = 0
known (Some q) = q

-- the group of a resource of an entity other than 0 that passed by itself
abbrev pub group_of : ℕ → Option Condition → Verdict → Option Group
group_of entity condition NotTested = None
group_of entity condition Failed = None
group_of entity None Passed = None
group_of entity (Some condition) Passed = cond (entity == 0) None (Some (record { entity = entity; condition = condition }))

abbrev pub group : Meaning → Lines → Own → Product → Option Group
group quantities lines o product = group_of (entity_of o) (condition_in_force o product) (resource_quantity quantities lines o product)

abbrev pub is_group : Group → Option Group → Bool
is_group g None = false
is_group g (Some h) = h.entity == g.entity && condition_number h.condition == condition_number g.condition

-- what a member of g brings, and another does not
abbrev pub brought : Group → Option Group → ℕ → ℕ
brought g other quantity = cond (is_group g other) quantity 0

-- f at each number below n, added up
unfoldable pub total : (ℕ → ℕ) → ℕ → ℕ
total f zero = 0
total f (suc n) = total f n + f n

abbrev pub offered_in : Meaning → Lines → Owns → Product → Group → ℕ → ℕ
offered_in quantities lines owns product g k = brought g (group quantities lines (owns k) product) (offered (owns k) product)

abbrev pub reference_in : Meaning → Lines → Owns → Product → Group → ℕ → ℕ
reference_in quantities lines owns product g k = brought g (group quantities lines (owns k) product) (known ((owns k).quantity product))

-- the verdict on a group's members, from its sums of reference and of offered quantities
abbrev pub group_verdict : Meaning → Lines → (Group → ℕ) → (Group → ℕ) → Option Group → Verdict
group_verdict quantities lines references offers None = NotTested
group_verdict quantities lines references offers (Some g) =
    judged quantities (lines g.condition EntityQuantity) (Some (pos (references g))) (Some (pos (offers g)))

-- the entity quantity verdict of resource i
abbrev pub entity_quantity : Meaning → Lines → Owns → Product → ℕ → Verdict
entity_quantity quantities lines owns product i =
    group_verdict quantities lines (λ g. total (reference_in quantities lines owns product g) 32) (λ g. total (offered_in quantities lines owns product g) 32)
    (group quantities lines (owns i) product)

-- how the code works it out: each resource's share once, the sums from the shares

unfoldable pub share : Meaning → Lines → Own → Product → Share
share quantities lines o product = record {
  group = group quantities lines o product;
  verdict = resource_quantity quantities lines o product;
  offered = offered o product;
  reference = known (o.quantity product);
}

abbrev pub no_share : Share
no_share = record { group = None; verdict = NotTested; offered = 0; reference = 0 }

abbrev pub SharesOf : Meaning → Lines → Owns → Product → List Share → Type 0
SharesOf quantities lines owns product shares = (k : ℕ) → k < 32 → slice_index_or shares k no_share ≡ share quantities lines (owns k) product

abbrev pub Small : List Share → Type 0
Small shares = (k : ℕ) → k < 32 → ((get_or shares k no_share).offered ≤ 100000) × ((get_or shares k no_share).reference ≤ 100000)

abbrev pub share_offered : List Share → Group → ℕ → ℕ
share_offered shares g k = brought g (get_or shares k no_share).group (get_or shares k no_share).offered

abbrev pub share_reference : List Share → Group → ℕ → ℕ
share_reference shares g k = brought g (get_or shares k no_share).group (get_or shares k no_share).reference
