-- What a table of resources says.
use Rattle.std.specs.Prelude.{ℕ, List, slice_index_or}
use Rattle.vocabulary.specs.declared.resource.Resource.{Resource}
use Rattle.vocabulary.specs.Empty.{no_resource}
use Rattle.vocabulary.specs.Readings.{Own, own_of}

-- each resource's records, by its number
abbrev pub Owns : Type 0
Owns = ℕ → Own

abbrev pub owns_of : List Resource → Owns
owns_of table = λ i. own_of (slice_index_or table i no_resource)
