-- The line of a resource in a listing.
use Rattle.std.specs.Prelude.{ℕ, ◌+◌, ◌/◌, ◌%◌, Bool, ◌&&◌, List, length, Option, ◌==◌, nat_le, slice_index}
use Rattle.std.specs.List.{find}

-- its first two bytes are the digits of the resource
abbrev pub is_for : ℕ → List ℕ → Bool
is_for resource line = nat_le 2 (length line) && (slice_index line 0 == 48 + resource / 10 && slice_index line 1 == 48 + resource % 10)

-- the first such line
abbrev pub first_for : ℕ → List (List ℕ) → Option (List ℕ)
first_for resource = find (is_for resource)
