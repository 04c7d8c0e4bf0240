-- Numbers as bytes, the high byte first.
use Rattle.std.specs.Prelude.{ℕ, ◌+◌, ◌*◌, ◌/◌, ◌%◌, List, [], ◌∷◌, ℤ, slice_index}
use Rattle.std.specs.Int.{w32}
use Rattle.std.proofs.Common.{to_z, of_z}

-- the unsigned number in the first four bytes
unfoldable pub word : List ℕ → ℕ
word bs = slice_index bs 0 * 16777216 + slice_index bs 1 * 65536 + slice_index bs 2 * 256 + slice_index bs 3

-- the signed number in the first four bytes
unfoldable pub number : List ℕ → ℤ
number bs = to_z w32 (word bs)

-- the length in the first two bytes
unfoldable pub size : List ℕ → ℕ
size bs = slice_index bs 0 * 256 + slice_index bs 1

unfoldable pub word_bytes : ℕ → List ℕ
word_bytes n = (n / 16777216 % 256) ∷ (n / 65536 % 256) ∷ (n / 256 % 256) ∷ (n % 256) ∷ []

abbrev pub number_bytes : ℤ → List ℕ
number_bytes z = word_bytes (of_z w32 z)
