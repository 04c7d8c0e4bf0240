-- Bytes written in hex and in decimal.
use Rattle.std.specs.Prelude.{ℕ, ◌+◌, ◌-◌, ◌*◌, ◌/◌, ◌%◌, Bool, true, false, cond, ◌&&◌, ◌||◌, List, [], ◌∷◌, Some, None, Option, nat_le, nat_lt, slice_index_or}

-- from the first to the last, both counted
abbrev pub in_range : ℕ → ℕ → ℕ → Bool
in_range first last b = nat_le first b && nat_le b last

-- `0` to `9`, and the letters of hex in either case
abbrev pub is_decimal : ℕ → Bool
is_decimal b = in_range 48 57 b

abbrev pub is_lower : ℕ → Bool
is_lower b = in_range 97 102 b

abbrev pub is_upper : ℕ → Bool
is_upper b = in_range 65 70 b

abbrev pub is_hex_digit : ℕ → Bool
is_hex_digit b = is_decimal b || (is_lower b || is_upper b)

-- a high digit and a low one
abbrev pub both_digits : List ℕ → Bool
both_digits pair = is_hex_digit (slice_index_or pair 0 0) && is_hex_digit (slice_index_or pair 1 0)

-- what a hex digit counts; 0 for another byte
abbrev pub hex_value : ℕ → ℕ
hex_value b = cond (is_decimal b) (b - 48) (cond (is_lower b) (b - 87) (cond (is_upper b) (b - 55) 0))

-- an even number of hex digits
abbrev pub is_hex : List ℕ → Bool
is_hex [] = true
is_hex (a ∷ []) = false
is_hex (a ∷ b ∷ more) = (is_hex_digit a && is_hex_digit b) && is_hex more

-- the bytes that they say, the high digit first
abbrev pub hex_bytes : List ℕ → List ℕ
hex_bytes [] = []
hex_bytes (a ∷ []) = []
hex_bytes (a ∷ b ∷ more) = (16 * hex_value a + hex_value b) ∷ hex_bytes more

-- the lower-case digit of a number below 16, and the text of bytes
abbrev pub hex_digit : ℕ → ℕ
hex_digit n = cond (nat_lt n 10) (48 + n) (87 + n)

abbrev pub hex_of : List ℕ → List ℕ
hex_of [] = []
hex_of (b ∷ more) = hex_digit (b / 16) ∷ hex_digit (b % 16) ∷ hex_of more

-- the byte that three decimal digits say
abbrev pub three_digits : ℕ → ℕ → ℕ → Option ℕ
three_digits a b c =
    cond ((is_decimal a && is_decimal b) && (is_decimal c && nat_le (100 * (a - 48) + 10 * (b - 48) + (c - 48)) 255))
    (Some (100 * (a - 48) + 10 * (b - 48) + (c - 48))) None

-- a number from 0 to 255 in one to three digits
abbrev pub decimal_byte : List ℕ → Option ℕ
decimal_byte [] = None
decimal_byte (c ∷ []) = three_digits 48 48 c
decimal_byte (b ∷ c ∷ []) = three_digits 48 b c
decimal_byte (a ∷ b ∷ c ∷ []) = three_digits a b c
decimal_byte (a ∷ b ∷ c ∷ d ∷ more) = None
