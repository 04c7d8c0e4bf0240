-- The ranges of a line's numbers.
use Rattle.std.specs.Prelude.{ℕ, Bool, ◌&&◌, ℤ, pos, negsuc, int_le, nat_le}

-- a price in cents, from -$100.00 to $2,000.00
abbrev pub in_price_range : ℤ → Bool
in_price_range v = int_le (negsuc 9999) v && int_le v (pos 200000)

-- percent, cap and floor of a line
abbrev pub in_range : ℕ → ℕ → ℤ → Bool
in_range percent limit floor = nat_le percent 1000 && nat_le limit 100000000 && in_price_range floor
