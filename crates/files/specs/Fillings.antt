-- The bytes of a full slot's entry.
use Rattle.std.specs.Prelude.{ℕ, ◌≤◌, List, [], Some, None, Option}
use Rattle.curves.specs.Rows.{row_steps}
use Rattle.bodies.specs.Bodies.{terms_bytes, standing_bytes, remark_bytes}
use Rattle.bodies.specs.Curves.{curve_bytes}
use Rattle.entries.specs.Entries.{head}
use Rattle.entries.specs.Files.{entry_bytes}
use Rattle.bodies.specs.Numbers.{word_bytes, number_bytes}
use Rattle.files.specs.declared.filled.Filled.{Filled}
use Rattle.files.specs.declared.filled.Filled.TheVariants.{Line, Standing, Curve, Number, Quantity, Remark}

abbrev pub filled_bytes : Filled → List ℕ
filled_bytes (Line condition test terms) = entry_bytes (head 1 condition test) (terms_bytes terms)
filled_bytes (Standing resource standing) = entry_bytes (head 2 resource 0) (standing_bytes standing)
filled_bytes (Curve h row) = entry_bytes h (curve_bytes (row_steps row))
filled_bytes (Number h value) = entry_bytes h (number_bytes value)
filled_bytes (Quantity resource product tenths) = entry_bytes (head 5 resource product) (word_bytes tenths)
filled_bytes (Remark resource remark) = entry_bytes (head 7 resource 0) (remark_bytes remark)

-- an empty slot has no bytes
abbrev pub slot_bytes : Option Filled → List ℕ
slot_bytes None = []
slot_bytes (Some filled) = filled_bytes filled

-- a row counts no more steps than it has, and a remark no more bytes
abbrev pub Sound : Option Filled → Type 0
Sound None = Unit {0}
Sound (Some (Line condition test terms)) = Unit {0}
Sound (Some (Standing resource standing)) = Unit {0}
Sound (Some (Curve h row)) = row.count ≤ 20
Sound (Some (Number h value)) = Unit {0}
Sound (Some (Quantity resource product tenths)) = Unit {0}
Sound (Some (Remark resource remark)) = remark.count ≤ 120
