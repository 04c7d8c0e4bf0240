-- What rows, remarks and records hold, as the entries of their slots.
use Rattle.std.proofs.Common.{◌≡◌, ℕ, ◌+◌, ◌*◌, ◌≤◌, length, Some, Option, sym, ap, ◌∙◌, subst, arith}
use Rattle.std.proofs.lemmas.List.{length-take-le}
use Rattle.curves.specs.declared.row.Row.{Row}
use Rattle.curves.specs.Rows.{row_steps}
use Rattle.bodies.specs.Curves.{curve_bytes}
use Rattle.entries.specs.Entries.{head}
use Rattle.entries.specs.Files.{head_fault}
use Rattle.entries.specs.declared.head.Head.{Head}
use Rattle.entries.specs.Table.{kinds}
use Rattle.bodies.proofs.Backs.{length_curve}
use Rattle.table.proofs.Tables.{exists}
use Rattle.files.specs.declared.filled.Filled.{Filled}
use Rattle.files.specs.declared.filled.Filled.TheVariants.{Curve}
use Rattle.files.specs.Fillings.{slot_bytes, Sound}

pub length_steps : (row : Row) → row.count ≤ length row.steps → 8 * row.count ≡ length (curve_bytes (row_steps row))
length_steps row h = sym (length_curve (row_steps row) ∙ ap (λ n. 8 * n) (length-take-le row.count row.steps h))

-- standings and remarks have one sub
pub only_standing : (kind f u : ℕ) → kind ≡ 2 → head_fault kinds (head kind f u) ≡ 0 → u ≡ 0
only_standing kind f u e z =
    let there = exists f u 32 1 (ap (λ k. head_fault kinds (head k f u)) (sym e) ∙ z) in
    omega arith

pub only_remark : (kind f u : ℕ) → kind ≡ 7 → head_fault kinds (head kind f u) ≡ 0 → u ≡ 0
only_remark kind f u e z =
    let there = exists f u 32 1 (ap (λ k. head_fault kinds (head k f u)) (sym e) ∙ z) in
    omega arith

-- a slot with a curve
module _ (slot : Option Filled) (h : Head) (row : Row) (is : slot ≡ Some (Curve h row)) where
  pub curve_sound : Sound slot → row.count ≤ 20
  curve_sound s = subst Sound is s

  pub curve_length : row.count ≤ length row.steps → (n : ℕ) → n ≡ 5 + 8 * row.count → n ≡ length (slot_bytes slot)
  curve_length few n e =
      let l = length_steps row few in
      let all : length (slot_bytes slot) ≡ 5 + length (curve_bytes (row_steps row)) = ap (λ o. length (slot_bytes o)) is ∙ omega arith in
      omega arith
