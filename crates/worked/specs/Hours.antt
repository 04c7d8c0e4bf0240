-- The records of a small hour.
use Rattle.std.specs.Prelude.{ℕ, List, [], ◌∷◌, replicate, ℤ, pos, Some, None, Option, slice_index_or}
use Rattle.bounds.specs.Meanings.{ceiling_passes, shortfall_passes, exempt_passes}
use Rattle.curves.specs.declared.step.Step.{Step}
use Rattle.curves.specs.declared.row.Row.{Row}
use Rattle.curves.specs.Steps.{step}
use Rattle.curves.specs.Rows.{empty_row}
use Rattle.vocabulary.specs.declared.lines.Terms.{Terms}
use Rattle.vocabulary.specs.declared.standing.Standing.{Standing}
use Rattle.vocabulary.specs.declared.resource.Values.{Values}
use Rattle.vocabulary.specs.declared.resource.Resource.{Resource}
use Rattle.vocabulary.specs.Empty.{empty_remark}
use Rattle.charges.specs.Findings.{Meanings}
use Rattle.worked.specs.declared.hour.Steps.{Steps}

abbrev no_step : Step
no_step = step (pos 0) 0

-- a row that begins with the four steps
abbrev pub row_of : Steps → Row
row_of s = record {
  steps = slice_index_or s.list 0 no_step ∷ slice_index_or s.list 1 no_step ∷ slice_index_or s.list 2 no_step ∷ slice_index_or s.list 3 no_step ∷ replicate 16 no_step;
  count = s.count;
}

abbrev pub terms : ℕ → ℕ → Terms
terms percent limit = record { percent = percent; «cap» = limit; floor = pos 0 }

abbrev pub standing : ℕ → ℕ → Standing
standing entity set = record { entity = entity; multiplier = 1; energy = set; spinning = 0; non_spinning = 0; thirty_minute = 0 }

abbrev pub only_energy : Row → Values
only_energy row = record { curves = row ∷ empty_row ∷ empty_row ∷ empty_row ∷ []; amounts = replicate 4 None }

-- a resource with an energy offer and what belongs to it; the prices by run
abbrev pub energy_resource : Standing → Row → Row → Option ℕ → List (Option ℤ) → Resource
energy_resource s offer reference quantity prices = record {
  standing = Some s;
  offer = only_energy offer;
  reference = only_energy reference;
  quantities = quantity ∷ None ∷ None ∷ None ∷ [];
  prices = slice_index_or prices 0 None ∷ slice_index_or prices 1 None ∷ slice_index_or prices 2 None ∷ replicate 9 None;
  remark = empty_remark;
}

-- the market's own bounds in the four places
abbrev pub market : Meanings
market = record { curves = exempt_passes ceiling_passes; amounts = ceiling_passes; impacts = ceiling_passes; quantities = shortfall_passes }
