-- What slots say: the lines, and each resource's own records.
use Rattle.std.specs.Prelude.{ℕ, ◌+◌, ◌*◌, cond, List, Some, None, Option, ◌==◌, slice_index_or}
use Rattle.std.specs.Option.{option_map}
use Rattle.bounds.specs.declared.line.Line.{Line}
use Rattle.bounds.specs.Lines.{line_of}
use Rattle.vocabulary.specs.Numbers.{product_number, condition_number, amount_number, test_number, run_number}
use Rattle.vocabulary.specs.Readings.{Levels, Own, Lines}
use Rattle.bodies.specs.Numbers.{word, number}
use Rattle.bodies.specs.Curves.{curve_steps}
use Rattle.bodies.specs.Bodies.{terms_of, standing_of}
use Rattle.entries.specs.Entries.{head}
use Rattle.entries.specs.Files.{head_fault}
use Rattle.entries.specs.Table.{kinds}
use Rattle.ledger.specs.Slots.{Slots, place}
use Rattle.ledger.specs.Views.{Holding}

-- the body in the slot of a head, none where there is no such slot
unfoldable pub held : Slots → Holding
held s h = cond (head_fault kinds h == 0) (slice_index_or s (place kinds h) None) None

abbrev pub slot : Slots → ℕ → ℕ → ℕ → Option (List ℕ)
slot s kind first sub = held s (head kind first sub)

abbrev pub line_in : Option (List ℕ) → Option Line
line_in None = None
line_in (Some body) = line_of (terms_of body).percent (terms_of body).«cap» (terms_of body).floor

abbrev pub lines : Slots → Lines
lines s = λ condition test. line_in (slot s 1 (condition_number condition) (test_number test))

-- kind 3 for a resource's offer, 4 for its reference; curves come before amounts
abbrev pub levels : Slots → ℕ → ℕ → Levels
levels s kind resource = record {
  curve = λ product. option_map curve_steps (slot s kind resource (product_number product));
  amount = λ amount. option_map number (slot s kind resource (4 + amount_number amount));
}

abbrev pub own : Slots → ℕ → Own
own s resource = record {
  standing = option_map standing_of (slot s 2 resource 0);
  offer = levels s 3 resource;
  reference = levels s 4 resource;
  quantity = λ product. option_map word (slot s 5 resource (product_number product));
  price = λ product run. option_map number (slot s 6 resource (3 * product_number product + run_number run));
}
