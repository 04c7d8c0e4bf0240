use Rattle.std.proofs.Common.{get_or, is_some, sym, ap, ◌∙◌, arith}
use Rattle.std.proofs.lemmas.Bool.{cond-true, cond-false, lt-ltb, le-ltb}
use Rattle.std.specs.Option.{option_map}
use Rattle.curves.specs.declared.row.Row.{Row}
use Rattle.curves.specs.Curves.{steps_of}
use Rattle.curves.specs.Rows.{curve_in}
use Rattle.vocabulary.specs.Readings.{no_row}
use Rattle.bodies.specs.Bodies.{most_steps}
use Rattle.bodies.specs.Curves.{curve_bytes}
use Rattle.bodies.specs.Numbers.{number_bytes}
use Rattle.table.specs.Ranges.{amount_ranged, row_ranged}
use Rattle.table.specs.Holding.{values_hold}
use Rattle.table.proofs.Fullness.{some_mapped}
use Rattle.table.proofs.Records.{curve_changed, amount_changed}
use Rattle.table.proofs.record.clear_parameter.Goals as goal

pub returns-then-parameter-lt4 : goal.returns-then-parameter-lt4
unfolding values_hold
returns-then-parameter-lt4 c =
    let row = get_or c.args.values.now.curves c.args.parameter no_row in
    let empty = c.replace-row.ensures.after ∙ c.empty.ensures in
    let now = curve_changed c.args.values.now c.args.parameter _ _ (omega arith) (omega arith)
    (ap (λ (w : Row). option_map curve_bytes (curve_in (most_steps c.args.parameter) w)) empty) (ap row_ranged empty) in
    record {
      changed = now.changed;
      was = c.is_some.ensures ∙ some_mapped steps_of _ ∙ ap is_some (c.of_row.ensures.steps ∙ (λ i. curve_in (c.most_steps.ensures i) (c.replace-row.ensures.value i)))
          ∙ some_mapped curve_bytes _ ∙ ap is_some (sym (cond-true _ _ _ (lt-ltb c.args.parameter 4 (omega arith))));
      kept = now.kept;
    }

pub returns-else-parameter-lt4 : goal.returns-else-parameter-lt4
unfolding values_hold
returns-else-parameter-lt4 c =
    let empty = c.take.ensures.after in
    let now = amount_changed c.args.values.now c.args.parameter _ _ (omega arith) (omega arith) (ap (option_map number_bytes) empty) (ap amount_ranged empty) in
    record {
      changed = now.changed;
      was = c.is_some-else-parameter-lt4.ensures ∙ ap is_some c.take.ensures.value ∙ some_mapped number_bytes _ ∙ ap is_some (sym (cond-false _ _ _ (le-ltb c.args.parameter 4 (omega arith))));
      kept = now.kept;
    }
