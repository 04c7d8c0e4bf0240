use Rattle.std.proofs.Common.{ap, ◌∙◌, arith, length-drop, length-take}
use Rattle.entries.specs.Files.{mark}
use Rattle.writers.specs.Buffers.{onto}
use Rattle.files.specs.Placing.{all_entries}
use Rattle.writers.proofs.Lending.{behind}
use Rattle.files.proofs.Drawn.{file_drawn, file_length}
use Rattle.files.proofs.file.write_whole.Goals as goal

pub write_mark-at-requires : goal.write_mark-at-requires
write_mark-at-requires g c = let whole = file_length (g.S.Slots.holding c.args.slots.now) in omega arith

pub write_entries-requires : goal.write_entries-requires
write_entries-requires g c =
    let whole = file_length (g.S.Slots.holding c.args.slots.now) in
    simp (length-take, length-drop) (omega arith)

pub returns : goal.returns
returns g c =
    let holding = g.S.Slots.holding c.args.slots.now in
    let whole = file_length holding in
    record {
      len = omega arith;
      bytes =
          behind c.args.out.now _ _ mark (all_entries holding) _ c.write_mark-at.ensures.len c.write_mark-at.ensures.bytes c.write_entries.ensures.bytes
          ∙ ap (λ bs. onto bs c.args.out.now) (file_drawn holding);
    }
