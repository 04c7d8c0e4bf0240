use Rattle.std.proofs.Common.{◌/◌, ◌++◌, length, map, vec_items, refl, ap, ◌∙◌}
use Rattle.std.proofs.lemmas.List.{take_all}
use Rattle.scripts.proofs.Pairs.{pair_value, pairs_said}
use Rattle.scripts.proofs.hex.decode.Goals as goal

pub returns : goal.returns
returns c =
    let said = ap (map pair_value) (take_all c.loop-high.high-index _ c.loop-high-test.false ∙ c.as_chunks.ensures.front) ∙ pairs_said (length c.args.hex.now / 2) c.args.hex.now refl in
    c.loop-high.invariant ∙ ap (λ l. vec_items c.args.out.now ++ l) said
