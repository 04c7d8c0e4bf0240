use Rattle.scripts.proofs.Cutting.{words_by}
use Rattle.scripts.proofs.texts.split_word.Goals as goal

pub returns : goal.returns
returns c = words_by c.args.text.now c.split_at_first.result c.split_at_first.ensures.test c.split_at_first.ensures.parts
