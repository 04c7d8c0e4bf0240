use Rattle.scripts.proofs.Cutting.{five_words}
use Rattle.scripts.proofs.command.read_command.Goals as goal

pub returns-in-Some-split_word-2 : goal.returns-in-Some-split_word-2
returns-in-Some-split_word-2 c =
    five_words c.args.line.now _ _ _ _ c.in-Some.rest.now c.in-Some-split_word.rest.now c.in_ok-first.sub.now c.in-Some-split_word-2.field-0.1.now
    c.in-Some.ensures c.in-Some-split_word.ensures c.in_ok-first.ensures c.in-Some-split_word-2.ensures
