use Rattle.std.proofs.Common.{sym, ap, ◌∙◌, w32, SFits, of_z, rules}
use Rattle.std.proofs.lemmas.Int.{to_z-of_z}
use Rattle.bodies.specs.Bodies.{terms_of}
use Rattle.bodies.specs.Numbers.{word, number_bytes}
use Rattle.writers.proofs.Spelling.{three_words}
use Rattle.bodies.proofs.Backs.{terms_back}
use Rattle.writers.proofs.body.line_bytes.Goals as goal

pub returns : goal.returns
returns c =
    let t = c.args.terms.now in
    let f : SFits w32 t.floor = search rules in
    let floor = c.number_bytes.ensures.value ∙ ap number_bytes (to_z-of_z w32 t.floor f) in
    let spelled = three_words _ _ t.percent t.«cap» c.word_bytes.ensures.value c.word_bytes-2.ensures.value _ (of_z w32 t.floor) floor in
    let percent = ap word (sym c.word_bytes.ensures.value) ∙ c.word_bytes.ensures.back in
    let limit = ap word (sym c.word_bytes-2.ensures.value) ∙ c.word_bytes-2.ensures.back in
    record { bytes = spelled; back = ap terms_of spelled ∙ terms_back t percent limit f }
