use Rattle.std.proofs.Common.{[], ◌∷◌, ◌++◌, length, decimal, refl, ap, ◌∙◌, arith}
use Rattle.writers.specs.Buffers.{onto}
use Rattle.listing.proofs.Fronts.{Front, push, more}
use Rattle.listing.proofs.line.write_owed.Goals as goal

pub returns-clause-bytes : goal.returns-clause-bytes
returns-clause-bytes c =
    let old = c.args.out.now in
    let digits = c.write_decimal-at.ensures in
    let sums = ap (λ n. length (decimal n)) c.total.ensures in
    let none : Front [] old old 0 = record { here = refl; bytes = refl } in
    let two = more (push none 32 (omega arith)) _ _ _ digits.len digits.bytes in
    (push two 10 (omega arith)).bytes ∙ ap (λ n. onto (32 ∷ (decimal n ++ (10 ∷ []))) old) c.total.ensures
