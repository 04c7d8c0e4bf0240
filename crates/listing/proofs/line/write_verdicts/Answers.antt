use Rattle.answers.specs.Lines.{two_digits}
use Rattle.listing.proofs.Fronts.{Front}
use Rattle.listing.proofs.Lining.{group}
use Rattle.listing.proofs.line.write_verdicts.Goals as goal

pub returns-clause-bytes : goal.returns-clause-bytes
returns-clause-bytes c =
    let a = c.args.answer.now in
    let start = c.write_bytes-at.ensures in
    let number : Front (two_digits c.args.resource) c.args.out.now c.write_bytes-at.new.out c.write_bytes-at.result = record { here = start.len; bytes = start.bytes } in
    let one = group number a.conduct _ _ c.write_letters-at.ensures.len c.write_letters-at.ensures.bytes in
    let two = group one a.impact _ _ c.write_letters-at-2.ensures.len c.write_letters-at-2.ensures.bytes in
    let three = group two a.resource _ _ c.write_letters-at-3.ensures.len c.write_letters-at-3.ensures.bytes in
    let four = group three a.entity _ _ c.write_letters-at-4.ensures.len c.write_letters-at-4.ensures.bytes in
    let five = group four a.quantity_impact _ _ c.write_letters.ensures.len c.write_letters.ensures.bytes in
    five.bytes
