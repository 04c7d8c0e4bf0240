use Rattle.std.proofs.Common.{sym, ◌∙◌, arith, rules}
use Rattle.answers.specs.Lines.{verdicts_of, owed, line_of}
use Rattle.writers.proofs.Lending.{behind}
use Rattle.listing.proofs.Lining.{length_verdicts, length_line}
use Rattle.listing.proofs.line.write_line.Goals as goal

pub write_verdicts-at-requires : goal.write_verdicts-at-requires
write_verdicts-at-requires c = let l = length_line c.args.resource c.args.answer.now in search rules

pub write_owed-requires : goal.write_owed-requires
write_owed-requires c = let l = length_line c.args.resource c.args.answer.now in search rules

pub returns : goal.returns
unfolding line_of
returns c =
    let a = c.args.answer.now in
    let l = length_line c.args.resource a in
    let start = c.write_verdicts-at.ensures in
    record {
      len = omega arith;
      bytes = behind c.args.out.now _ _ (verdicts_of c.args.resource a) (owed a.charges) _ (start.len ∙ sym (length_verdicts c.args.resource a)) start.bytes c.write_owed.ensures.bytes;
    }
