use Rattle.std.proofs.Common.{sym, ◌∙◌, arith}
use Rattle.std.proofs.lemmas.Result.{err_from_is_err_and}
use Rattle.scripts.proofs.Pairs.{written_is_hex, written_again, all_written}
use Rattle.scripts.proofs.hex.write_hex.Goals as goal

pub returns-in_err-write_byte : goal.returns-in_err-write_byte
returns-in_err-write_byte c =
    let p = err_from_is_err_and c.from_residual.result c.from_residual.ensures.1 in
    let bytes = c.args.bytes.now in
    rw p.1 (record {
      text = tt;
      again = (written_is_hex bytes (λ i. omega (arith, c.type_inv.bytes i)), written_again bytes (λ i. omega (arith, c.type_inv.bytes i)));
    })

pub returns : goal.returns
returns c =
    let bytes = c.args.bytes.now in
    record {
      text = sym (all_written bytes _ c.loop-byte.byte-index c.loop-byte-test.false) ∙ c.loop-byte.invariant;
      again = (written_is_hex bytes (λ i. omega (arith, c.type_inv.bytes i)), written_again bytes (λ i. omega (arith, c.type_inv.bytes i)));
    }
