use Rattle.std.proofs.Common.{◌<◌, length, get_or, vec_len, sym, ap, ◌∙◌, arith}
use Rattle.std.proofs.lemmas.Bool.{ltb-true, ltb-false}
use Rattle.scripts.specs.Ranges.{taken_from, within}
use Rattle.scripts.proofs.Taking.{count, one_within, one_said}
use Rattle.scripts.proofs.script.Script.get.Goals as goal

pub returns-in_err-call : goal.returns-in_err-call
returns-in_err-call c =
    let n = count c.args.self.now in
    let long = ltb-false _ _ (sym c.in_err-call.ensures.lookup.0) in
    rw (c.from_residual.ensures) (let l = c.deref.ensures.len in omega arith)

pub in_store-requires : goal.in_store-requires
in_store-requires c =
    let call = c.in_ok-call.call.now in
    let less : c.args.index < vec_len c.args.self.now.calls = let h = ltb-true _ _ (sym c.in_ok-call.ensures.lookup.0) in let l = c.deref.ensures.len in omega arith in
    ap (λ l. within (length l) call) c.as_slice.ensures.value ∙ one_within c.args.self.now c.args.index call less (c.in_ok-call.ensures.lookup.1 ∙ ap (λ l. get_or l c.args.index call) c.deref.ensures.value)

pub returns : goal.returns
returns c =
    let call = c.in_ok-call.call.now in
    let n = count c.args.self.now in
    let less : c.args.index < vec_len c.args.self.now.calls = let h = ltb-true _ _ (sym c.in_ok-call.ensures.lookup.0) in let l = c.deref.ensures.len in omega arith in
    (omega arith, c.in_store.ensures ∙ ap (λ l. taken_from l call) c.as_slice.ensures.value ∙ one_said c.args.self.now c.args.index call less (c.in_ok-call.ensures.lookup.1 ∙ ap (λ l. get_or l c.args.index call) c.deref.ensures.value))
