use Rattle.std.proofs.Common.{◌≡◌, ◌<◌, vec_len, vec_items, get_or, ◌∙◌, arith}
use Rattle.std.proofs.lemmas.List.{get_or_default}
use Rattle.scripts.specs.Ranges.{taken_from}
use Rattle.scripts.specs.Scripts.{calls_in}
use Rattle.scripts.specs.declared.scripted.Scripted.TheVariants.{Post}
use Rattle.scripts.proofs.Taking.{count, one_within, one_said, one_listed}
use Rattle.scripts.proofs.script.Script.list.Goals as goal

pub in_store-requires : goal.in_store-requires
in_store-requires c =
    let i = c.loop-call.call-index in
    let calls = vec_items c.args.self.now.calls in
    let call = get_or calls i (Post 0 0) in
    let long = c.args.self.now.calls.ok.0 in
    let len = c.deref-call-items.ensures.len in
    let less : i < vec_len c.args.self.now.calls = omega (arith, c.loop-call-test.true) in
    let is : call ≡ get_or calls i call = get_or_default calls i (Post 0 0) call (omega arith) in
    rw (c.as_slice.ensures.value, c.deref-call-items.ensures.value) (one_within c.args.self.now i call less is)

pub loop-call-preserved : goal.loop-call-preserved
loop-call-preserved c =
    let i = c.loop-call.call-index in
    let calls = vec_items c.args.self.now.calls in
    let call = get_or calls i (Post 0 0) in
    let long = c.args.self.now.calls.ok.0 in
    let len = c.deref-call-items.ensures.len in
    let n = count c.args.self.now in
    let less : i < vec_len c.args.self.now.calls = omega (arith, c.loop-call-test.true) in
    let is : call ≡ get_or calls i call = get_or_default calls i (Post 0 0) call (omega arith) in
    let said = c.in_store.ensures ∙ (λ j. taken_from (c.as_slice.ensures.value j) (get_or (c.deref-call-items.ensures.value j) i (Post 0 0))) ∙ one_said c.args.self.now i call less is in
    one_listed (calls_in c.args.self.now) (vec_items c.loop-call.list) (vec_items c.push.new.self) i c.in_store.result c.loop-call.invariant (omega arith) said c.in_ok-push.ensures.items
