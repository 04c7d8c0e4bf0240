use Rattle.std.proofs.Common.{vec_items, ap, ◌∙◌, subst, arith}
use Rattle.scripts.specs.Scripts.{ReadCall}
use Rattle.scripts.proofs.Gathering.{begins, goes_on}
use Rattle.scripts.proofs.reader.read_script.Goals as goal

pub loop-i-init : goal.loop-i-init
loop-i-init c =
    let same = c.into_iter-i-iterator.ensures.into_iter_gives in
    let lines = ap (λ e. e.iter) same ∙ c.enumerate-i-items.ensures.source in
    let none = ap (λ e. e.count) same ∙ c.enumerate-i-items.ensures.count in
    begins c.args.above c.args.text.now _ _ _ _ (ap (λ l. l.rest.now) lines ∙ c.lines_in.ensures) c.new-calls.ensures.items (omega arith)

pub loop-i-preserved : goal.loop-i-preserved
loop-i-preserved c =
    let line = c.in-Some.line.now in
    let was = vec_items c.loop-i.bytes in
    let store = vec_items c.read_call.new.store in
    let step = c.in-Some.ensures.steps in
    let read = subst (ReadCall line was store) c.in-Some-2.is c.in_ok-call.ensures in
    let one = step.2 in
    goes_on c.loop-i.invariant line c.next.new.self.iter.rest.now store step.0 c.in-Some-2.call (vec_items c.push.new.self) read c.in_ok-push.ensures.items _ (omega arith)
