use Rattle.std.proofs.Common.{rules}
use Rattle.std.proofs.lemmas.List.Sorted.{answers_always}
use Rattle.curves.specs.Steps.{rises}
use Rattle.curves.proofs.Walks.{in_order_answer}
use Rattle.curves.proofs.order.in_order.Goals as goal

pub returns : goal.returns
returns c = in_order_answer _ _ (c.is_sorted_by.ensures.cases rises (answers_always _ _ _ (λ a r q k. search rules)))
