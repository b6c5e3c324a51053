use Rattle.std.proofs.Common.{rules}
use Rattle.std.proofs.lemmas.List.Sorted.{answers_always}
use Rattle.stable_sort.proofs.Sorted.{is_sorted}
use Rattle.stable_sort.proofs.order.sort.Goals as goal

pub returns-clause-sorted : goal.returns-clause-sorted
returns-clause-sorted g c =
    let before = g.T.Sortable.comes_before in
    let order = g.met.T.Sortable.is_order in
    let compares = answers_always _ _ _ (λ f a r q k. search rules) in
    is_sorted before order c.args.items.now.items _ (c.in_ok-sort_by.ensures.sorted before order compares) (c.in_ok-sort_by.ensures.stable before order compares)
