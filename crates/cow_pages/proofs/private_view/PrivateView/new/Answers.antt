use Rattle.std.proofs.Common.{◌∙◌, ◌++◌, ◌≤◌, length, append-nil, sym, ap, subst, arith}
use Rattle.std.proofs.lemmas.List.{drop_all}
use Rattle.cow_pages.specs.Below.{AreBelow}
use Rattle.cow_pages.proofs.BelowWindows.{opening_below}
use Rattle.cow_pages.proofs.private_view.PrivateView.new.Goals as goal

pub invariant_of-result : goal.invariant_of-result
invariant_of-result c =
    let items = c.args.data_ranges.now in
    let out : length items ≤ c.loop-range.range-index = omega arith in
    let done = sym (append-nil c.loop-range.ranges.items) ∙ ap (λ rs. c.loop-range.ranges.items ++ rs) (sym (drop_all c.loop-range.range-index items out)) in
    (subst AreBelow (sym (done ∙ c.loop-range.invariant)) (opening_below items c.requires), c.new.ensures.ordered)
