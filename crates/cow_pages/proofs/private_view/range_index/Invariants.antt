use Rattle.cow_pages.proofs.RangeSearch.{NoneBefore}
use Rattle.cow_pages.proofs.private_view.range_index.Given as goal

abbrev pub invariant-loop-i : goal.invariant-loop-i
invariant-loop-i l = NoneBefore l.ranges l.address l.size l.i
