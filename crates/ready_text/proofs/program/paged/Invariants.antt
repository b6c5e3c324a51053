use Rattle.std.proofs.Common.{◌≡◌, take}
use Rattle.ready_text.proofs.program.paged.Given as goal

abbrev pub invariant-loop-range : goal.invariant-loop-range
invariant-loop-range l = l.pages.items ≡ take l.range-index l.ranges
