use Rattle.std.proofs.Common.{◌≡◌, length}
use Rattle.unit_values.proofs.cow_pages_tests.table.Given as goal

abbrev pub invariant-loop-k : goal.invariant-loop-k
invariant-loop-k l = length l.pages ≡ 65536
