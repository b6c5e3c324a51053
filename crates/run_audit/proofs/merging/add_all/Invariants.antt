use Rattle.std.proofs.Common.{◌≡◌, ◌++◌, take}
use Rattle.run_audit.proofs.merging.add_all.Given as goal

abbrev pub invariant-loop-item : goal.invariant-loop-item
invariant-loop-item l = l.all.items ≡ l.fn.all.items ++ take l.item-index l.items
