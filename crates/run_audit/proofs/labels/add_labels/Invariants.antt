use Rattle.std.proofs.Common.{◌≡◌, ◌++◌, take}
use Rattle.run_audit.proofs.labels.add_labels.Given as goal

abbrev pub invariant-loop-label : goal.invariant-loop-label
invariant-loop-label l = l.all.items ≡ l.fn.all.items ++ take l.label-index l.labels
