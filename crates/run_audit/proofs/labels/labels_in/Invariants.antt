use Rattle.std.proofs.Common.{◌≡◌, ◌++◌, drop}
use Rattle.thread_laws.specs.Joining.{labels_in}
use Rattle.run_audit.proofs.labels.labels_in.Given as goal

abbrev pub invariant-loop-item : goal.invariant-loop-item
invariant-loop-item l = l.all.items ++ labels_in (drop l.item-index l.logs) ≡ labels_in l.logs
