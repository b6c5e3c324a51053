use Rattle.std.proofs.Common.{◌≡◌, ◌+◌, take, length}
use Rattle.thread_laws.specs.KeptEntries.{all_kept}
use Rattle.run_audit.proofs.merging.index_after.Given as goal

abbrev pub invariant-loop-log : goal.invariant-loop-log
invariant-loop-log l = l.index ≡ l.first + length (all_kept (take l.log-index l.logs))
