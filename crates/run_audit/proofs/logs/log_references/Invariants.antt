use Rattle.std.proofs.Common.{◌≡◌, take}
use Rattle.run_audit.proofs.logs.log_references.Given as goal

abbrev pub invariant-loop-log : goal.invariant-loop-log
invariant-loop-log l = l.all.items ≡ take l.log-index l.logs
