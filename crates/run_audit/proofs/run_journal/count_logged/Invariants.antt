use Rattle.std.proofs.Common.{◌≡◌, take, length}
use Rattle.thread_laws.specs.Joining.{all_logged}
use Rattle.run_audit.proofs.run_journal.count_logged.Given as goal

abbrev pub invariant-loop-log : goal.invariant-loop-log
invariant-loop-log l = l.count ≡ length (all_logged (take l.log-index l.logs))
