use Rattle.std.proofs.Common.{length}
use Rattle.run_audit.proofs.merging.+logs_merged.Given as goal

abbrev pub decreases-logs_merged : goal.decreases-logs_merged
decreases-logs_merged l = length l.logs.now
