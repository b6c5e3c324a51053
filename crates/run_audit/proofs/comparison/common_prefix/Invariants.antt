use Rattle.std.proofs.Common.{◌≡◌, ◌≤◌, ◌-◌, take, map, length}
use Rattle.run_audit.specs.HistoryEntries.{kept_as}
use Rattle.run_audit.proofs.comparison.common_prefix.Given as goal

abbrev pub invariant-loop-index : goal.invariant-loop-index
invariant-loop-index l = (l.index ≤ length l.kept) × (l.index ≤ length l.logged) × (take l.index (map kept_as l.kept) ≡ take l.index l.logged)

abbrev pub decreases-loop-index : goal.decreases-loop-index
decreases-loop-index l = length l.kept - l.index
