use Rattle.std.proofs.Common.{◌≡◌, ◌++◌, drop, map}
use Rattle.thread_laws.specs.CacheLines.{counts_named}
use Rattle.run_audit.proofs.caches.counts_of.Given as goal

abbrev pub invariant-loop-line : goal.invariant-loop-line
invariant-loop-line l = l.counts.items ++ counts_named l.sorted.items (map (λ x. x.name) (drop l.line-index l.lines)) ≡ counts_named l.sorted.items (map (λ x. x.name) l.lines)
