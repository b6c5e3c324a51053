use Rattle.thread_laws.proofs.CacheLines.{caches_are_counted}
use Rattle.thread_laws.proofs.laws.caches_are_counted.Goals as goal

pub returns : goal.returns
returns c = caches_are_counted
