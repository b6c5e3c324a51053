use Rattle.std.proofs.Common.{◌≡◌}
use Rattle.grant_cache.specs.Caches.{IsCacheOf}
use Rattle.unit_rights.proofs.grant_cache_tests.counts.Given as goal

abbrev pub invariant-loop-tag : goal.invariant-loop-tag
invariant-loop-tag l = record {
  of_sheet : IsCacheOf l.sheet l.cache;
  lookups : l.cache.count.lookups ≡ l.tag-index;
}
