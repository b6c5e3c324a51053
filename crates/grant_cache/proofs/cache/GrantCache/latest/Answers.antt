use Rattle.std.proofs.Common.{◌≡◌, subst}
use Rattle.std.specs.Prelude.{Some, nat_eq}
use Rattle.std.specs.Map.{lookup}
use Rattle.lru.specs.LruCache.{promoted}
use Rattle.grant_cache.specs.Caches.{Cache}
use Rattle.grant_cache.specs.LatestEntries.{IsLatestOf}
use Rattle.grant_cache.proofs.Promoting.{lookup_first, promoted_first}
use Rattle.grant_cache.proofs.cache.GrantCache.latest.Goals as goal

pub returns-clause-found : goal.returns-clause-found
returns-clause-found c =
    subst (λ (k : Cache). Some c.in_ok-latest.latest.right ≡ lookup (nat_eq c.args.tag) k.entries) c.self.view_is
    (lookup_first c.self.inside.rights.entries c.args.tag _ _ (subst (IsLatestOf c.self.inside.rights.entries) c.in_ok-latest.was c.self.invariant.latest) c.if-latest-tag.false)

pub returns-clause-first : goal.returns-clause-first
returns-clause-first c =
    subst (λ (k : Cache). k.entries ≡ promoted (nat_eq c.args.tag) k.entries) c.self.view_is
    (promoted_first c.self.inside.rights.entries c.args.tag _ _ (subst (IsLatestOf c.self.inside.rights.entries) c.in_ok-latest.was c.self.invariant.latest) c.if-latest-tag.false)
