use Rattle.std.proofs.Common.{sym, subst}
use Rattle.grant_cache.specs.Caches.{IsCacheOf}
use Rattle.grant_cache.proofs.Keeping.{found_rights}
use Rattle.grant_cache.proofs.cache.GrantCache.peek_any.Goals as goal

pub returns-in-Some : goal.returns-in-Some
returns-in-Some c =
    found_rights c.args.sheet.now c.args.tag c.self.inside.rights.entries c.in-Some.right.now
    (subst (IsCacheOf c.args.sheet.now) (sym c.self.view_is) c.requires) c.in-Some.ensures
