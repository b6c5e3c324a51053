use Rattle.grant_cache.proofs.Keeping.{found_rights}
use Rattle.grant_cache.proofs.cache.GrantCache.given.Goals as goal

pub returns-in-Some : goal.returns-in-Some
returns-in-Some c =
    found_rights c.args.sheet.now c.args.tag c.args.self.now.entries c.in-Some.right c.requires c.in-Some.ensures.found
