use Rattle.std.proofs.Common.{◌+◌, Option, sym, subst, ◌∙◌}
use Rattle.wedge_base.specs.declared.rights.Right.{Right}
use Rattle.grant_cache.specs.declared.count.CacheCount.{CacheCount}
use Rattle.grant_cache.specs.Caches.{Cache, IsLookedUp, sheet_right}
use Rattle.grant_cache.proofs.Looking.{cache_of, look_up_refused, look_up_put}
use Rattle.grant_cache.proofs.cache.GrantCache.note_any.Goals as goal

pub returns-in-Ok : goal.returns-in-Ok
returns-in-Ok c =
    let counts : CacheCount = record { lookups = c.self.inside.count.lookups + 1; hits = c.self.inside.count.hits; refused = c.self.inside.count.refused } in
    record {
      looked_up = subst (λ (k : Cache). IsLookedUp (sheet_right c.args.sheet.now c.args.tag) c.args.tag k (cache_of c.put.new.self counts)) c.self.view_is
          (subst (λ (g : Option Right). IsLookedUp g c.args.tag (cache_of c.self.inside.rights c.self.inside.count) (cache_of c.put.new.self counts))
          c.sheet_right.ensures
          (look_up_put c.args.tag c.sheet_right.result c.self.inside.rights c.self.inside.count (sym c.promote.ensures.value ∙ c.if-promote.false)
          c.promote.new.self c.put.new.self c.promote.ensures.entries c.in-Ok.ensures.entries));
    }

pub returns-in-Err : goal.returns-in-Err
returns-in-Err c =
    let counts : CacheCount = record { lookups = c.self.inside.count.lookups + 1; hits = c.self.inside.count.hits; refused = c.self.inside.count.refused + 1 } in
    record {
      looked_up = subst (λ (k : Cache). IsLookedUp (sheet_right c.args.sheet.now c.args.tag) c.args.tag k (cache_of c.put.new.self counts)) c.self.view_is
          (look_up_refused c.args.tag (sheet_right c.args.sheet.now c.args.tag) c.self.inside.rights c.self.inside.count (sym c.promote.ensures.value ∙ c.if-promote.false)
          c.promote.new.self c.put.new.self c.promote.ensures.entries c.in-Err.ensures.err);
    }
