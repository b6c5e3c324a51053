use Rattle.std.proofs.Common.{ℕ, [], ◌∷◌, ◌++◌, subst}
use Rattle.grant_cache.specs.Caches.{sheet_right}
use Rattle.grant_cache.specs.Hits.{IsAfter}
use Rattle.grant_cache.proofs.Keeping.{look_up_keeps}
use Rattle.grant_cache.proofs.Counting.{look_up_counts}
use Rattle.grant_cache.proofs.cache.GrantCache.note.Goals as goal

pub returns-clause-of_sheet : goal.returns-clause-of_sheet
returns-clause-of_sheet c =
    look_up_keeps c.args.sheet.now c.tag.inside.0 c.args.self.now c.note_number.new.self c.requires.of_sheet c.note_number.ensures.looked_up

pub returns-clause-after : goal.returns-clause-after
returns-clause-after c tags was =
    subst (λ (t : ℕ). IsAfter (tags ++ t ∷ []) c.note_number.new.self) c.tag.view_is
    (look_up_counts c.tag.inside.0 tags c.args.self.now (sheet_right c.args.sheet.now c.tag.inside.0) c.note_number.new.self
    c.note_number.ensures.capacity c.note_number.ensures.looked_up was)
