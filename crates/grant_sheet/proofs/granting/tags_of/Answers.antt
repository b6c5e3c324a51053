use Rattle.grant_sheet.proofs.Keys.{granted_rising}
use Rattle.grant_sheet.proofs.granting.tags_of.Goals as goal

pub from_entries-requires : goal.from_entries-requires
from_entries-requires c =
    granted_rising c.args.sheet.now c.args.made.now c.loop-tag.grants.items c.args.tags.now c.loop-tag.tag-index c.loop-tag-test.false c.loop-tag.invariant c.requires
