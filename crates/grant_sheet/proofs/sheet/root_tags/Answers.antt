use Rattle.grant_sheet.proofs.Keys.{tags_rising}
use Rattle.grant_sheet.proofs.sheet.root_tags.Goals as goal

pub from_entries-requires : goal.from_entries-requires
from_entries-requires c =
    let l = c.loop-tag in
    tags_rising l.grants.items c.args.tags.now l.number l.tag-index c.loop-tag-test.false l.invariant.made
