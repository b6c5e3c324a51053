use Rattle.std.proofs.Common.{◌≡◌, ◌++◌, drop, map}
use Rattle.wedge_base.specs.Sheets.{tag_granted}
use Rattle.grant_sheet.proofs.granting.tags_of.Given as goal

abbrev pub invariant-loop-tag : goal.invariant-loop-tag
invariant-loop-tag l = l.grants.items ++ map (tag_granted l.sheet l.made) (drop l.tag-index l.tags) ≡ map (tag_granted l.sheet l.made) l.tags
