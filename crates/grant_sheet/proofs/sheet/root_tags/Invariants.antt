use Rattle.std.proofs.Common.{◌≡◌, ◌++◌, drop}
use Rattle.wedge_base.specs.Sheets as sheets
use Rattle.grant_sheet.proofs.sheet.root_tags.Given as goal

-- the number of the next tag is its index, and its grants and those of the tags after it are missing
abbrev pub invariant-loop-tag : goal.invariant-loop-tag
invariant-loop-tag l = record {
  index : l.number ≡ l.tag-index;
  made : l.grants.items ++ sheets.root_tags l.number (drop l.tag-index l.tags) ≡ sheets.root_tags 0 l.tags;
}
