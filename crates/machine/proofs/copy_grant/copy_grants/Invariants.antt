use Rattle.std.proofs.Common.{◌≡◌, ◌++◌, drop, map}
use Rattle.wedge_base.specs.Sheets.{tag_granted}
use Rattle.machine.specs.CopyGrant.{copy_grants}
use Rattle.machine.proofs.copy_grant.copy_grants.Given as goal

abbrev pub invariant-loop-number : goal.invariant-loop-number
invariant-loop-number l = l.grants.items ++ copy_grants (map (tag_granted l.sheet l.made) (drop l.number-index l.tags)) ≡ copy_grants (map (tag_granted l.sheet l.made) l.tags)
