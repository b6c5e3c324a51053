use Rattle.std.proofs.Common.{◌≡◌, length}
use Rattle.wedge_base.specs.Paths.{under}
use Rattle.grant_sheet.proofs.paths.is_under.Given as goal

abbrev pub invariant-loop-part : goal.invariant-loop-part
invariant-loop-part l = under l.root_left l.path_left ≡ under l.root l.path

abbrev pub decreases-loop-part : goal.decreases-loop-part
decreases-loop-part l = length l.root_left
