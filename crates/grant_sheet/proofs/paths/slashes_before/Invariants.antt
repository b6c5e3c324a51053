use Rattle.std.proofs.Common.{◌≡◌, ◌+◌, drop}
use Rattle.grant_sheet.specs.Paths.{slashes_before}
use Rattle.grant_sheet.proofs.paths.slashes_before.Given as goal

abbrev pub invariant-loop-i : goal.invariant-loop-i
invariant-loop-i l = l.i + slashes_before (drop l.i l.path) ≡ slashes_before l.path
