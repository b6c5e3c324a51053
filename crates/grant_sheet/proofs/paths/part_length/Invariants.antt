use Rattle.std.proofs.Common.{◌≡◌, ◌+◌, drop}
use Rattle.grant_sheet.specs.Paths.{part_length}
use Rattle.grant_sheet.proofs.paths.part_length.Given as goal

abbrev pub invariant-loop-i : goal.invariant-loop-i
invariant-loop-i l = l.i + part_length (drop l.i l.path) ≡ part_length l.path
