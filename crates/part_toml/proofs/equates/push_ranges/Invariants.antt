use Rattle.std.proofs.Common.{◌≡◌, ◌++◌, drop, map}
use Rattle.part_toml.specs.Parts.{range_equate}
use Rattle.part_toml.proofs.equates.push_ranges.Given as goal

abbrev pub invariant-loop-named : goal.invariant-loop-named
invariant-loop-named l = l.equates.items ++ map range_equate (drop l.named-index l.ranges) ≡ l.initial.equates.items ++ map range_equate l.ranges
