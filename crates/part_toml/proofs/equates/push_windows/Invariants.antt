use Rattle.std.proofs.Common.{◌≡◌, ◌++◌, drop}
use Rattle.part_toml.specs.Parts.{numbered_equates, window_equate}
use Rattle.part_toml.proofs.equates.push_windows.Given as goal

abbrev pub invariant-loop-tag : goal.invariant-loop-tag
invariant-loop-tag l = l.equates.items ++ numbered_equates window_equate l.place (drop l.tag-index l.tags) ≡ l.initial.equates.items ++ numbered_equates window_equate 0 l.tags
