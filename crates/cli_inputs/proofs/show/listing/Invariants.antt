use Rattle.std.proofs.Common.{◌≡◌, ◌+◌, ◌*◌, ◌≤◌, ◌++◌, drop, length}
use Rattle.cli_inputs.specs.Listing.{lines_from}
use Rattle.cli_inputs.proofs.show.listing.Given as goal

-- The lines so far were added, and those of the other words follow; no address goes around.
abbrev pub invariant-loop-word : goal.invariant-loop-word
invariant-loop-word l = record {
  at : l.address ≡ l.image.base + 4 * l.word-index;
  low : l.image.base + 4 * length l.word-items ≤ 0x10000000;
  so_far : l.out.items ++ lines_from l.image l.address (drop l.word-index l.word-items) ≡ lines_from l.image l.image.base l.word-items;
}
