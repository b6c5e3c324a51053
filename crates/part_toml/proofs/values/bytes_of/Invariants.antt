use Rattle.std.proofs.Common.{◌≡◌, ◌++◌, length}
use Rattle.part_toml.specs.Values.{hex_bytes}
use Rattle.part_toml.proofs.values.bytes_of.Given as goal

abbrev pub invariant-loop-rest : goal.invariant-loop-rest
invariant-loop-rest l = l.bytes ++ hex_bytes l.rest ≡ hex_bytes l.text

abbrev pub decreases-loop-rest : goal.decreases-loop-rest
decreases-loop-rest l = length l.rest
