use Rattle.std.proofs.Common.{◌≡◌}
use Rattle.std.specs.List.{flat_map, range_with_len}
use Rattle.std.specs.Int.{w32, to_le_bytes}
use Rattle.workload.specs.Workload.{input_word}
use Rattle.workload.proofs.generating.input_bytes.Given as goal

abbrev pub invariant-loop-i : goal.invariant-loop-i
invariant-loop-i l = l.bytes.items ≡ flat_map (λ i. to_le_bytes w32 (input_word l.workers i)) (range_with_len 0 l.i)
