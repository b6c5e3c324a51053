use Rattle.std.proofs.Common.{◌≡◌, ◌++◌, length, map}
use Rattle.std.specs.Vec.Iter.{into_iter_items, into_iter_len}
use Rattle.part_toml.proofs.reading.unnamed.Given as goal

abbrev pub invariant-loop-range : goal.invariant-loop-range
invariant-loop-range l = record {
  so_far : l.ranges ++ map (λ r. r.range) (into_iter_items l.range-iterator) ≡ map (λ r. r.range) (into_iter_items l.initial.range-iterator);
  counted : into_iter_len l.range-iterator ≡ length (into_iter_items l.range-iterator);
}
