-- The order of ranges is an order: one way, and in chains.
use Rattle.std.specs.Cmp.{IsStrictWeakOrder}
use Rattle.std.proofs.lemmas.List.Sorted.{IsStrictWeakOrder-by_number}
use Rattle.part_toml.specs.Parts.{range_before}

pub range_order : IsStrictWeakOrder range_before
range_order = IsStrictWeakOrder-by_number (λ r. r.range.base)
