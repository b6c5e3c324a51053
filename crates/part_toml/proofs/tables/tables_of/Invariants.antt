use Rattle.std.proofs.Common.{◌≡◌, ◌++◌, drop, map}
use Rattle.toml.specs.View.{items_view, table_view}
use Rattle.part_toml.specs.Values.{tables_of}
use Rattle.part_toml.proofs.tables.tables_of.Given as goal

abbrev pub invariant-loop-item : goal.invariant-loop-item
invariant-loop-item l =
    map (λ t. table_view t.now) l.tables.items ++ tables_of (items_view (drop l.item-index l.items)) ≡ tables_of (items_view l.items)
