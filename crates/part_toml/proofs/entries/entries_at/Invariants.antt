use Rattle.std.proofs.Common.{◌≡◌, ◌++◌, drop, map}
use Rattle.toml.specs.View.{table_view}
use Rattle.part_toml.proofs.entries.entries_at.Given as goal

abbrev pub invariant-loop-table : goal.invariant-loop-table
invariant-loop-table g l =
    l.entries.items ++ map g.T.Entry.entry_of (map (λ t. table_view t.now) (drop l.table-index l.table-items)) ≡ map g.T.Entry.entry_of (map (λ t. table_view t.now) l.table-items)
