use Rattle.std.proofs.Common.{◌≡◌, drop, map}
use Rattle.toml.specs.View.{table_view}
use Rattle.part_toml.specs.Faults.{tables_fault}
use Rattle.part_toml.proofs.checking.check_all.Given as goal

abbrev pub invariant-loop-table : goal.invariant-loop-table
invariant-loop-table l =
    tables_fault l.part (map (λ t. table_view t.now) (drop l.table-index l.tables)) ≡ tables_fault l.part (map (λ t. table_view t.now) l.tables)
