use Rattle.std.proofs.Common.{◌≡◌, drop, map, filter, fold, option_copied}
use Rattle.toml.specs.View.{table_view}
use Rattle.part_toml.specs.Keys.{name_of}
use Rattle.part_toml.specs.Faults.{lesser, least, is_wrong}
use Rattle.part_toml.proofs.checking.first_kind_fault.Given as goal

abbrev pub invariant-loop-field : goal.invariant-loop-field
invariant-loop-field l =
    fold lesser (option_copied l.best) (map (λ f. name_of f.key) (filter (is_wrong (table_view l.table)) (drop l.field-index l.fields))) ≡ least (map (λ f. name_of f.key) (filter (is_wrong (table_view l.table)) l.fields))
