use Rattle.std.proofs.Common.{◌≡◌, map, filter, fold, not, option_copied, string_bytes}
use Rattle.toml.specs.View.{table_view}
use Rattle.part_toml.specs.Faults.{lesser, unknown, is_field_name}
use Rattle.part_toml.proofs.checking.least_unknown.Given as goal

abbrev pub invariant-loop-key : goal.invariant-loop-key
invariant-loop-key l =
    fold lesser (option_copied l.best) (filter (λ n. not (is_field_name l.fields n)) (map string_bytes l.key-iterator)) ≡ fold lesser (option_copied l.first) (unknown l.fields (table_view l.table))
