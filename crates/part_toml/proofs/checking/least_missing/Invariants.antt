use Rattle.std.proofs.Common.{◌≡◌, drop, fold, option_copied}
use Rattle.toml.specs.View.{table_view}
use Rattle.part_toml.specs.Faults.{lesser, missing}
use Rattle.part_toml.proofs.checking.least_missing.Given as goal

abbrev pub invariant-loop-field : goal.invariant-loop-field
invariant-loop-field l =
    fold lesser (option_copied l.best) (missing (drop l.field-index l.fields) (table_view l.table)) ≡ fold lesser (option_copied l.first) (missing l.fields (table_view l.table))
