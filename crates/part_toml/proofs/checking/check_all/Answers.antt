use Rattle.std.proofs.Common.{sym, subst, ◌∙◌}
use Rattle.std.proofs.lemmas.Result.{err_from_is_err_and}
use Rattle.toml.specs.View.{table_view}
use Rattle.part_toml.specs.Partition.{Reports}
use Rattle.part_toml.proofs.Told.{tables_more, tables_told, tables_end}
use Rattle.part_toml.proofs.checking.check_all.Goals as goal

pub returns-in_err-check_table : goal.returns-in_err-check_table
returns-in_err-check_table c =
    let p = err_from_is_err_and c.from_residual.result c.from_residual.ensures.1 in
    rw (p.1, p.2) (
    subst (Reports c.in_err-check_table.field-0.0) c.loop-table.invariant (
    tables_told (λ t. table_view t.now) c.args.part c.args.tables.now c.loop-table.table-index c.table-item.result _ c.loop-table-test.true c.table-item.is c.in_err-check_table.ensures))

pub loop-table-preserved : goal.loop-table-preserved
loop-table-preserved c =
    sym (tables_more (λ t. table_view t.now) c.args.part c.args.tables.now c.loop-table.table-index c.table-item.result c.loop-table-test.true c.table-item.is c.in_ok-check_table.ensures)
    ∙ c.loop-table.invariant

pub returns : goal.returns
returns c =
    sym c.loop-table.invariant
    ∙ tables_end (λ t. table_view t.now) c.args.part c.args.tables.now c.loop-table.table-index c.loop-table-test.false
