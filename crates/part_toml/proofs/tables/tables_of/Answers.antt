use Rattle.std.proofs.Common.{List, ◌+◌, ◌++◌, drop, map, sym, ap, ◌∙◌}
use Rattle.toml.specs.Data.{Members, as_table}
use Rattle.toml.specs.View.{view, items_view, table_view}
use Rattle.part_toml.specs.Values.{tables_of}
use Rattle.part_toml.proofs.Lists.{tables_of-more, tables_of-end, map-pushed, map-kept}
use Rattle.part_toml.proofs.tables.tables_of.Goals as goal
use Rattle.part_toml.proofs.tables.tables_of.Goals.{in-Some+in_ok-push, in_default}

pub loop-item-preserved : goal.loop-item-preserved
loop-item-preserved c =
    let front = c.loop-item.tables.items in
    let seen = as_table (view c.item-item.result) in
    let rest = tables_of (items_view (drop (c.loop-item.item-index + 1) c.args.items.now)) in
    let more = tables_of-more (map (λ t. table_view t.now) front) c.args.items.now c.loop-item.item-index c.item-item.result c.loop-item-test.true c.item-item.is in
    elim c.match-as_table.branch [
      | in-Some+in_ok-push w ↦
          let pushed = ap (λ v. v.items) w.tables-is ∙ w.in_ok-push.ensures.items in
          ap (λ (ms : List Members). ms ++ rest) (map-pushed (λ t. table_view t.now) front c.as_table.result seen c.as_table.ensures _ w.in-Some.table w.in-Some.is pushed) ∙ more ∙ c.loop-item.invariant
      | in_default w ↦
          ap (λ v. map (λ t. table_view t.now) v.items ++ rest) w.tables-is
          ∙ ap (λ (ms : List Members). ms ++ rest) (map-kept (λ t. table_view t.now) front c.as_table.result seen c.as_table.ensures w.in_default.is) ∙ more ∙ c.loop-item.invariant
    ]

pub returns : goal.returns
returns c =
    sym (tables_of-end (map (λ t. table_view t.now) c.loop-item.tables.items) c.args.items.now c.loop-item.item-index c.loop-item-test.false)
    ∙ c.loop-item.invariant
