use Rattle.std.proofs.Common.{◌+◌, drop, map, filter, fold, sym, ap, ◌∙◌}
use Rattle.std.specs.Option.{option_copied}
use Rattle.toml.specs.View.{table_view}
use Rattle.part_toml.specs.Keys.{name_of}
use Rattle.part_toml.specs.Faults.{lesser, least, is_wrong}
use Rattle.part_toml.proofs.Least.{same_choice, least_more, least_end}
use Rattle.part_toml.proofs.checking.first_kind_fault.Goals as goal

pub loop-field-preserved : goal.loop-field-preserved
loop-field-preserved c =
    let fs = c.fields-fields.result.now in
    let ms = table_view c.args.table.now in
    let best = option_copied c.loop-field.best in
    let i = c.loop-field.field-index in
    ap (λ b. fold lesser b (map (λ f. name_of f.key) (filter (is_wrong ms) (drop (i + 1) fs)))) (c.lesser_if-best.ensures ∙ same_choice _ _ best _ _ c.is_wrong.ensures c.name.ensures)
    ∙ sym (least_more (λ f. name_of f.key) (is_wrong ms) fs best i _ c.loop-field-test.true)
    ∙ c.loop-field.invariant

pub returns : goal.returns
returns c =
    let ms = table_view c.args.table.now in
    sym (least_end (λ f. name_of f.key) (is_wrong ms) c.fields-fields.result.now (option_copied c.loop-field.best) c.loop-field.field-index c.loop-field-test.false)
    ∙ c.loop-field.invariant
    ∙ ap (λ fs. least (map (λ f. name_of f.key) (filter (is_wrong ms) fs))) c.fields-fields.ensures
