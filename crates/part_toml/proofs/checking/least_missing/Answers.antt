use Rattle.std.proofs.Common.{◌+◌, drop, fold, sym, ap, ◌∙◌}
use Rattle.std.specs.Option.{option_copied}
use Rattle.toml.specs.View.{table_view}
use Rattle.part_toml.specs.Keys.{name_of}
use Rattle.part_toml.specs.Faults.{lesser, missing, is_missing}
use Rattle.part_toml.proofs.Least.{same_choice, least_more, least_end}
use Rattle.part_toml.proofs.checking.least_missing.Goals as goal

pub loop-field-preserved : goal.loop-field-preserved
loop-field-preserved c =
    let fs = c.args.fields.now in
    let ms = table_view c.args.table.now in
    let best = option_copied c.loop-field.best in
    let i = c.loop-field.field-index in
    ap (λ b. fold lesser b (missing (drop (i + 1) fs) ms)) (c.lesser_if-best.ensures ∙ same_choice _ _ best _ _ c.is_missing.ensures c.name.ensures)
    ∙ sym (least_more (λ f. name_of f.key) (is_missing ms) fs best i _ c.loop-field-test.true)
    ∙ c.loop-field.invariant

pub returns : goal.returns
returns c =
    sym (least_end (λ f. name_of f.key) (is_missing (table_view c.args.table.now)) c.args.fields.now (option_copied c.loop-field.best) c.loop-field.field-index c.loop-field-test.false)
    ∙ c.loop-field.invariant
