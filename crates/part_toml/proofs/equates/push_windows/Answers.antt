use Rattle.std.proofs.Common.{List, ◌+◌, ◌%◌, ◌^◌, [], ◌∷◌, ◌++◌, drop, codes, sym, ap, ◌∙◌}
use Rattle.rv_asm.specs.declared.assembled.Equate.{Equate}
use Rattle.part_toml.specs.Parts.{equate, numbered_equates, window_equate}
use Rattle.part_toml.proofs.Placed.{placed-more, placed-end}
use Rattle.part_toml.proofs.equates.push_windows.Goals as goal

pub loop-tag-preserved : goal.loop-tag-preserved
loop-tag-preserved c =
    let front = c.loop-tag.equates.items in
    let xs = c.args.tags.now in
    let i = c.loop-tag.tag-index in
    ap (λ (es : List Equate). es ++ numbered_equates window_equate ((c.loop-tag.place + 1) % 2 ^ 32) (drop (i + 1) xs))
    (c.in_ok-push.ensures
    ∙ ap (λ name. front ++ equate (codes "seg_") name c.tag_address.result ∷ []) c.as_slice.ensures
    ∙ ap (λ value. front ++ equate (codes "seg_") c.tag-item.result.name value ∷ []) c.tag_address.ensures)
    ∙ placed-more window_equate xs front c.loop-tag.place i c.tag-item.result c.loop-tag-test.true c.tag-item.is
    ∙ c.loop-tag.invariant

pub returns : goal.returns
returns c =
    sym (placed-end window_equate c.args.tags.now c.loop-tag.equates.items c.loop-tag.place c.loop-tag.tag-index c.loop-tag-test.false)
    ∙ c.loop-tag.invariant
