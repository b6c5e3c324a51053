use Rattle.std.proofs.Common.{List, ◌+◌, ◌%◌, ◌^◌, [], ◌∷◌, ◌++◌, drop, codes, sym, ap, ◌∙◌}
use Rattle.rv_asm.specs.declared.assembled.Equate.{Equate}
use Rattle.part_toml.specs.Parts.{equate, numbered_equates, fd_equate}
use Rattle.part_toml.proofs.Placed.{placed-more, placed-end}
use Rattle.part_toml.proofs.equates.push_fds.Goals as goal

pub loop-fd-preserved : goal.loop-fd-preserved
loop-fd-preserved c =
    let front = c.loop-fd.equates.items in
    let xs = c.args.fds.now in
    let i = c.loop-fd.fd-index in
    ap (λ (es : List Equate). es ++ numbered_equates fd_equate ((c.loop-fd.place + 1) % 2 ^ 32) (drop (i + 1) xs))
    (c.in_ok-push.ensures ∙ ap (λ name. front ++ equate (codes "fd_") name c.loop-fd.place ∷ []) c.as_slice.ensures)
    ∙ placed-more fd_equate xs front c.loop-fd.place i c.fd-item.result c.loop-fd-test.true c.fd-item.is
    ∙ c.loop-fd.invariant

pub returns : goal.returns
returns c =
    sym (placed-end fd_equate c.args.fds.now c.loop-fd.equates.items c.loop-fd.place c.loop-fd.fd-index c.loop-fd-test.false)
    ∙ c.loop-fd.invariant
