use Rattle.std.proofs.Common.{◌≡◌, ◌++◌, length}
use Rattle.std.specs.Vec.Iter.{into_iter_items, into_iter_len}
use Rattle.ruled_cell.specs.declared.passes.PassOrigin.TheVariants.{First}
use Rattle.tag_laws.specs.DeclaredTags.{entries_by}
use Rattle.run_cells.specs.TagPasses.{all_entered}
use Rattle.run_cells.proofs.tag_cells.TagCells.close.Given as goal

abbrev pub invariant-loop-one : goal.invariant-loop-one
invariant-loop-one g l =
    (l.pass.table ≡ g.T.TableOf.table) × (l.pass.view.origin ≡ First) × (l.pass.view.number ≡ 0)
    × (all_entered l.fn.passes.items ≡ entries_by l.pass.view.own ++ all_entered (into_iter_items l.one-iterator))
    × (into_iter_len l.one-iterator ≡ length (into_iter_items l.one-iterator))
