use Rattle.std.proofs.Common.{rules, ◌≡◌, ◌++◌, ◌∷◌, [], sym, subst}
use Rattle.run_cells.specs.TagPasses.{AreUnentered}
use Rattle.run_cells.proofs.TagPasses.{unentered_last}
use Rattle.run_cells.proofs.opening.tag_cells.Goals as goal

pub loop-alloc-preserved : goal.loop-alloc-preserved
loop-alloc-preserved g c = (search rules, subst (AreUnentered 0) (search rules) (unentered_last 0 c.loop-alloc.cells.items c.in_ok-tag_cell.field-0 c.loop-alloc.invariant.1 (search rules) (search rules)))
