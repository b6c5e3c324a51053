use Rattle.std.proofs.Common.{◌≡◌, ◌≤◌, ◌+◌, ◌++◌, List, length}
use Rattle.std.specs.Prelude.{All}
use Rattle.std.specs.Vec.Iter.{into_iter_items, into_iter_len}
use Rattle.wedge_base.specs.Images.{slots as most_slots}
use Rattle.thread_laws.specs.Replaying.{IsLegalHistory, slot_histories}
use Rattle.run_cells.specs.TagPasses.{AreNamedFrom, histories_in}
use Rattle.run_cells.proofs.histories.tag_histories.Given as goal

abbrev pub invariant-loop-cell : goal.invariant-loop-cell
invariant-loop-cell g l = (histories_in l.fn.cells.items ≡ l.all.items ++ histories_in (into_iter_items l.cell-iterator))
    × AreNamedFrom (length l.all.items) (into_iter_items l.cell-iterator)
    × (length l.all.items + length (into_iter_items l.cell-iterator) ≤ most_slots)
    × All (IsLegalHistory g.I.RunOf.image) (slot_histories 0 l.all.items)
    × (into_iter_len l.cell-iterator ≡ length (into_iter_items l.cell-iterator))
