use Rattle.std.proofs.Common.{rules, ◌≡◌, subst, arith}
use Rattle.wedge_events.specs.declared.events.CellName.TheVariants as cell
use Rattle.run_cells.proofs.TagPasses.{unentered_at}
use Rattle.run_cells.proofs.opening.open_tags.Goals as goal

pub new-requires-clause-initial : goal.new-requires-clause-initial
new-requires-clause-initial g c = λ n k at.
    let t = unentered_at 0 _ n k c.in_ok-tag_cells.ensures.initial at in (t.history_, subst (λ m. k.name ≡ cell.Slot m) (omega arith) t.name_)
