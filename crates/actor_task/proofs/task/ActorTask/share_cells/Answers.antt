use Rattle.std.proofs.Common.{◌≡◌, false, sym, subst}
use Rattle.run_cells.specs.RecycledGates.{HasCells}
use Rattle.actor_task.proofs.Progressing.{kept_cells}
use Rattle.actor_task.proofs.task.ActorTask.share_cells.Goals as goal

pub create_for-requires : goal.create_for-requires
create_for-requires g c =
    let going = subst (λ k. k.stopped ≡ false) (sym c.self.view_is) c.requires in
    subst (HasCells c.self.inside.gates) (sym c.gates.ensures) (c.self.invariant going).cells_

pub invariant_of-self : goal.invariant_of-self
invariant_of-self g c = λ going.
    kept_cells g.I.RunOf.image c.self.inside.run.progress c.self.inside.created.items c.self.inside.gates c.create_for.new.self _ (c.self.invariant going) c.gates.ensures c.create_for.ensures.cells

pub invariant_of-self-2 : goal.invariant_of-self-2
invariant_of-self-2 g c = λ going.
    kept_cells g.I.RunOf.image c.self.inside.run.progress c.self.inside.created.items c.self.inside.gates c.create_for.new.self _ (c.self.invariant going) c.gates.ensures c.create_for.ensures.cells
