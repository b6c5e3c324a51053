use Rattle.std.proofs.Common.{◌≡◌, false, true, refl, sym, subst, ap, ◌∙◌}
use Rattle.std.specs.Arc.{arc_value}
use Rattle.std.specs.Prelude.{is_some}
use Rattle.run_cells.specs.RecycledGates.{HasCells, recycled}
use Rattle.actor_task.specs.Tasks.{WantsEntry}
use Rattle.actor_task.proofs.GateCellsKnown.{cells_of_all, entered_has_cell}
use Rattle.actor_task.proofs.Progressing.{kept_cells}
use Rattle.actor_task.proofs.task.ActorTask.gate_cell.Goals as goal

pub create_for-requires : goal.create_for-requires
create_for-requires g c =
    let w = subst (λ k. WantsEntry k c.args.entry.now) (sym c.self.view_is) c.requires in
    subst (HasCells c.self.inside.gates) (sym c.gates.ensures) (c.self.invariant w.going).cells_

pub invariant_of-self : goal.invariant_of-self
invariant_of-self g c = λ going.
    kept_cells g.I.RunOf.image c.self.inside.run.progress c.self.inside.created.items c.self.inside.gates c.create_for.new.self _ (c.self.invariant going) c.gates.ensures c.create_for.ensures.cells

pub invariant_of-self-2 : goal.invariant_of-self-2
invariant_of-self-2 g c = λ going.
    kept_cells g.I.RunOf.image c.self.inside.run.progress c.self.inside.created.items c.self.inside.gates c.create_for.new.self _ (c.self.invariant going) c.gates.ensures c.create_for.ensures.cells

pub unreachable-requires : goal.unreachable-requires
unreachable-requires g c =
    let w = subst (λ k. WantsEntry k c.args.entry.now) (sym c.self.view_is) c.requires in
    let r = c.self.inside.run.progress in
    let all : c.create_for.new.self.gates ≡ recycled r.state.gates = cells_of_all arc_value c.create_for.new.self c.gates.result.now c.create_for.ensures.cells c.in_ok-create_for.ensures.all ∙ ap recycled c.gates.ensures in
    let has = entered_has_cell g.I.RunOf.image _ r c.self.inside.created.items c.args.entry.now c.create_for.new.self.gates w refl (c.self.invariant w.going).task all in
    let f : false ≡ true = ap is_some (sym c.in-None.is) ∙ (c.in_ok-cell.ensures ∙ has) in
    absurd cc
