use Rattle.std.proofs.Common.{length, sym, ap, subst, ◌∙◌}
use Rattle.std.specs.Prelude.{All, IfOk}
use Rattle.machine.specs.Actors.{ActorState}
use Rattle.machine.specs.Between.{RunsIn}
use Rattle.run_cells.specs.RecycledGates.{HasCells}
use Rattle.thread_laws.specs.KeptEntries.{IsKept}
use Rattle.actor_task.specs.Tasks.{IsNew}
use Rattle.gate_runner.proofs.Roots.{none_seen, root_new, root_name_short, root_unlocked, short}
use Rattle.gate_runner.proofs.runner.run_over.Goals as goal

pub invariant_of-root : goal.invariant_of-root
invariant_of-root g c = record {
  of_run = c.requires.unkept.0;
  begins = subst IsNew (sym c.in_ok-actor.ensures.is) (root_new _);
  cells = subst (λ x. HasCells x c.in_ok-actor.actor.gates) (sym c.none.ensures) (none_seen c.in_ok-actor.actor.gates);
  few = short c.in_ok-actor.actor.name (ap (λ (a : ActorState). length a.name) c.in_ok-actor.ensures.is ∙ root_name_short _);
}

pub run_whole-requires-after_bounds : goal.run_whole-requires-after_bounds
run_whole-requires-after_bounds g c κs within = λ id h. root_unlocked _ id (subst (λ (a : ActorState). RunsIn a.run_of id) c.in_ok-actor.ensures.is h)

pub returns-clause-kept : goal.returns-clause-kept
returns-clause-kept g c = subst (λ n. IfOk c.gathered.result (λ x. All (IsKept n) x.logs)) (sym c.requires.unkept.0) c.gathered.ensures.kept
