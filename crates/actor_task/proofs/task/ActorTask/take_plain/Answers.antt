use Rattle.std.proofs.Common.{◌≡◌, false, refl, subst, sym}
use Rattle.thread_laws.specs.ActorProgresses.{after_entry}
use Rattle.run_cells.specs.Entries.{IsPlainEntry}
use Rattle.actor_task.proofs.Progressing.{kept_does, kept_takes}
use Rattle.actor_task.proofs.task.ActorTask.take_plain.Goals as goal

pub invariant_of-self : goal.invariant_of-self
invariant_of-self g c = λ still.
    let i = g.I.RunOf.image in
    let r = c.self.inside.run.progress in
    let going = subst (λ k. k.stopped ≡ false) (sym c.self.view_is) c.requires.going in
    let p = subst (λ k. IsPlainEntry i k.progress c.args.entry) (sym c.self.view_is) c.requires.entry in
    kept_takes i c.self.inside.run c.take_alone.new.self (after_entry i r c.args.entry) c.self.inside.created.items c.self.inside.gates c.take_alone.result c.self.invariant
    (kept_does i r _ c.self.inside.created.items c.self.inside.gates c.args.entry (c.self.invariant going) p refl)
    c.take_alone.ensures.entered c.take_alone.ensures.err still
