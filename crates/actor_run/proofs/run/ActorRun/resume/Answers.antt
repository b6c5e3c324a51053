use Rattle.std.proofs.Common.{sym, subst}
use Rattle.std.specs.Prelude.{IfSome}
use Rattle.actor_step.specs.Reached.{IsReached}
use Rattle.actor_run.proofs.Caches.{keeps_resumed}
use Rattle.actor_run.proofs.run.ActorRun.resume.Goals as goal

pub invariant_of-self : goal.invariant_of-self
invariant_of-self g c = record {
  cache = keeps_resumed c.self.inside.actor c.resume.new.actor c.self.inside.entries c.self.inside.cache c.self.invariant.cache c.args.number c.args.end.how c.args.end.fuel c.resume.ensures.goes c.resume.ensures.stopped;
  comes = subst (λ o. IfSome o (IsReached c.resume.new.actor.phase)) (sym c.in-None.is) tt;
  entries = c.self.invariant.entries;
  unkept = c.self.invariant.unkept;
}
