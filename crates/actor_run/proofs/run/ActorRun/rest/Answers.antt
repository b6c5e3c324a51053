use Rattle.actor_run.proofs.Caches.{keeps_at_rest}
use Rattle.actor_run.proofs.run.ActorRun.rest.Goals as goal

pub invariant_of-self-2 : goal.invariant_of-self-2
invariant_of-self-2 g c = record {
  cache = keeps_at_rest c.self.inside.actor c.rest_from.new.actor c.self.inside.entries c.self.inside.cache c.self.invariant.cache c.args.program.now c.self.inside.memory c.rest_from.new.memory c.self.inside.access c.rest_from.result
      c.rest_from.ensures.rests c.rest_from.ensures.going c.rest_from.ensures.stops;
  comes = c.in_ok-self-inside.ensures.comes;
  entries = c.self.invariant.entries;
  unkept = c.self.invariant.unkept;
}
