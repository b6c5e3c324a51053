use Rattle.std.proofs.Common.{Some, ap, ◌∙◌}
use Rattle.cow_pages.specs.PrivateMemory.{no_memory}
use Rattle.machine.specs.Actors.{ActorRecord, whole}
use Rattle.machine.specs.Take.{has_started}
use Rattle.sthread_life.proofs.starting.start.Goals as goal

pub returns-clause-takes : goal.returns-clause-takes
returns-clause-takes c m = c.in_ok-give_to_child.ensures.takes m ∙ ap (λ (r : ActorRecord). has_started (whole r m)) c.in_ok-memory.ensures.after

pub returns-clause-begun : goal.returns-clause-begun
returns-clause-begun c = ap Some (ap (whole c.in_ok-child.child) c.in_ok-memory.ensures.made ∙ c.in_ok-child.ensures.is c.args.program.now no_memory)
