-- In each run the entries of every actor are a walk of it, from any moment on.
use Rattle.std.proofs.Common.{◌≡◌, ◌+◌, subst, arith}
use Rattle.std.specs.Prelude.{length}
use Rattle.machine.specs.Worlds.{initial_state}
use Rattle.run_laws.specs.Walks.{IsWalk, entries_in}
use Rattle.run_laws.proofs.Bounding.{run_image}
use Rattle.run_laws.proofs.Walking.{actor_walks}
use Rattle.thread_laws.specs.ActorWalks.{EveryActorWalks}

pub every_actor_walks : EveryActorWalks
every_actor_walks i before turns old new a opening run named =
    let w = actor_walks old turns new a (length before) (length before + 1) (omega arith) named run in
    let image : old.image ≡ i = run_image (initial_state i) before old opening in
    record {
      last = w.last;
      walk = subst (λ j. IsWalk j a (length before) (entries_in a.name (length before + 1) turns) w.last) image w.walk;
      leads = w.leads;
    }
