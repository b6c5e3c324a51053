-- Every actor's entries in a run are a walk of it.
use Rattle.std.specs.Prelude.{◌≡◌, ℕ, ◌+◌, List, length, Some}
use Rattle.wedge_base.specs.Images.{Image}
use Rattle.wedge_events.specs.declared.events.Turn.{Turn}
use Rattle.machine.specs.Actors.{ActorState}
use Rattle.machine.specs.Worlds.{WorldState, initial_state, actor_named, Runs}
use Rattle.run_laws.specs.Walks.{IsWalk, entries_in}

-- the entries of an actor in these turns, with stamps above this one, are a walk of it, which leads to
-- what it is in the end
pub record WalksFrom (i : Image) (a : ActorState) (stamp : ℕ) (turns : List Turn) (new : WorldState)
    : Type 0 where
  pub last : ActorState
  pub walk : IsWalk i a stamp (entries_in a.name (stamp + 1) turns) last
  pub leads : actor_named new.actors a.name ≡ Some last

-- So it is of every actor, from each moment of a run on at which it is there; of the root from the
-- first on, and of any other from the turn on that creates it.
abbrev pub EveryActorWalks : Type 0
EveryActorWalks =
    (i : Image) (before turns : List Turn) (old new : WorldState) (a : ActorState)
    → Runs (initial_state i) before old → Runs old turns new
    → actor_named old.actors a.name ≡ Some a → WalksFrom i a (length before) turns new
