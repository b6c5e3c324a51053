-- Runs in serial order: who takes the next turn, and what is kept of who lives.
use Rattle.std.specs.Prelude.{◌≡◌, ◌<◌, ◌≤◌, ◌++◌, ◌∷◌, [], length, map, slice_get, ℕ, true, false, List, Option, Some, None, is_some, ◌⊎◌, if◌then◌else◌}
use Rattle.wedge_base.specs.Images.{Image}
use Rattle.wedge_base.specs.Names.{root_name}
use Rattle.world_turns.specs.Indices.{index_in}
use Rattle.world_turns.specs.Progress.{Progress, IsWaiting, IsBusy}
use Rattle.wedge_core.specs.declared.serially.LiveActor.{LiveActor}
use Rattle.machine.specs.Actors.{ActorState}
use Rattle.machine.specs.Local.{has_ended}
use Rattle.wedge_events.specs.declared.events.Turn.{Turn}
use Rattle.run_laws.specs.CompleteRuns.{RootGoesOn}
use Rattle.run_laws.specs.Moments.{EachTurn}
use Rattle.run_laws.specs.GatesWithin.{is_under}
use Rattle.machine.specs.Worlds.{WorldState, initial_state, actor_named, turn_of, Runs}

-- the name of the actor that was started last and has not ended: an actor is added behind the
-- others as it starts
abbrev pub newest : List ActorState → Option (List ℕ)
newest [] = None
newest (a ∷ as_) = elim (newest as_) [ Some name ↦ Some name | None ↦ if has_ended a.phase then None else Some a.name ]

-- the names of the actors that have not ended, in the order of their starts
abbrev pub live_names : List ActorState → List (List ℕ)
live_names [] = []
live_names (a ∷ as_) = if has_ended a.phase then live_names as_ else a.name ∷ live_names as_

-- each turn is that of the actor that was started last and has not ended
abbrev pub InSerialOrder : WorldState → List Turn → Type 0
InSerialOrder w turns = EachTurn (λ old t new. newest old.actors ≡ Some t.actor) w turns

-- an actor of a run that has not ended has a turn, or awaits a child or a run that has not ended,
-- or is to enter a recycled gate in which a run is
abbrev pub LivingGoOn : Type 0
LivingGoOn = (i : Image) (turns : List Turn) (w : WorldState) (name : List ℕ) (a : ActorState) → Runs (initial_state i) turns w → actor_named w.actors name ≡ Some a → has_ended a.phase ≡ false
    → (is_some (turn_of w name) ≡ true) ⊎ (IsWaiting w name ⊎ IsBusy w name)

-- and in a run in serial order the actor whose turn it is has one
abbrev pub SerialOrderGoesOn : Type 0
SerialOrderGoesOn = (i : Image) (turns : List Turn) (w : WorldState) (name : List ℕ) → Runs (initial_state i) turns w → InSerialOrder (initial_state i) turns → newest w.actors ≡ Some name
    → is_some (turn_of w name) ≡ true

-- the root is the first of the actors, and it ends last
pub record RootIsFirst (actors : List ActorState) : Type 0 where
  pub root_ : ActorState
  pub others : List ActorState
  pub first : actors ≡ root_ ∷ others
  pub named : root_.name ≡ root_name
  pub last : has_ended root_.phase ≡ true → live_names others ≡ []

-- each is at its index
abbrev pub AreIndexed : List ActorState → List LiveActor → Type 0
AreIndexed actors [] = Unit {0}
AreIndexed actors (l ∷ ls) = (index_in actors l.name ≡ Some l.index) × AreIndexed actors ls

abbrev pub names_of_live : List LiveActor → List (List ℕ)
names_of_live live = map (λ l. l.name) live

-- each is under every one before it
abbrev pub AreUnder : List ℕ → List (List ℕ) → Type 0
AreUnder n [] = Unit {0}
AreUnder n (m ∷ ms) = (is_under n m ≡ true) × AreUnder n ms

abbrev pub AreNested : List (List ℕ) → Type 0
AreNested [] = Unit {0}
AreNested (n ∷ ns) = AreUnder n ns × AreNested ns

-- turns taken in serial order so far, and the actors that have not ended
pub record IsSerial (i : Image) (p : Progress) (live : List LiveActor) : Type 0 where
  pub going : p.stopped ≡ false
  pub run : Runs (initial_state i) p.turns p.state
  pub order : InSerialOrder (initial_state i) p.turns
  pub goes_on : RootGoesOn (initial_state i) p.turns
  pub stack : names_of_live live ≡ live_names p.state.actors
  pub indexed : AreIndexed p.state.actors live
  pub root_first : RootIsFirst p.state.actors
  pub nested : AreNested (live_names p.state.actors)

-- The stack of live actors after a turn: push the new actor, or pop the one that ended.
pub record LivesAfter (actors : List ActorState) (index count : ℕ) (old new : List LiveActor) : Type 0 where
  pub begun : count < length actors → (c : ActorState) × (slice_get actors count ≡ Some c) × (new ≡ old ++ record { name = c.name; index = count } ∷ [])
  pub ended : length actors ≤ count → (a : ActorState) → slice_get actors index ≡ Some a → has_ended a.phase ≡ true → (l : LiveActor) × (old ≡ new ++ l ∷ [])
  pub goes_on : length actors ≤ count → (a : ActorState) → slice_get actors index ≡ Some a → has_ended a.phase ≡ false → new ≡ old
