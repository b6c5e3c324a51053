-- Complete runs: all that holds of every one.
use Rattle.std.specs.Prelude.{◌≡◌, ◌≤◌, ◌++◌, [], length, ℕ, true, false, List, Some}
use Rattle.wedge_base.specs.Images.{Image}
use Rattle.wedge_events.specs.Journals.{turns_of}
use Rattle.wedge_events.specs.Lives.{most_lives}
use Rattle.wedge_events.specs.declared.events.LogEntry.{LogEntry}
use Rattle.wedge_base.specs.declared.outcome.Outcome.{Outcome}
use Rattle.machine.specs.Actors.{ActorState}
use Rattle.machine.specs.Local.{has_ended}
use Rattle.wedge_events.specs.declared.events.Turn.{Turn}
use Rattle.run_laws.specs.Moments.{EachTurn, EachMoment}
use Rattle.run_laws.specs.Bounds.{IsWithinRoot}
use Rattle.run_laws.specs.CopiesGranted.{HasCopiesGranted}
use Rattle.run_laws.specs.GatesWithin.{NoneHoldsItsOwn, AreHeldOlder}
use Rattle.run_laws.specs.KnownGates.{AreGatesKept}
use Rattle.run_laws.specs.RecycledGates.{AreRunsAlone}
use Rattle.run_laws.specs.Fuel.{fuel_of, most_turns, TakesItsUnits}
use Rattle.run_laws.specs.Laws.{IsLawful, IsWrittenByOwners, IsReadByHolders}
use Rattle.run_laws.specs.LiveSthreads.{lives_in}
use Rattle.run_laws.specs.Names.{AreDistinct}
use Rattle.run_laws.specs.Occupancy.{AreOccupied, SlotsSuit}
use Rattle.run_laws.specs.FittingAsks.{TurnFits}
use Rattle.run_laws.specs.MemoryRanges.{KeepsRanges}
use Rattle.machine.specs.Worlds.{WorldState, initial_state, actor_named, Runs, is_complete}
use Rattle.machine.specs.Outcomes.{outcome_of}
use Rattle.run_laws.specs.TakingPlace.{EachTurnOn, CallsTakePlace}

-- before each of these turns the root has not ended
abbrev pub RootGoesOn : WorldState → List Turn → Type 0
RootGoesOn w turns = EachTurn (λ old t new. is_complete old ≡ false) w turns

-- What holds of each state of a run: no two actors have one name; each slot was never used, or was
-- released, or is held by one call, or one tag lives there; whatever an actor has on a declared tag
-- or descriptor, or the sheet of a gate gives, the root began with; each private copy is at the
-- slot of a grant of a copy; every private memory has the ranges of the image; a gate is what its maker made, whoever knows it; each run has its
-- gate's sheet with what was lent, a recycled gate has one run at a time, and what it keeps has
-- copies where its sheet grants them alone; nobody at or under a run of a gate holds that gate, but
-- older ones and those that were made at or under the run; the count of live sthreads is that of
-- the lives which actors hold, and at most 256; and whoever has ended has joined all that it began.
pub record IsSoundState (i : Image) (w : WorldState) : Type 0 where
  pub distinct : AreDistinct w.actors
  pub slots : AreOccupied w.cells w.actors
  pub bounded : (name : List ℕ) (a : ActorState) → actor_named w.actors name ≡ Some a → IsWithinRoot i a
  pub copies : (name : List ℕ) (a : ActorState) → actor_named w.actors name ≡ Some a → HasCopiesGranted a
  pub ranges : KeepsRanges i w.cells w.actors
  pub gates : AreGatesKept w.actors
  pub runs : AreRunsAlone w.cells w.actors
  pub within : NoneHoldsItsOwn w.actors
  pub older : AreHeldOlder w.actors
  pub lives : (w.cells.lives ≡ lives_in w.actors) × (lives_in w.actors ≤ most_lives)
  pub joined : (name : List ℕ) (a : ActorState) → actor_named w.actors name ≡ Some a → has_ended a.phase ≡ true → a.unjoined ≡ []

-- The turns are a complete run of the image, up to the end of its root, by which every actor has
-- ended: each moment of it is lawful, each call that is allowed takes place, and each state is
-- sound; after each of its turns the bytes of each tag and of each stream come from those who may
-- write them alone, and they are given to those alone who may read them; each turn takes exactly
-- its units of the image's fuel, and there are no more turns than that gives; a slot is claimed and
-- released, and a tag opened, as the slots are occupied; and whatever is asked of a cell fits it.
pub record IsCompleteRun (i : Image) (turns : List Turn) (last : WorldState) : Type 0 where
  pub run : Runs (initial_state i) turns last
  pub complete : is_complete last ≡ true
  pub goes_on : RootGoesOn (initial_state i) turns
  pub lawful : EachMoment IsLawful (initial_state i) turns
  pub placed : EachTurnOn CallsTakePlace (initial_state i) turns
  pub begins : IsSoundState i (initial_state i)
  pub sound : EachTurn (λ old t new. IsSoundState i new) (initial_state i) turns
  pub ended : (name : List ℕ) (a : ActorState) → actor_named last.actors name ≡ Some a → has_ended a.phase ≡ true
  pub written : (done left : List Turn) (w : WorldState) → turns ≡ done ++ left → Runs (initial_state i) done w → IsWrittenByOwners i done w
  pub read : IsReadByHolders i turns
  pub all_fuel : fuel_of (initial_state i) ≡ i.fuel
  pub paid : EachTurn TakesItsUnits (initial_state i) turns
  pub bound : length turns ≤ most_turns i.fuel
  pub suit : EachTurn SlotsSuit (initial_state i) turns
  pub fit : EachTurn TurnFits (initial_state i) turns

-- the entries of a journal are a complete run of the image, with this outcome
pub record IsJournaledRun (i : Image) (entries : List LogEntry) (outcome : Outcome) : Type 0 where
  pub last : WorldState
  pub run : IsCompleteRun i (turns_of entries) last
  pub ends : outcome ≡ outcome_of last
