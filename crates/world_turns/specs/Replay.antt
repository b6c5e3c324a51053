-- Schedules: the names of actors, each of which takes a turn, replayed over an image.
use Rattle.std.specs.Prelude.{◌≡◌, ℕ, ◌+◌, true, false, List, [], ◌∷◌, ◌++◌, map, Option, Some, None, Result, Ok, Err, if◌then◌else◌}
use Rattle.wedge_base.specs.Images.{Image}
use Rattle.wedge_events.specs.declared.events.Event.{Event}
use Rattle.wedge_events.specs.declared.events.Want.{Want}
use Rattle.wedge_events.specs.declared.events.Want.TheVariants as want
use Rattle.wedge_events.specs.declared.events.Turn.{Turn}
use Rattle.wedge_events.specs.declared.events.LogEntry.{LogEntry}
use Rattle.wedge_base.specs.declared.outcome.Outcome.{Outcome}
use Rattle.wedge_events.specs.Journals.{turns_of}
use Rattle.machine.specs.Actors.{ActorState}
use Rattle.machine.specs.Local.{has_ended}
use Rattle.machine.specs.Outcomes.{outcome_of}
use Rattle.machine.specs.Take.{current_want}
use Rattle.machine.specs.Worlds.{WorldState, initial_state, actor_named, turn_of, at_rest, Runs, is_complete}
use Rattle.world_turns.specs.declared.error.Why.{Why}
use Rattle.world_turns.specs.declared.error.Why.TheVariants as why
use Rattle.world_turns.specs.declared.error.ReplayFault.{ReplayFault}
use Rattle.world_turns.specs.declared.error.ReplayFault.TheVariants as fault
use Rattle.world_turns.specs.Progress.{Progress, IsTurn}
use Rattle.run_laws.specs.CompleteRuns.{IsCompleteRun, IsJournaledRun, RootGoesOn}

-- why an actor that has not ended has no turn: the recycled gate that it is to enter is busy, or it
-- waits
abbrev pub why_held : Option Want → Why
why_held (Some (want.Gate id q)) = why.Busy
why_held q = why.Waits

-- why an actor has no turn
abbrev pub why_of : WorldState → Option ActorState → Why
why_of w None = why.Unknown
why_of w (Some a) = if has_ended a.phase then why.Ended else why_held (current_want (at_rest w a))

abbrev pub why_none : WorldState → List ℕ → Why
why_none w name = why_of w (actor_named w.actors name)

-- the state to which the turns of these actors lead, the last of them the end of the root; or the
-- number of the first name that has no turn, and why. The first of the names has the number `at`.
abbrev pub replay_from : WorldState → ℕ → List (List ℕ) → Result WorldState (ℕ × Why)
replay_from w at [] = if is_complete w then Ok w else Err (at, why.Short)
replay_from w at (name ∷ names) = if is_complete w then Err (at, why.Extra) else elim (turn_of w name) [
  | None ↦ Err (at, why_none w name)
  | Some t ↦ replay_from t.world (at + 1) names
]

-- what a schedule replays to over an image
abbrev pub replay_of : Image → List (List ℕ) → Result WorldState (ℕ × Why)
replay_of i names = replay_from (initial_state i) 1 names

-- a fault is that of a replay; the machine may run out of memory at any time
abbrev pub IsFaultOf : Result WorldState (ℕ × Why) → ReplayFault → Type 0
IsFaultOf r fault.NoMemory = Unit {0}
IsFaultOf r (fault.BadSchedule at cause) = r ≡ Err (at, cause)

-- the names of the actors of turns, in order
abbrev pub names_of : List Turn → List (List ℕ)
names_of turns = map (λ t. t.actor) turns

-- ---- laws

-- the names of each complete run replay to its last state
abbrev pub CompleteRunsReplay : Type 0
CompleteRunsReplay = (i : Image) (turns : List Turn) (last : WorldState) → Runs (initial_state i) turns last → is_complete last ≡ true
    → RootGoesOn (initial_state i) turns → replay_of i (names_of turns) ≡ Ok last

-- and what a schedule replays to is the last state of a complete run by its names
abbrev pub ReplaysAreComplete : Type 0
ReplaysAreComplete = (i : Image) (names : List (List ℕ)) (last : WorldState) → replay_of i names ≡ Ok last
    → (turns : List Turn) × (names_of turns ≡ names) × IsCompleteRun i turns last

-- so the names in the journal of a complete run replay to its outcome
abbrev pub JournalsReplay : Type 0
JournalsReplay = (i : Image) (entries : List LogEntry) (outcome : Outcome) → IsJournaledRun i entries outcome
    → (last : WorldState) × (replay_of i (names_of (turns_of entries)) ≡ Ok last) × (outcome ≡ outcome_of last)

-- ---- one name

-- its turn is taken, and noted
pub record Follows (old : Progress) (name : List ℕ) (new : Progress) : Type 0 where
  pub event : Event
  pub goes_on : is_complete old.state ≡ false
  pub turn : IsTurn old.state name event new.state
  pub noted : new.turns ≡ old.turns ++ record { actor = name; event = event } ∷ []
  pub going : new.stopped ≡ false

-- a schedule is rejected at it, whatever names come after it
abbrev pub IsScheduleRejected : WorldState → ℕ → List ℕ → ReplayFault → Type 0
IsScheduleRejected w at name e = (names : List (List ℕ)) → IsFaultOf (replay_from w at (name ∷ names)) e
