-- An actor's entries as a walk of its own: each is an event that it asks at rest, and its own part
-- of each makes it what it is at the next. Nothing here knows of cells or of other actors, but that
-- the run of a gate ended somehow for which the actor waits.
use Rattle.std.specs.Prelude.{◌≡◌, ◌<◌, ℕ, List, [], ◌∷◌, Option, Some, if◌then◌else◌}
use Rattle.wedge_base.specs.Images.{Image}
use Rattle.wedge_base.specs.Names.{same, root_name}
use Rattle.wedge_events.specs.Journals.{event_ask, numbered}
use Rattle.wedge_events.specs.declared.events.Want.{Want}
use Rattle.wedge_events.specs.declared.events.Event.{Event}
use Rattle.wedge_events.specs.declared.events.LogEntry.{LogEntry}
use Rattle.wedge_events.specs.declared.events.Turn.{Turn}
use Rattle.machine.specs.Actors.{ActorState, root}
use Rattle.machine.specs.Local.{rest}
use Rattle.machine.specs.Take.{current_want, asks, takes, has_joined}
use Rattle.machine.specs.Worlds.{WorldState, initial_state, actor_named, Runs}
use Rattle.wedge_base.specs.declared.rights.End.{End}
use Rattle.machine.specs.declared.phase.Phase.{Phase}
use Rattle.machine.specs.declared.phase.Phase.TheVariants as phase

-- an actor at rest asks an event: it is that of its want, with some tag that may live there
pub record Asks (a : ActorState) (e : Event) : Type 0 where
  pub want : Want
  pub live : Option ℕ
  pub wants : current_want a ≡ Some want
  pub asks_it : event_ask e ≡ asks a live want

-- an entry of an actor at rest, with a stamp above its clock
pub record IsEntryOf (a : ActorState) (clock : ℕ) (e : LogEntry) : Type 0 where
  pub above : clock < e.stamp
  pub own : e.actor ≡ a.name
  pub event : Asks a e.event

-- an actor goes on as it is, or where it waits for the run of a gate, with some end and some fuel
-- of that run
abbrev pub GoesOnBy : ActorState → Phase → ActorState → Type 0
GoesOnBy a (phase.Waiting k) b = (e : End) × (fuel : ℕ) × (b ≡ has_joined a k e fuel)
GoesOnBy a p b = b ≡ a

-- entries are a walk of an actor, from a clock on, to what it is at the last
abbrev pub IsWalk : Image → ActorState → ℕ → List LogEntry → ActorState → Type 0
IsWalk i a clock [] last = last ≡ a
IsWalk i a clock (e ∷ es) last =
    (b : ActorState) × GoesOnBy a a.phase b × IsEntryOf (rest i b) clock e × IsWalk i (takes i (rest i b) e.event) e.stamp es last

-- the entries of the actor of a name
abbrev pub entries_of : List ℕ → List LogEntry → List LogEntry
entries_of name [] = []
entries_of name (e ∷ es) = if same e.actor name then e ∷ entries_of name es else entries_of name es

-- the entries of an actor in a run, from a number on
abbrev pub entries_in : List ℕ → ℕ → List Turn → List LogEntry
entries_in name stamp turns = entries_of name (numbered stamp turns)

-- in each run the entries of the root are a walk of the root, which leads to what it is in the end
pub record Walked (i : Image) (turns : List Turn) (new : WorldState) : Type 0 where
  pub last : ActorState
  pub walk : IsWalk i (root i) 0 (entries_in root_name 1 turns) last
  pub leads : actor_named new.actors root_name ≡ Some last

abbrev pub RootsWalk : Type 0
RootsWalk = (i : Image) (turns : List Turn) (new : WorldState) → Runs (initial_state i) turns new → Walked i turns new
