-- The execution of an actor: how it began, its entries, and what it learned of those that it created.
use Rattle.std.specs.Prelude.{◌≡◌, ℕ, ◌<◌, ◌==◌, true, List, [], ◌∷◌, Option, Some, None, IsSomeAnd, find}
use Rattle.wedge_base.specs.Images.{Image}
use Rattle.wedge_base.specs.declared.rights.End.{End}
use Rattle.wedge_events.specs.declared.cells.GateAsk.TheVariants as gate_ask
use Rattle.wedge_events.specs.declared.events.Event.{Event}
use Rattle.wedge_events.specs.declared.events.Event.TheVariants as event
use Rattle.wedge_events.specs.declared.events.LogEntry.{LogEntry}
use Rattle.machine.specs.declared.phase.Phase.{Phase}
use Rattle.machine.specs.declared.phase.Phase.TheVariants as phase
use Rattle.machine.specs.Actors.{ActorState}
use Rattle.machine.specs.Children.{child_name}
use Rattle.machine.specs.Local.{rest, has_ended}
use Rattle.machine.specs.Take.{next_start, takes, has_joined, actor_begun}
use Rattle.run_laws.specs.Walks.{Asks}

-- what an actor learns of one that it created, by its number, when it joins it or goes on from it: its
-- end, the fuel that it left, and a stamp not below its last one
pub record LearnedEnd : Type 0 where
  pub number : ℕ
  pub how : End
  pub fuel : ℕ
  pub stamp : ℕ

-- what was learned of the actor of this number
abbrev pub learned_of : List LearnedEnd → ℕ → Option LearnedEnd
learned_of learned k = find (λ t. t.number == k) learned

-- the actor goes on as it is; where it waits for the run of a gate, with what it learned of that
abbrev pub resumed_by : ActorState → ℕ → Option LearnedEnd → ActorState
resumed_by a k None = a
resumed_by a k (Some t) = has_joined a k t.how t.fuel

abbrev pub resumed_at : List LearnedEnd → ActorState → Phase → ActorState
resumed_at learned a (phase.Waiting k) = resumed_by a k (learned_of learned k)
resumed_at learned a p = a

-- the actor as it asks its next shared event
abbrev pub at_next_event : Image → List LearnedEnd → ActorState → ActorState
at_next_event i learned a = rest i (resumed_at learned a a.phase)

-- the actor after these entries, and its clock after them
abbrev pub after_entries : Image → List LearnedEnd → ActorState → List LogEntry → ActorState
after_entries i learned a [] = a
after_entries i learned a (e ∷ es) =
    after_entries i learned (takes i (at_next_event i learned a) e.event) es

abbrev pub clock_after : ℕ → List LogEntry → ℕ
clock_after clock [] = clock
clock_after clock (e ∷ es) = clock_after e.stamp es

-- the name of the actor that a start or the entry of a gate creates
abbrev pub name_begun : Event → Option (List ℕ)
name_begun (event.Start child) = Some child
name_begun (event.Enter run) = Some run
name_begun (event.Gate id (gate_ask.Enter run first) r) = Some run
name_begun e = None

-- all names that these entries create, in their order
abbrev pub with_named : Option (List ℕ) → List (List ℕ) → List (List ℕ)
with_named None names = names
with_named (Some name) names = name ∷ names

abbrev pub names_begun : List LogEntry → List (List ℕ)
names_begun [] = []
names_begun (e ∷ es) = with_named (name_begun e.event) (names_begun es)

-- An event that names an actor creates it, under the next name of the one that did it; any other
-- event creates none.
pub record IsBeginning (i : Image) (a : ActorState) (e : Event) (name : List ℕ) : Type 0 where
  pub next : name ≡ child_name a.name (next_start a)
  pub child : ActorState
  pub begun : actor_begun i a e ≡ Some child

abbrev pub Begins : Image → ActorState → Event → Option (List ℕ) → Type 0
Begins i a e None = actor_begun i a e ≡ None
Begins i a e (Some name) = IsBeginning i a e name

-- an entry is above the last stamp of the run for which its actor waited, and of the child that it
-- joins, which ended as the entry says
abbrev pub IsAboveRun : List LearnedEnd → Phase → ℕ → Type 0
IsAboveRun learned (phase.Waiting k) stamp = IsSomeAnd (learned_of learned k) (λ t. t.stamp < stamp)
IsAboveRun learned p stamp = Unit {0}

abbrev pub IsJoinLearned : List LearnedEnd → Event → ℕ → Type 0
IsJoinLearned learned (event.Join k how fuel) stamp =
    IsSomeAnd (learned_of learned k) (λ t. (t.how ≡ how) × (t.fuel ≡ fuel) × (t.stamp < stamp))
IsJoinLearned learned e stamp = Unit {0}

-- the next entry of an actor in this state and at this clock
pub record IsNext (i : Image) (learned : List LearnedEnd) (a : ActorState) (clock : ℕ) (e : LogEntry) : Type 0 where
  pub above : clock < e.stamp
  pub own : e.actor ≡ a.name
  pub asked : Asks (at_next_event i learned a) e.event
  pub begins : Begins i (at_next_event i learned a) e.event (name_begun e.event)
  pub run : IsAboveRun learned a.phase e.stamp
  pub child : IsJoinLearned learned e.event e.stamp

-- entries are a walk of an actor, from a state and a clock on, with what it learned
abbrev pub IsWalkWith : Image → List LearnedEnd → ActorState → ℕ → List LogEntry → Type 0
IsWalkWith i learned a clock [] = Unit {0}
IsWalkWith i learned a clock (e ∷ es) = IsNext i learned a clock e
    × IsWalkWith i learned (takes i (at_next_event i learned a) e.event) e.stamp es

-- how an actor began and at which stamp, its entries, and what it learned of those that it created
pub record Execution : Type 0 where
  pub began : ActorState
  pub low : ℕ
  pub entries : List LogEntry
  pub learned : List LearnedEnd

-- the actor at the end of its execution, and its last stamp
abbrev pub final_state : Image → Execution → ActorState
final_state i l = after_entries i l.learned l.began l.entries

abbrev pub final_stamp : Execution → ℕ
final_stamp l = clock_after l.low l.entries

-- the entries are all that the actor did: it has ended after the last
pub record IsExecution (i : Image) (l : Execution) : Type 0 where
  pub walk : IsWalkWith i l.learned l.began l.low l.entries
  pub ended : has_ended (final_state i l).phase ≡ true

-- the actors that entries created, in order: how each began, and at which stamp
pub record Creation : Type 0 where
  pub began : ActorState
  pub stamp : ℕ

abbrev pub with_creation : Option ActorState → ℕ → List Creation → List Creation
with_creation None stamp bs = bs
with_creation (Some c) stamp bs = record { began = c; stamp = stamp } ∷ bs

abbrev pub creations : Image → List LearnedEnd → ActorState → List LogEntry → List Creation
creations i learned a [] = []
creations i learned a (e ∷ es) =
    with_creation (actor_begun i (at_next_event i learned a) e.event) e.stamp
    (creations i learned (takes i (at_next_event i learned a) e.event) es)
