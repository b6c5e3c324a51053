-- The world, its turns and its runs.
use Rattle.std.specs.Prelude.{◌≡◌, ℕ, Bool, false, List, [], ◌∷◌, ◌++◌, map, find, Option, Some, None, option_map, if◌then◌else◌}
use Rattle.wedge_base.specs.Images.{Image}
use Rattle.wedge_base.specs.Names.{same, root_name}
use Rattle.wedge_base.specs.declared.grants.GateId.{GateId}
use Rattle.wedge_events.specs.declared.cells.GateAsk.{GateAsk}
use Rattle.wedge_events.specs.declared.cells.GateAsk.TheVariants as gate_ask
use Rattle.wedge_events.specs.declared.events.Ask.TheVariants as ask
use Rattle.wedge_events.specs.declared.events.Want.{Want}
use Rattle.wedge_events.specs.declared.events.Want.TheVariants as want
use Rattle.wedge_events.specs.declared.events.Event.{Event}
use Rattle.wedge_events.specs.declared.events.Event.TheVariants as event
use Rattle.wedge_events.specs.declared.events.Turn.{Turn}
use Rattle.machine.specs.Actors.{ActorState, root}
use Rattle.machine.specs.Cells.{Cells, opening_cells, live_at, event_of, cells_after, kept_in}
use Rattle.machine.specs.Children.{child_name}
use Rattle.machine.specs.Local.{rest, has_ended, end_reached}
use Rattle.machine.specs.Take.{current_want, asks, takes, actor_begun, has_joined}
use Rattle.wedge_base.specs.declared.rights.End.{End}
use Rattle.machine.specs.declared.phase.Phase.{Phase}
use Rattle.machine.specs.declared.phase.Phase.TheVariants as phase

-- every actor and every cell, with the image of the run
pub record WorldState : Type 0 where
  pub image : Image
  pub cells : Cells
  pub actors : List ActorState

-- the world as a run of the image begins: the root alone
abbrev pub initial_state : Image → WorldState
initial_state i = record { image = i; cells = opening_cells i; actors = root i ∷ [] }

-- the actor of a name
abbrev pub actor_named : List ActorState → List ℕ → Option ActorState
actor_named actors name = find (λ a. same a.name name) actors

-- an actor put in the place of the one of its name, or at the end
abbrev pub put_actor : List ActorState → ActorState → List ActorState
put_actor [] a = a ∷ []
put_actor (b ∷ bs) a = if same b.name a.name then a ∷ bs else b ∷ put_actor bs a

-- the world with an actor as it now is
abbrev pub with_actor : WorldState → ActorState → WorldState
with_actor w a = record w { actors = put_actor w.actors a }

-- a turn's event, and the world after it
pub record Taken : Type 0 where
  pub event : Event
  pub world : WorldState

-- the actors with the one that an event began, if it began one, behind the others
abbrev pub with_begun : List ActorState → Option ActorState → List ActorState
with_begun actors None = actors
with_begun actors (Some a) = actors ++ a ∷ []

-- an event takes place: its cell goes on, the actor takes the reply, and an actor may begin by it
abbrev pub apply_event : WorldState → ActorState → Event → Taken
apply_event w a e = record {
  event = e;
  world = record w { cells = cells_after w.cells e; actors = with_begun (put_actor w.actors (takes w.image a e)) (actor_begun w.image a e) };
}

-- the end of an actor that is there and has ended, and the fuel that it has left
abbrev pub ended_with : Option ActorState → Option (End × ℕ)
ended_with None = None
ended_with (Some c) = option_map (λ e. (e, c.fuel)) (end_reached c.phase)

-- a join gives the end and the fuel of a child that has ended
abbrev pub join_event : ℕ → Option ActorState → Option Event
join_event k c = option_map (λ (x : End × ℕ). event.Join k x.0 x.1) (ended_with c)

-- a recycled gate is entered while no run is in it
abbrev pub gate_event : Cells → GateId → GateAsk → Option Event
gate_event c id (gate_ask.Enter run first) = if (kept_in c id).entered then None else event_of c (ask.Gate id (gate_ask.Enter run first))
gate_event c id (gate_ask.Leave e memory) = event_of c (ask.Gate id (gate_ask.Leave e memory))

-- The event that an actor comes to with what it wants, if it can be now: a start and the entry and
-- the leave of a fresh gate take place at once, a join once the child has ended, the entry of a
-- recycled gate once it is free, and any other when its cell is asked.
abbrev pub event_at : WorldState → ActorState → Want → Option Event
event_at w a (want.Start child) = Some (event.Start child)
event_at w a (want.Enter run) = Some (event.Enter run)
event_at w a (want.Leave e) = Some (event.Leave e)
event_at w a (want.Join k) = join_event k (actor_named w.actors (child_name a.name k))
event_at w a (want.Gate id q) = gate_event w.cells id q
event_at w a q = event_of w.cells (asks a (live_at w.cells q) q)

abbrev pub wanting : WorldState → ActorState → Option Want → Option Taken
wanting w a None = None
wanting w a (Some q) = option_map (apply_event w a) (event_at w a q)

-- an actor that waits for the run of a gate goes on once the run has ended: with its end and its
-- fuel, as from a join
abbrev pub resumes : ActorState → ℕ → Option (End × ℕ) → ActorState
resumes a k None = a
resumes a k (Some x) = has_joined a k x.0 x.1

abbrev pub ready_at : List ActorState → ActorState → Phase → ActorState
ready_at actors a (phase.Waiting k) = resumes a k (ended_with (actor_named actors (child_name a.name k)))
ready_at actors a p = a

abbrev pub ready : List ActorState → ActorState → ActorState
ready actors a = ready_at actors a a.phase

-- the world in which it has gone on
abbrev pub resumed : WorldState → ActorState → WorldState
resumed w a = with_actor w (ready w.actors a)

abbrev pub turn_in : WorldState → ActorState → Option Taken
turn_in w a = (let b = rest w.image a in wanting w b (current_want b))

abbrev pub turn_with : WorldState → Option ActorState → Option Taken
turn_with w None = None
turn_with w (Some a) = turn_in (resumed w a) (ready w.actors a)

-- a turn: an actor goes on if it waited for a run that has ended, makes its local steps, and then
-- one shared event; there is at most one outcome
unfoldable pub turn_of : WorldState → List ℕ → Option Taken
turn_of w name = turn_with w (actor_named w.actors name)

-- from old, these turns lead to new
abbrev pub Runs : WorldState → List Turn → WorldState → Type 0
Runs old [] new = new ≡ old
Runs old (t ∷ ts) new = (mid : WorldState) × (turn_of old t.actor ≡ Some (record { event = t.event; world = mid })) × Runs mid ts new

abbrev pub is_ended : Option ActorState → Bool
is_ended None = false
is_ended (Some a) = has_ended a.phase

-- a run is complete once its root has ended
abbrev pub is_complete : WorldState → Bool
is_complete w = is_ended (actor_named w.actors root_name)

-- an actor at rest in a world, once it has gone on
abbrev pub at_rest : WorldState → ActorState → ActorState
at_rest w a = rest w.image (ready w.actors a)

-- the world with every actor at rest: two worlds that are equal so differ in local steps alone
abbrev pub all_at_rest : WorldState → WorldState
all_at_rest w = record w { actors = map (at_rest w) w.actors }
