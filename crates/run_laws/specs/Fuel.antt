-- The fuel of a world: what its actors have, but for those that were joined; and the units that a
-- turn takes.
use Rattle.std.specs.Prelude.{◌≡◌, ℕ, zero, suc, ◌+◌, ◌*◌, length, Bool, true, false, ◌||◌, List, [], ◌∷◌, Option, Some, None, if◌then◌else◌}
use Rattle.wedge_base.specs.Images.{Image}
use Rattle.wedge_base.specs.Names.{same, root_name}
use Rattle.wedge_base.specs.Sheets.{most_grants}
use Rattle.wedge_events.specs.declared.events.Event.{Event}
use Rattle.wedge_events.specs.declared.events.Turn.{Turn}
use Rattle.machine.specs.declared.phase.Phase.{Phase}
use Rattle.machine.specs.declared.phase.Phase.TheVariants as phase
use Rattle.machine.specs.Actors.{ActorState}
use Rattle.machine.specs.Children.{is_child}
use Rattle.machine.specs.Local.{step, is_running, rest}
use Rattle.run_laws.specs.Paying.{cost_at, cost_by}
use Rattle.machine.specs.Worlds.{WorldState, actor_named, ready}

-- the name of the actor that started the actor of a name, and the number of that start
abbrev pub starter_of : List ℕ → List ℕ
starter_of [] = []
starter_of (k ∷ []) = []
starter_of (k ∷ l ∷ ks) = k ∷ starter_of (l ∷ ks)

abbrev pub number_in : List ℕ → ℕ
number_in [] = 0
number_in (k ∷ []) = k
number_in (k ∷ l ∷ ks) = number_in (l ∷ ks)

abbrev pub has_child : Option ActorState → ℕ → Bool
has_child None k = false
has_child (Some a) k = is_child a.unjoined k

-- an actor is still to be joined: the root always is, and any other while it is among the children
-- of its starter
abbrev pub is_unjoined : List ActorState → List ℕ → Bool
is_unjoined actors name = same name root_name || has_child (actor_named actors (starter_of name)) (number_in name)

abbrev pub fuel_where : (List ℕ → Bool) → List ActorState → ℕ
fuel_where counts [] = 0
fuel_where counts (a ∷ as_) = (if counts a.name then a.fuel else 0) + fuel_where counts as_

-- the fuel of the actors that are still to be joined
abbrev pub fuel_in : List ActorState → ℕ
fuel_in actors = fuel_where (is_unjoined actors) actors

abbrev pub fuel_of : WorldState → ℕ
fuel_of w = fuel_in w.actors

-- the units that so many instructions of an actor take, while it runs
unfoldable pub units_of : Image → ℕ → ActorState → ℕ
units_of i zero a = 0
units_of i (suc n) a = elim (is_running a.phase) [ true ↦ cost_at i a + units_of i n (step i a) | false ↦ 0 ]

-- those of a turn: its instructions, and its event
abbrev pub units_of_turn : Image → ActorState → Event → ℕ
units_of_turn i a e = units_of i (a.fuel + 1) a + cost_by (rest i a) e

-- a turn lowers the fuel of its world by exactly its units
abbrev pub TakesItsUnits : WorldState → Turn → WorldState → Type 0
TakesItsUnits old t new = (a : ActorState) → actor_named old.actors t.actor ≡ Some a
    → fuel_of new + units_of_turn old.image (ready old.actors a) t.event ≡ fuel_of old

-- ---- the work that is left

-- What is left to do, of which each turn takes some away: for each unit of fuel, what each actor's
-- phase has to do, and one for each child that is to be joined. A call may start a child with as
-- many copies of tags as a draft has grants, each by a turn of its own.
abbrev pub unit_work : ℕ
unit_work = 4 + most_grants

abbrev pub opening_work : Option ℕ → ℕ
opening_work None = 5
opening_work (Some fd) = 4

abbrev pub phase_work : Phase → ℕ
phase_work phase.Running = 1
phase_work (phase.Within q) = 5 + most_grants
phase_work (phase.Starting p) = 4 + length p.left
phase_work (phase.MakingGate p) = 4 + length p.left
phase_work (phase.Opening slot tag) = 4
phase_work (phase.Releasing slot) = 4
phase_work (phase.Entering entrance) = 4
phase_work (phase.Waiting number) = 1
phase_work (phase.OpeningFile o) = opening_work o.number
phase_work (phase.Ending e) = 1
phase_work (phase.Ended e) = 0

abbrev pub tasks_of : ActorState → ℕ
tasks_of a = phase_work a.phase + length a.unjoined

abbrev pub tasks_in : List ActorState → ℕ
tasks_in [] = 0
tasks_in (a ∷ as_) = tasks_of a + tasks_in as_

abbrev pub work_left : WorldState → ℕ
work_left w = unit_work * fuel_of w + tasks_in w.actors

-- the most turns of a run with so much fuel: the work of its root
abbrev pub most_turns : ℕ → ℕ
most_turns fuel = unit_work * fuel + 1
