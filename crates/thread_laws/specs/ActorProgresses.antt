-- What an actor has done so far, with the actors that it has created, as the thread that runs it comes
-- to know it: it grows by one step at its end.
use Rattle.std.specs.Prelude.{◌≡◌, ℕ, ◌+◌, ◌≤◌, ◌⊎◌, ◌++◌, List, [], ◌∷◌, slice_get, slice_set, true, Option, Some, None}
use Rattle.wedge_base.specs.Images.{Image}
use Rattle.journal_cell.specs.Histories.{greater}
use Rattle.wedge_events.specs.Journals.{cell_of}
use Rattle.wedge_events.specs.declared.events.CellName.{CellName}
use Rattle.wedge_events.specs.declared.events.Event.{Event}
use Rattle.wedge_events.specs.declared.events.Event.TheVariants as event
use Rattle.wedge_events.specs.declared.events.LogEntry.{LogEntry}
use Rattle.machine.specs.declared.phase.Phase.TheVariants as phase
use Rattle.machine.specs.Actors.{ActorState}
use Rattle.machine.specs.Children.{child_name, is_child, fuel_given}
use Rattle.machine.specs.Local.{rest}
use Rattle.machine.specs.Take.{next_start, takes, has_joined, actor_begun}
use Rattle.run_laws.specs.FamilyTrees.{worth}
use Rattle.run_laws.specs.Walks.{IsEntryOf}
use Rattle.thread_laws.specs.Joining.{IsEndOf, IsFamily}
use Rattle.thread_laws.specs.Executions.{name_begun}
use Rattle.thread_laws.specs.declared.gathered.ActorLog.{ActorLog}
use Rattle.thread_laws.specs.declared.gathered.ActorEnd.{ActorEnd}

-- an actor so far: how it began and at which stamp, its entries, its state now, and its clock
pub record ActorProgress : Type 0 where
  pub began : ActorState
  pub low : ℕ
  pub entries : List LogEntry
  pub state : ActorState
  pub clock : ℕ

-- as it is created
abbrev pub at_creation : ActorState → ℕ → ActorProgress
at_creation a clock = record { began = a; low = clock; entries = []; state = a; clock = clock }

-- after its local events, up to its next shared event
abbrev pub after_rest : Image → ActorProgress → ActorProgress
after_rest i r = record r { state = rest i r.state }

-- after one more entry
abbrev pub after_entry : Image → ActorProgress → LogEntry → ActorProgress
after_entry i r e = record r {
  entries = r.entries ++ e ∷ [];
  state = takes i r.state e.event;
  clock = e.stamp;
}

-- after the run of a gate for which it waited, which ended so; it goes on from that run's last stamp
abbrev pub after_run : ActorProgress → ℕ → ActorEnd → ActorProgress
after_run r k t = record r { state = has_joined r.state k t.how t.fuel; clock = t.last }

-- a child that it started, or the run of a gate that it entered: how that began and at which stamp,
-- and how it ended, once the actor has learned it
pub record CreatedActor : Type 0 where
  pub began : ActorState
  pub stamp : ℕ
  pub learned : Option ActorEnd

abbrev pub created_actor : ActorState → ℕ → Option ActorEnd → CreatedActor
created_actor a stamp learned = record { began = a; stamp = stamp; learned = learned }

-- an event that joins no child
abbrev pub NoJoin : Event → Type 0
NoJoin (event.Join k how fuel) = ⊥
NoJoin e = Unit {0}

-- An event of no cell has the stamp one above the clock of its actor. For one of a cell the cell's
-- clock counts too: the contract of `Journaled::enter` says how.
abbrev pub IsStampAfter : Option CellName → ℕ → ℕ → Type 0
IsStampAfter None clock stamp = stamp ≡ clock + 1
IsStampAfter (Some cell) clock stamp = Unit {0}

-- How an actor came to its state now, and the actors that it created, in order: the k-th is at index
-- k - 1. It rests; does an event that creates nobody and joins nobody; creates another; learns how one
-- of them ended; joins it, with a stamp one above the greater of its own clock and the child's last
-- stamp; or goes on from the run of a gate.
pub data IsProgress (i : Image) : ActorProgress → List CreatedActor → Type 0 where
  begun : (a : ActorState) (low : ℕ) (new : ActorProgress) (created : List CreatedActor)
      → new ≡ at_creation a low → created ≡ [] → IsProgress i new created
  rests : (old new : ActorProgress) (created : List CreatedActor)
      → IsProgress i old created → new ≡ after_rest i old → IsProgress i new created
  does : (old new : ActorProgress) (created : List CreatedActor) (e : LogEntry)
      → IsProgress i old created → IsEntryOf old.state old.clock e
      → IsStampAfter (cell_of e.event) old.clock e.stamp
      → name_begun e.event ≡ None → NoJoin e.event
      → new ≡ after_entry i old e → IsProgress i new created
  starts : (old new : ActorProgress) (created more : List CreatedActor) (k : CreatedActor) (e : LogEntry)
      → IsProgress i old created → IsEntryOf old.state old.clock e
      → IsStampAfter (cell_of e.event) old.clock e.stamp
      → actor_begun i old.state e.event ≡ Some k.began
      → k.began.name ≡ child_name old.state.name (next_start old.state)
      → k.began.fuel ≤ old.state.fuel → k.stamp ≡ e.stamp → k.learned ≡ None
      → new ≡ after_entry i old e → more ≡ created ++ k ∷ [] → IsProgress i new more
  learns : (r : ActorProgress) (created more : List CreatedActor) (index : ℕ) (k : CreatedActor)
      (t : ActorEnd)
      → IsProgress i r created → slice_get created index ≡ Some k
      → (k.learned ≡ None) ⊎ (k.learned ≡ Some t) → t.fuel ≤ k.began.fuel
      → more ≡ slice_set created index (record k { learned = Some t }) → IsProgress i r more
  joins : (old new : ActorProgress) (created : List CreatedActor) (e : LogEntry) (index : ℕ)
      (k : CreatedActor) (t : ActorEnd)
      → IsProgress i old created → IsEntryOf old.state old.clock e
      → slice_get created index ≡ Some k → k.learned ≡ Some t
      → is_child old.state.unjoined (index + 1) ≡ true
      → e.event ≡ event.Join (index + 1) t.how t.fuel → e.stamp ≡ greater old.clock t.last + 1
      → new ≡ after_entry i old e → IsProgress i new created
  resumes : (old new : ActorProgress) (created : List CreatedActor) (index : ℕ) (k : CreatedActor)
      (t : ActorEnd)
      → IsProgress i old created → old.state.phase ≡ phase.Waiting (index + 1)
      → slice_get created index ≡ Some k → k.learned ≡ Some t
      → is_child old.state.unjoined (index + 1) ≡ true → old.clock ≤ t.last
      → new ≡ after_run old (index + 1) t → IsProgress i new created

-- the log that an actor left, and how it ended, are those of its progress
pub record IsLogLeft (i : Image) (k : CreatedActor) (way : ActorProgress) (own : ActorLog) (t : ActorEnd) : Type 0 where
  pub began : way.began ≡ k.began
  pub low : way.low ≡ k.stamp
  pub learned : k.learned ≡ Some t
  pub entries : own.entries ≡ way.entries
  pub end_ : IsEndOf way.state own
  pub how : own.end ≡ t.how
  pub fuel : own.fuel ≡ t.fuel
  pub clock : way.clock ≡ t.last

-- the logs of actors that have ended, in order, each followed by those of all that it created
pub data Families (i : Image) : List CreatedActor → List ActorLog → Type 0 where
  nobody : (created : List CreatedActor) (logs : List ActorLog) → created ≡ [] → logs ≡ []
      → Families i created logs
  another : (created more : List CreatedActor) (logs all : List ActorLog) (k : CreatedActor)
      (way : ActorProgress) (its : List CreatedActor) (own : ActorLog) (others : List ActorLog)
      (t : ActorEnd)
      → Families i created logs → IsProgress i way its → IsLogLeft i k way own t
      → Families i its others
      → more ≡ created ++ k ∷ [] → all ≡ logs ++ own ∷ others → Families i more all

-- What the thread returns of an actor that began as `a` at a stamp: its log, those of all that it
-- created, and how it ended.
pub record AreReturned (i : Image) (a : ActorState) (low : ℕ) (own : ActorLog) (others : List ActorLog)
    (t : ActorEnd) : Type 0 where
  pub way : ActorProgress
  pub its : List CreatedActor
  pub progress : IsProgress i way its
  pub left : IsLogLeft i (created_actor a low (Some t)) way own t
  pub others_ : Families i its others

-- so these logs are those of a family; and those of the root are walked
abbrev pub ReturnedLogsAreFamilies : Type 0
ReturnedLogsAreFamilies =
    (i : Image) (a : ActorState) (low : ℕ) (own : ActorLog) (others : List ActorLog) (t : ActorEnd)
    → a.starts ≡ 0 → AreReturned i a low own others t → IsFamily i a low (own ∷ others)

-- one of those that an actor created has this number, and began with so much fuel
pub record IsNumbered (created : List CreatedActor) (number fuel : ℕ) : Type 0 where
  pub index : ℕ
  pub number_ : number ≡ index + 1
  pub one : CreatedActor
  pub there : slice_get created index ≡ Some one
  pub fuel_ : fuel ≡ one.began.fuel

-- What holds of an actor that began with no child to join: it keeps its name, and the gate of which it
-- is a run; those that it has not joined are among those that it created, each with the fuel with
-- which it began; and it has at most the fuel with which it began itself.
pub record KeepsAccount (r : ActorProgress) (created : List CreatedActor) : Type 0 where
  pub name : r.state.name ≡ r.began.name
  pub run_of : r.state.run_of ≡ r.began.run_of
  pub created_ : (number fuel : ℕ) → fuel_given r.state.unjoined number ≡ Some fuel
      → IsNumbered created number fuel
  pub learned : (index : ℕ) (k : CreatedActor) (t : ActorEnd) → slice_get created index ≡ Some k
      → k.learned ≡ Some t → t.fuel ≤ k.began.fuel
  pub fuel : worth r.state ≤ r.began.fuel

abbrev pub ProgressKeepsAccount : Type 0
ProgressKeepsAccount = (i : Image) (r : ActorProgress) (created : List CreatedActor)
    → r.began.starts ≡ 0 → r.began.unjoined ≡ [] → IsProgress i r created → KeepsAccount r created
