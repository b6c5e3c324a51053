-- The moments of a run: each instruction of each turn, and its event; and what holds of each. An
-- instruction that makes a request comes to the event at which the request is checked, or is
-- checked in it; where no request is in question, nothing is denied.
use Rattle.std.specs.Prelude.{◌≡◌, ◌↔◌, ℕ, zero, suc, ◌==◌, Bool, true, false, not, ◌&&◌, List, [], ◌∷◌, length, Option, Some, None, is_none, if◌then◌else◌, IsSomeAnd, ◌++◌}
use Rattle.wedge_base.specs.Blocks.{rounded, first_fit}
use Rattle.wedge_events.specs.Slots.{Segment}
use Rattle.wedge_base.specs.declared.rights.Denial.{Denial}
use Rattle.wedge_base.specs.declared.outcome.DenialAt.{DenialAt}
use Rattle.wedge_events.specs.declared.events.SlotWant.TheVariants as slot_want
use Rattle.wedge_events.specs.declared.events.Want.{Want}
use Rattle.wedge_events.specs.declared.events.Want.TheVariants as want
use Rattle.wedge_events.specs.declared.events.Event.{Event}
use Rattle.wedge_events.specs.declared.events.Event.TheVariants as event
use Rattle.wedge_events.specs.declared.events.Turn.{Turn}
use Rattle.wedge_events.specs.declared.cells.SlotAsk.{SlotAsk}
use Rattle.wedge_events.specs.declared.cells.SlotAsk.TheVariants as slot_ask
use Rattle.wedge_events.specs.declared.cells.SlotReply.{SlotReply}
use Rattle.wedge_events.specs.declared.cells.SlotReply.TheVariants as slot_reply
use Rattle.wedge_events.specs.declared.cells.StreamReply.{StreamReply}
use Rattle.wedge_events.specs.declared.cells.StreamReply.TheVariants as stream_reply
use Rattle.machine.specs.declared.phase.Phase.{Phase}
use Rattle.machine.specs.declared.phase.Phase.TheVariants as phase
use Rattle.wedge_base.specs.Sheets.{slot_on}
use Rattle.machine.specs.Actors.{ActorState}
use Rattle.machine.specs.Cells.{slot_in, tag_in}
use Rattle.machine.specs.Local.{is_running, run_local}
use Rattle.machine.specs.Worlds.{WorldState, actor_named, turn_of, with_actor}
use Rattle.run_laws.specs.Requests.{Request, Deletes, Allots, request_at}
use Rattle.run_laws.specs.Allowed.{lacks, is_refused, is_checked_at_event, IsDone, denied, answered_hart, window_address}
use Rattle.run_laws.specs.Families.{after_join}
use Rattle.wedge_base.specs.declared.rights.End.{End}
use Rattle.wedge_base.specs.declared.rights.End.TheVariants as end_

-- of each turn of a run
abbrev pub EachTurn : (WorldState → Turn → WorldState → Type 0) → WorldState → List Turn → Type 0
EachTurn P old [] = Unit {0}
EachTurn P old (t ∷ ts) = (mid : WorldState) × (turn_of old t.actor ≡ Some (record { event = t.event; world = mid })) × P old t mid × EachTurn P mid ts

-- Of each instruction of the actor a, while it runs: P says what holds of a world, its actor, no
-- event, and the world after. The first one begins with the actor as it is, each other one where
-- the one before it ended; and an actor that runs no more stays as it is.
pub record EachInstructionOf (P : WorldState → ActorState → Option Event → WorldState → Type 0) (old : WorldState) (a : ActorState) : Type 0 where
  pub begins : run_local old.image 0 a ≡ a
  pub each : (n : ℕ) → is_running (run_local old.image n a).phase ≡ true
      → P (with_actor old (run_local old.image n a)) (run_local old.image n a) None (with_actor old (run_local old.image (suc n) a))
  pub stays : (n : ℕ) → is_running (run_local old.image n a).phase ≡ false → run_local old.image (suc n) a ≡ run_local old.image n a

-- Of each moment of a turn by the actor a: P says it of each instruction, and of the event, once
-- the actor runs no more.
pub record EachMomentOf (P : WorldState → ActorState → Option Event → WorldState → Type 0) (old : WorldState) (a : ActorState) (e : Event) (new : WorldState) : Type 0 where
  pub instructions : EachInstructionOf P old a
  pub event : (n : ℕ) × (is_running (run_local old.image n a).phase ≡ false) × P (with_actor old (run_local old.image n a)) (run_local old.image n a) (Some e) new

-- An actor that waits for the run of a gate goes on with the end and the fuel of that very run,
-- which has ended; any other goes on as it is.
abbrev pub GoesOnAs : List ActorState → ActorState → Phase → ActorState → Type 0
GoesOnAs actors a (phase.Waiting k) b =
    IsSomeAnd (actor_named actors (a.name ++ k ∷ [])) (λ c. (e : End) × (c.phase ≡ phase.Ended e) × (b ≡ after_join a (phase.Waiting k) k e c.fuel))
GoesOnAs actors a p b = b ≡ a

abbrev pub TurnHas : (WorldState → ActorState → Option Event → WorldState → Type 0) → WorldState → Turn → WorldState → Type 0
TurnHas P old t new = (a : ActorState) → actor_named old.actors t.actor ≡ Some a
    → (b : ActorState) × GoesOnAs old.actors a a.phase b × EachMomentOf P (with_actor old b) b t.event new

-- of each moment of a run
abbrev pub EachMoment : (WorldState → ActorState → Option Event → WorldState → Type 0) → WorldState → List Turn → Type 0
EachMoment P old turns = EachTurn (TurnHas P) old turns

-- the denials of an actor; one that is not there has none
abbrev pub noted_by : Option ActorState → List DenialAt
noted_by None = []
noted_by (Some a) = a.denials

abbrev pub NothingDenied : WorldState → WorldState → Type 0
NothingDenied old new = (name : List ℕ) → noted_by (actor_named new.actors name) ≡ noted_by (actor_named old.actors name)

-- whether an event is a use of what is shared
abbrev pub slot_used : SlotReply → Bool
slot_used (slot_reply.Loaded value) = true
slot_used slot_reply.Stored = true
slot_used (slot_reply.Placed offset) = true
slot_used slot_reply.Freed = true
slot_used slot_reply.Closed = true
slot_used r = false

abbrev pub stream_used : StreamReply → Bool
stream_used (stream_reply.Given bytes) = true
stream_used stream_reply.Appended = true
stream_used stream_reply.Closed = true
stream_used r = false

abbrev pub is_use : Event → Bool
is_use (event.Slot slot q r) = slot_used r
is_use (event.Fd fd q r) = stream_used r
is_use e = false

-- A request of the actor a is checked: it is done exactly where the sheet allows it and nothing
-- else refuses it; where it lacks a grant, the world is as before but that the actor is denied;
-- where not, nothing is; and where something else refuses it, the cells are as before.
pub record IsChecked (old : WorldState) (a : ActorState) (r : Request) (e : Option Event) (new : WorldState) : Type 0 where
  pub done : IsDone a r e (actor_named new.actors a.name) ↔ ((is_none (lacks a r) && not (is_refused a r)) ≡ true)
  pub denied : (d : Denial) → lacks a r ≡ Some d → new ≡ with_actor old (denied a r d)
  pub allowed : lacks a r ≡ None → NothingDenied old new
  pub refused : lacks a r ≡ None → is_refused a r ≡ true → new.cells ≡ old.cells

-- the actor comes to an event, and all else is as before
abbrev pub ComesToEvent : WorldState → ActorState → WorldState → Type 0
ComesToEvent old a new = (q : Want) × (new ≡ with_actor old (record a { phase = phase.Within q }))

-- an instruction with this request, by an actor whose unit of fuel is taken
abbrev pub IsMet : WorldState → ActorState → Option Request → WorldState → Type 0
IsMet old a None new = NothingDenied old new
IsMet old a (Some r) new = elim (is_checked_at_event r) [ true ↦ ComesToEvent old a new | false ↦ IsChecked old a r None new ]

-- an event that uses nothing that is shared, and at which nothing is denied
abbrev pub IsUnused : WorldState → Event → WorldState → Type 0
IsUnused old e new = NothingDenied old new × (is_use e ≡ false)

-- where a block of so many bytes goes in a tag: the tag lives in the slot, and has a gap for it
abbrev pub gap_in : Option Segment → ℕ → ℕ → Option ℕ
gap_in None tag size = None
gap_in (Some g) tag size = if g.tag == tag then first_fit 0 (rounded size) (length g.bytes) g.blocks else None

-- A block is placed in the first gap of the tag that it fits, and its address is answered; where
-- there is none, or the tag lives no more, the cells are as before.
pub record IsPlaced (old : WorldState) (a : ActorState) (slot tag size : ℕ) (e : Event) (new : WorldState) : Type 0 where
  pub quiet : NothingDenied old new
  pub done : (offset : ℕ) → gap_in (slot_in old.cells slot) tag size ≡ Some offset
      → (e ≡ event.Slot slot (slot_ask.Smalloc tag size) (slot_reply.Placed offset)) × (actor_named new.actors a.name ≡ Some (record a { hart = answered_hart a (window_address slot offset) 0; phase = phase.Running }))
  pub none : gap_in (slot_in old.cells slot) tag size ≡ None → (is_use e ≡ false) × (new.cells ≡ old.cells)

-- A tag that lives is closed, and its slot is to be released; where it lives no more, nothing is
-- closed, and the cells are as before.
pub record IsClosed (old : WorldState) (a : ActorState) (slot tag : ℕ) (e : Event) (new : WorldState) : Type 0 where
  pub quiet : NothingDenied old new
  pub done : tag_in old.cells slot ≡ Some tag
      → (e ≡ event.Slot slot (slot_ask.Close tag) slot_reply.Closed) × (actor_named new.actors a.name ≡ Some (record a { phase = phase.Releasing slot }))
  pub none : (tag_in old.cells slot ≡ Some tag → ⊥) → (is_use e ≡ false) × (new.cells ≡ old.cells)

-- the event to which an allowed request came that was checked in its instruction
abbrev pub IsCompleted : WorldState → ActorState → Event → Request → WorldState → Type 0
IsCompleted old a e (Deletes tag) new = IsSomeAnd (slot_on a.sheet a.made tag) (λ slot. IsClosed old a slot tag e new)
IsCompleted old a e (Allots tag size) new = IsSomeAnd (slot_on a.sheet a.made tag) (λ slot. IsPlaced old a slot tag size e new)
IsCompleted old a e r new = IsUnused old e new

-- an event of an actor that is within an instruction with this request
abbrev pub IsAnswered : WorldState → ActorState → Event → Option Request → WorldState → Type 0
IsAnswered old a e None new = IsUnused old e new
IsAnswered old a e (Some r) new = elim (is_checked_at_event r) [ true ↦ IsChecked old a r (Some e) new | false ↦ IsCompleted old a e r new ]

-- the request of an instruction, if there is fuel for it; and that of the instruction an actor is
-- within
abbrev pub MeetsWith : WorldState → ActorState → ℕ → WorldState → Type 0
MeetsWith old a zero new = NothingDenied old new
MeetsWith old a (suc n) new = IsMet old (record a { fuel = n }) (request_at old.image old.cells (record a { fuel = n })) new

-- An access in the window of a slot where no tag lives, or behind the tag's bytes, is no request:
-- it is Unmapped, its actor ends, and nothing else changes.
pub record IsUnmapped (old : WorldState) (a : ActorState) (slot : ℕ) (e : Event) (new : WorldState) : Type 0 where
  pub asked : SlotAsk
  pub is : e ≡ event.Slot slot asked slot_reply.Unmapped
  pub after : new ≡ with_actor old (record a { phase = phase.Ending end_.Unmapped })

abbrev pub Misses : WorldState → ActorState → Want → Event → Option Request → WorldState → Type 0
Misses old a (want.Slot slot (slot_want.Load offset width)) e None new = IsUnmapped old a slot e new
Misses old a (want.Slot slot (slot_want.Store offset width value)) e None new = IsUnmapped old a slot e new
Misses old a q e r new = Unit {0}

abbrev pub AnswersAt : WorldState → ActorState → Phase → Event → WorldState → Type 0
AnswersAt old a (phase.Within q) e new = IsAnswered old a e (request_at old.image old.cells a) new × Misses old a q e (request_at old.image old.cells a) new
AnswersAt old a p e new = IsAnswered old a e None new

-- each request is mediated
abbrev pub IsMediated : WorldState → ActorState → Option Event → WorldState → Type 0
IsMediated old a None new = MeetsWith old a a.fuel new
IsMediated old a (Some e) new = AnswersAt old a a.phase e new
