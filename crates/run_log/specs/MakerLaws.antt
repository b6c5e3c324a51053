-- Who made what the notes name: each tag of which a log has a maker was opened in its run by an
-- actor of that compartment at that address, and each path of a descriptor is that of a file that
-- was opened there. Each tag that was opened has a maker, and each descriptor of a file a path.
use Rattle.std.specs.Prelude.{◌≡◌, ℕ, true, List, ◌∷◌, ◌++◌, map, Some, is_some}
use Rattle.std.specs.List.{Contains}
use Rattle.wedge_base.specs.Images.{Image}
use Rattle.wedge_base.specs.Maps.{at}
use Rattle.wedge_base.specs.declared.rights.StreamKind.{StreamKind}
use Rattle.wedge_events.specs.declared.cells.SlotAsk.TheVariants as slot_ask
use Rattle.wedge_events.specs.declared.cells.SlotReply.TheVariants as slot_reply
use Rattle.wedge_events.specs.declared.cells.StreamAsk.TheVariants as stream_ask
use Rattle.wedge_events.specs.declared.cells.StreamReply.TheVariants as stream_reply
use Rattle.wedge_events.specs.declared.events.Event.{Event}
use Rattle.wedge_events.specs.declared.events.Event.TheVariants as event
use Rattle.wedge_events.specs.declared.events.Turn.{Turn}
use Rattle.machine.specs.Actors.{ActorState}
use Rattle.machine.specs.Opening.{FileOpening}
use Rattle.machine.specs.Worlds.{WorldState, initial_state, actor_named, at_rest, Runs}
use Rattle.machine.specs.declared.phase.Phase.TheVariants as phase
use Rattle.run_notes.specs.declared.items.Origin.{Origin}
use Rattle.run_log.specs.NoteLaws.{log_so_far}

-- one of these turns has this event, and this was its actor as it came to it
pub record HasTaken (old : WorldState) (turns : List Turn) (e : Event) (b : ActorState)
    : Type 0 where
  pub before : List Turn
  pub after : List Turn
  pub turn : Turn
  pub split : turns ≡ before ++ turn ∷ after
  pub event : turn.event ≡ e
  pub world : WorldState
  pub reached : Runs old before world
  pub actor : ActorState
  pub named : actor_named world.actors turn.actor ≡ Some actor
  pub rests : b ≡ at_rest world actor

-- a tag was opened by an actor of this compartment, at this address
pub record IsMadeBy (old : WorldState) (turns : List Turn) (tag : ℕ) (o : Origin) : Type 0 where
  pub slot : ℕ
  pub pages : ℕ
  pub maker : ActorState
  pub taken : HasTaken old turns (event.Slot slot (slot_ask.Open tag pages) slot_reply.Opened) maker
  pub is : o ≡ record { compartment = maker.compartment; pc = maker.hart.pc }

-- the file of this path was opened as a descriptor
pub record IsOpenedAs (old : WorldState) (turns : List Turn) (fd : ℕ) (path : List ℕ)
    : Type 0 where
  pub opener : ActorState
  pub opening : FileOpening
  pub at : opener.phase ≡ phase.OpeningFile opening
  pub taken : HasTaken old turns
      (event.Fd fd (stream_ask.Open opening.kind opening.bytes) stream_reply.Opened) opener
  pub is : path ≡ opening.path

-- one of these turns has this event
abbrev pub HasEvent : List Turn → Event → Type 0
HasEvent turns e = Contains (map (λ t. t.event) turns) e

pub record MakersAreKnown (i : Image) (turns : List Turn) : Type 0 where
  pub tags : (tag : ℕ) (o : Origin)
      → at (log_so_far i turns).makings.tags tag ≡ Some o → IsMadeBy (initial_state i) turns tag o
  pub files : (fd : ℕ) (path : List ℕ)
      → at (log_so_far i turns).makings.files fd ≡ Some path
      → IsOpenedAs (initial_state i) turns fd path
  pub opened_tags : (slot tag pages : ℕ)
      → HasEvent turns (event.Slot slot (slot_ask.Open tag pages) slot_reply.Opened)
      → is_some (at (log_so_far i turns).makings.tags tag) ≡ true
  pub opened_files : (fd : ℕ) (k : StreamKind) (bytes : List ℕ)
      → HasEvent turns (event.Fd fd (stream_ask.Open k bytes) stream_reply.Opened)
      → is_some (at (log_so_far i turns).makings.files fd) ≡ true

-- so it is in every run
abbrev pub MakersAreOfTheRun : Type 0
MakersAreOfTheRun = (i : Image) (turns : List Turn) (w : WorldState)
    → Runs (initial_state i) turns w → MakersAreKnown i turns
