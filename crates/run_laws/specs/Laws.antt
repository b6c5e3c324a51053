-- What holds of every run.
use Rattle.std.specs.Prelude.{◌≡◌, ◌≤◌, ◌-◌, ◌*◌, ◌++◌, ℕ, length, true, false, List, [], slice_get, Option, Some, None, option_map}
use Rattle.wedge_base.specs.Bytes.{zeros}
use Rattle.wedge_base.specs.Images.{Image}
use Rattle.wedge_base.specs.declared.image.FdEntry.{FdEntry}
use Rattle.wedge_base.specs.declared.image.TagEntry.{TagEntry}
use Rattle.wedge_events.specs.Slots.{Segment}
use Rattle.wedge_events.specs.Streams.{Stream}
use Rattle.wedge_events.specs.Lives.{most_lives}
use Rattle.wedge_events.specs.declared.events.Event.{Event}
use Rattle.wedge_events.specs.declared.events.Turn.{Turn}
use Rattle.wedge_events.specs.declared.events.Want.{Want}
use Rattle.machine.specs.Actors.{ActorState}
use Rattle.wedge_base.specs.declared.grants.GateId.{GateId}
use Rattle.machine.specs.Cells.{slot_in, stream_in, kept_in}
use Rattle.machine.specs.Local.{has_ended, run_local}
use Rattle.wedge_base.specs.Sheets.{Draft, grant_count, most_grants}
use Rattle.grant_sheet.specs.Missing.{IsSortedDraft}
use Rattle.machine.specs.Worlds.{WorldState, initial_state, actor_named, with_actor, ready, Runs, is_complete}
use Rattle.run_laws.specs.Names.{AreDistinct}
use Rattle.run_laws.specs.Fuel.{fuel_of, most_turns, TakesItsUnits}
use Rattle.run_laws.specs.Bounds.{IsWithinRoot}
use Rattle.run_laws.specs.Occupancy.{AreOccupied, SlotsSuit}
use Rattle.run_laws.specs.FittingAsks.{TurnFits}
use Rattle.run_laws.specs.MemoryRanges.{KeepsRanges}
use Rattle.run_laws.specs.Written.{BytesFollow, TurnWritesOwn, FlowsFollow, TurnAppendsOwn}
use Rattle.run_laws.specs.Readers.{TurnLoadsOwn, TurnReadsOwn}
use Rattle.run_laws.specs.LiveSthreads.{lives_in}
use Rattle.run_laws.specs.CellHistories.{CellsFollow}
use Rattle.run_laws.specs.Moments.{EachTurn, EachMoment, EachInstructionOf, GoesOnAs, IsMediated}
use Rattle.run_laws.specs.Ends.{EndsByCause, GoesOn}
use Rattle.run_laws.specs.Refusals.{RefusesByRow}
use Rattle.run_laws.specs.Paying.{Pays}
use Rattle.run_laws.specs.Drafting.{EditsDrafts}
use Rattle.run_laws.specs.Families.{KeepsFamily}
use Rattle.run_laws.specs.Asking.{AsksByWord}
use Rattle.run_laws.specs.FileCalls.{OpensByRight}
use Rattle.run_laws.specs.TagCalls.{MakesTags}
use Rattle.run_laws.specs.GateCalls.{MakesGates}
use Rattle.run_laws.specs.ChildCopies.{MakesCopies, SnapsForCopies}
use Rattle.run_laws.specs.CopiesGranted.{HasCopiesGranted}
use Rattle.run_laws.specs.KnownGates.{AreGatesKept}
use Rattle.run_laws.specs.Isolation.{IsAccess, TakesSameTurns}
use Rattle.run_laws.specs.RecycledGates.{AreRunsAlone}
use Rattle.run_laws.specs.GatesWithin.{NoneHoldsItsOwn, AreHeldOlder}
use Rattle.run_laws.specs.Remembering.{Remembers}
use Rattle.run_laws.specs.TakingPlace.{EachTurnOn, CallsTakePlace}

-- what holds of a moment: the image stays, its request is mediated, a call is refused by its row,
-- an actor ends by its cause, it goes on as it should, it pays what the moment costs, its drafts
-- are as its calls made them, its private bytes are those that it stored, it starts and joins its
-- own children alone, none of which has more rights than it has, it comes to the event that its
-- word says and asks there what it came for, it makes tags by its own claims alone, it opens the
-- files alone that an allowed call asks for, the copies with which its children and the runs of its
-- gates begin are made of its own copies and of the tags as they are then, and tags are copied for
-- nothing else; and it makes gates by its own calls alone
pub record IsLawful (old : WorldState) (a : ActorState) (e : Option Event) (new : WorldState) : Type 0 where
  pub image : new.image ≡ old.image
  pub mediated : IsMediated old a e new
  pub ends : EndsByCause old a e new
  pub goes : GoesOn old a e new
  pub refuses : RefusesByRow old a e new
  pub pays : Pays old a e new
  pub edits : EditsDrafts old a e new
  pub remembers : Remembers old a e new
  pub family : KeepsFamily old a e new
  pub asks : AsksByWord old a e new
  pub makes : MakesTags old a e new
  pub opens : OpensByRight old a e
  pub copies : MakesCopies old a e new
  pub snaps : SnapsForCopies a e
  pub gates : MakesGates old a e new

-- each moment of each run is lawful
abbrev pub MomentsAreLawful : Type 0
MomentsAreLawful = (i : Image) (turns : List Turn) (new : WorldState) → Runs (initial_state i) turns new → EachMoment IsLawful (initial_state i) turns

-- and so is each instruction that an actor of a world of a run can carry out before its next event,
-- whether a turn of it can be taken there or not
abbrev pub InstructionsAreLawful : Type 0
InstructionsAreLawful = (i : Image) (turns : List Turn) (w : WorldState) → Runs (initial_state i) turns w → (name : List ℕ) (a : ActorState) → actor_named w.actors name ≡ Some a
    → (b : ActorState) → GoesOnAs w.actors a a.phase b → EachInstructionOf IsLawful (with_actor w b) b

-- in every world of a run the count of live sthreads is that of the lives which its actors hold, and
-- there are no more than may live at a time
abbrev pub LivesAreCounted : Type 0
LivesAreCounted = (i : Image) (turns : List Turn) (w : WorldState) → Runs (initial_state i) turns w → (w.cells.lives ≡ lives_in w.actors) × (lives_in w.actors ≤ most_lives)

-- after each run the bytes in each slot are those that the image declares, with what the run wrote
-- over them in order, and in each turn of it whoever stores into a slot may store to the tag that
-- lives there; each stream is as the image declares it, with what the run added and took, and
-- whoever appends to it may; and whatever else the cells hold is changed by their own events alone
pub record IsWrittenByOwners (i : Image) (turns : List Turn) (new : WorldState) : Type 0 where
  pub follow : BytesFollow (initial_state i).cells turns new.cells
  pub writers : EachTurn TurnWritesOwn (initial_state i) turns
  pub flows : FlowsFollow (initial_state i).cells turns new.cells
  pub appenders : EachTurn TurnAppendsOwn (initial_state i) turns
  pub cells : CellsFollow (initial_state i).cells turns new.cells

abbrev pub RunsWriteTheirOwn : Type 0
RunsWriteTheirOwn = (i : Image) (turns : List Turn) (new : WorldState) → Runs (initial_state i) turns new → IsWrittenByOwners i turns new

-- in each turn of a run, whoever loads from a slot may load from the tag that lives there, and
-- whoever is given bytes of a descriptor may read it
pub record IsReadByHolders (i : Image) (turns : List Turn) : Type 0 where
  pub loaders : EachTurn TurnLoadsOwn (initial_state i) turns
  pub readers : EachTurn TurnReadsOwn (initial_state i) turns

abbrev pub RunsReadTheirOwn : Type 0
RunsReadTheirOwn = (i : Image) (turns : List Turn) (new : WorldState) → Runs (initial_state i) turns new → IsReadByHolders i turns

-- a declared tag as a run begins: its content, then zeros up to its pages, and no blocks; and a
-- declared stream: open, with its content, at the beginning of it
abbrev pub tag_declared : ℕ → TagEntry → Segment
tag_declared number t = record { tag = number; bytes = t.content ++ zeros (t.pages * 4096 - length t.content); blocks = [] }

abbrev pub stream_declared : FdEntry → Stream
stream_declared f = record { kind = f.kind; bytes = f.content; position = 0; live = true }

-- As a run begins, the first of 4,096 slots have the declared tags, and the first of 1,024
-- descriptors the declared streams, in order; nothing else is claimed; one sthread lives, the root;
-- and each recycled gate is free, with nothing kept.
pub record CellsOpen (i : Image) : Type 0 where
  pub places : (initial_state i).cells.places ≡ record { places = 4096; number = length i.tags; unused = length i.tags; released = [] }
  pub slots : (slot : ℕ) → slot_in (initial_state i).cells slot ≡ option_map (tag_declared slot) (slice_get i.tags slot)
  pub numbers : (initial_state i).cells.numbers ≡ record { places = 1024; number = length i.fds; unused = length i.fds; released = [] }
  pub streams : (fd : ℕ) → stream_in (initial_state i).cells fd ≡ option_map stream_declared (slice_get i.fds fd)
  pub lives : (initial_state i).cells.lives ≡ 1
  pub gates : (id : GateId) → kept_in (initial_state i).cells id ≡ record { entered = false; kept = None }

-- no two actors of a world have one name
abbrev pub NamesAreDistinct : Type 0
NamesAreDistinct = (i : Image) (turns : List Turn) (new : WorldState) → Runs (initial_state i) turns new → AreDistinct new.actors

-- in each run the fuel of the actors that are not joined is in sum that of the image, and each turn
-- lowers the sum by exactly the units that it takes
abbrev pub FuelIsKept : Type 0
FuelIsKept = (i : Image) (turns : List Turn) (new : WorldState) → Runs (initial_state i) turns new → (fuel_of (initial_state i) ≡ i.fuel) × EachTurn TakesItsUnits (initial_state i) turns

-- in each world of a run no actor has a right on a declared tag, or bits on a declared descriptor,
-- that the root did not begin with, nor a user or a root directory that the root could not give
abbrev pub RootBounds : Type 0
RootBounds = (i : Image) (turns : List Turn) (new : WorldState) → Runs (initial_state i) turns new → (name : List ℕ) (a : ActorState) → actor_named new.actors name ≡ Some a → IsWithinRoot i a

-- in each run the slots and the tags are as they should be: after each run, and as each turn asks
pub record AreSlotsKept (i : Image) (turns : List Turn) (new : WorldState) : Type 0 where
  pub occupied : AreOccupied new.cells new.actors
  pub suit : EachTurn SlotsSuit (initial_state i) turns

abbrev pub SlotsAreOccupied : Type 0
SlotsAreOccupied = (i : Image) (turns : List Turn) (new : WorldState) → Runs (initial_state i) turns new → AreSlotsKept i turns new

-- and in each turn what is asked of a cell fits the cell
abbrev pub AsksFit : Type 0
AsksFit = (i : Image) (turns : List Turn) (new : WorldState) → Runs (initial_state i) turns new → EachTurn TurnFits (initial_state i) turns

-- in each world of a run every private memory has the ranges of the image
abbrev pub RangesAreKept : Type 0
RangesAreKept = (i : Image) (turns : List Turn) (new : WorldState) → Runs (initial_state i) turns new → KeepsRanges i new.cells new.actors

-- in each world of a run, each private copy of an actor is at the slot of a grant of a copy on its
-- sheet, and each copy with which the runs of a gate begin that it knows is at the slot of one on
-- the gate's sheet
abbrev pub CopiesAreGranted : Type 0
CopiesAreGranted = (i : Image) (turns : List Turn) (new : WorldState) → Runs (initial_state i) turns new → (name : List ℕ) (a : ActorState) → actor_named new.actors name ≡ Some a
    → HasCopiesGranted a

-- in each world of a run, actors know the gates that they hold, as their makers made them
abbrev pub GatesAreKept : Type 0
GatesAreKept = (i : Image) (turns : List Turn) (new : WorldState) → Runs (initial_state i) turns new → AreGatesKept new.actors

-- in each world of a run each run of a gate has its gate's sheet with what was lent to it, and is
-- alone in a recycled one
abbrev pub RunsAreAlone : Type 0
RunsAreAlone = (i : Image) (turns : List Turn) (new : WorldState) → Runs (initial_state i) turns new → AreRunsAlone new.cells new.actors

-- in each world of a run no actor at or under a run of a gate holds that gate
abbrev pub NoneRunsWithin : Type 0
NoneRunsWithin = (i : Image) (turns : List Turn) (new : WorldState) → Runs (initial_state i) turns new → NoneHoldsItsOwn new.actors

-- and each gate that it holds is older than that one, or was made at or under the run
abbrev pub GatesHeldAreOlder : Type 0
GatesHeldAreOlder = (i : Image) (turns : List Turn) (new : WorldState) → Runs (initial_state i) turns new → AreHeldOlder new.actors

-- what an actor loads, stores, reads and appends goes by what it may see, and by nothing else
abbrev pub AccessesAreIsolated : Type 0
AccessesAreIsolated = (v w : WorldState) (name : List ℕ) (a : ActorState) (q : Want) → IsAccess v w name a q → TakesSameTurns v w name

-- so every run ends: it has at most so many turns
abbrev pub RunsEnd : Type 0
RunsEnd = (i : Image) (turns : List Turn) (new : WorldState) → Runs (initial_state i) turns new → length turns ≤ most_turns i.fuel

-- in each world of a run an actor that has ended has joined everyone that it began
abbrev pub EndedHaveJoinedAll : Type 0
EndedHaveJoinedAll = (i : Image) (turns : List Turn) (new : WorldState) → Runs (initial_state i) turns new → (name : List ℕ) (a : ActorState) → actor_named new.actors name ≡ Some a → has_ended a.phase ≡ true
    → a.unjoined ≡ []

-- so once the root has ended, every actor has
abbrev pub AllHaveEnded : Type 0
AllHaveEnded = (i : Image) (turns : List Turn) (last : WorldState) → Runs (initial_state i) turns last → is_complete last ≡ true → (name : List ℕ) (a : ActorState) → actor_named last.actors name ≡ Some a
    → has_ended a.phase ≡ true

-- whoever's turn comes next in a world of a run, its drafts have their items in order, and at most
-- 1,024 grants each, after each of the instructions of that turn: so their first excess is what is
-- missing of them first
abbrev pub DraftsAreSorted : Type 0
DraftsAreSorted = (i : Image) (turns : List Turn) (w : WorldState) → Runs (initial_state i) turns w → (name : List ℕ) (a : ActorState) → actor_named w.actors name ≡ Some a
    → (n k : ℕ) (d : Draft) → slice_get (run_local w.image n (ready w.actors a)).drafts k ≡ Some d → IsSortedDraft d × (grant_count d ≤ most_grants)

-- in each run, each call that is allowed and not refused takes place from its turn on
abbrev pub AllowedCallsTakePlace : Type 0
AllowedCallsTakePlace = (i : Image) (turns : List Turn) (last : WorldState) → Runs (initial_state i) turns last → EachTurnOn CallsTakePlace (initial_state i) turns
