-- What holds of the slots and the tags of every run: a slot was never used, or was released, or is
-- held by the call of one actor, or one tag lives there; and a tag lives nowhere but in the slot in
-- which those that hold it have it.
use Rattle.std.specs.Prelude.{◌≡◌, ℕ, ◌<◌, ◌≤◌, true, false, List, length, Option, Some, None, ◌+◌, ◌⊎◌, [], ◌∷◌}
use Rattle.wedge_events.specs.Directories.{is_claimed, no_number}
use Rattle.wedge_base.specs.Images.{Image, most_pages}
use Rattle.wedge_base.specs.Sheets.{slot_on, nothing_made}
use Rattle.wedge_events.specs.declared.cells.DirectoryAsk.TheVariants as directory_ask
use Rattle.wedge_events.specs.declared.cells.DirectoryReply.TheVariants as directory_reply
use Rattle.wedge_events.specs.declared.cells.SlotAsk.TheVariants as slot_ask
use Rattle.wedge_events.specs.declared.events.Event.{Event}
use Rattle.wedge_events.specs.declared.events.Event.TheVariants as event
use Rattle.wedge_events.specs.declared.events.Turn.{Turn}
use Rattle.machine.specs.declared.phase.Phase.{Phase}
use Rattle.machine.specs.declared.phase.Phase.TheVariants as phase
use Rattle.machine.specs.Actors.{ActorState}
use Rattle.machine.specs.Cells.{Cells, tag_in}
use Rattle.machine.specs.Worlds.{WorldState, actor_named}
use Rattle.callgate.specs.declared.gate.Gate.{Gate}

-- the slot that a call holds, between its claim and the opening of its tag, or between the close of
-- its tag and its release
abbrev pub slot_of_call : Phase → Option ℕ
slot_of_call (phase.Opening slot tag) = Some slot
slot_of_call (phase.Releasing slot) = Some slot
slot_of_call p = None

-- the number of the tag that a call is about to open
abbrev pub tag_of_call : Phase → Option ℕ
tag_of_call (phase.Opening slot tag) = Some tag
tag_of_call p = None

-- the slot in which an actor has a tag that it holds
abbrev pub slot_known : ActorState → ℕ → Option ℕ
slot_known a tag = slot_on a.sheet a.made tag

-- an actor has a tag in a slot: by its own rights, or by the sheet of a gate that it knows
abbrev pub GateHasIn : List Gate → ℕ → ℕ → Type 0
GateHasIn [] tag slot = ⊥
GateHasIn (g ∷ gs) tag slot = (slot_on g.sheet nothing_made tag ≡ Some slot) ⊎ GateHasIn gs tag slot

abbrev pub HasIn : ActorState → ℕ → ℕ → Type 0
HasIn a tag slot = (slot_known a tag ≡ Some slot) ⊎ GateHasIn a.gates tag slot

-- A tag lives in a claimed slot alone. A call holds a claimed slot in which no tag lives, and no
-- other call holds it; and the other way round, each claimed slot in which no tag lives is held by
-- the call of some actor. Every number is below the directory's next one; no tag lives in two
-- slots, and one that is to be opened lives nowhere, is held by nobody and is to be opened by one
-- call. A tag that an actor holds, or that the sheet of a gate names which it knows, lives, if it
-- does, in the slot in which that actor or that sheet has it, and that slot is one that there is.
pub record AreOccupied (c : Cells) (actors : List ActorState) : Type 0 where
  pub lived : (slot tag : ℕ) → tag_in c slot ≡ Some tag → is_claimed c.places slot ≡ true
  pub called : (name : List ℕ) (a : ActorState) (slot : ℕ) → actor_named actors name ≡ Some a → slot_of_call a.phase ≡ Some slot
      → (is_claimed c.places slot ≡ true) × (tag_in c slot ≡ None)
  pub alone : (m n : List ℕ) (a b : ActorState) (slot : ℕ) → actor_named actors m ≡ Some a → actor_named actors n ≡ Some b → slot_of_call a.phase ≡ Some slot → slot_of_call b.phase ≡ Some slot → m ≡ n
  pub belongs : (slot : ℕ) → is_claimed c.places slot ≡ true → tag_in c slot ≡ None
      → (name : List ℕ) × (a : ActorState) × (actor_named actors name ≡ Some a) × (slot_of_call a.phase ≡ Some slot)
  pub numbered : (slot tag : ℕ) → tag_in c slot ≡ Some tag → tag < c.places.number
  pub apart : (s t tag : ℕ) → tag_in c s ≡ Some tag → tag_in c t ≡ Some tag → s ≡ t
  pub coming : (name : List ℕ) (a : ActorState) (tag : ℕ) → actor_named actors name ≡ Some a → tag_of_call a.phase ≡ Some tag
      → (tag < c.places.number) × ((slot : ℕ) → tag_in c slot ≡ Some tag → ⊥)
  pub once : (m n : List ℕ) (a b : ActorState) (tag : ℕ) → actor_named actors m ≡ Some a → actor_named actors n ≡ Some b → tag_of_call a.phase ≡ Some tag → tag_of_call b.phase ≡ Some tag → m ≡ n
  pub held : (name : List ℕ) (a : ActorState) (tag slot : ℕ) → actor_named actors name ≡ Some a → HasIn a tag slot
      → (tag < c.places.number) × ((s : ℕ) → tag_in c s ≡ Some tag → s ≡ slot) × (slot < length c.slots)
  pub unheld : (m n : List ℕ) (a b : ActorState) (tag slot : ℕ) → actor_named actors m ≡ Some a → actor_named actors n ≡ Some b → tag_of_call a.phase ≡ Some tag → HasIn b tag slot → ⊥

-- the most numbers of tags that a run of an image can use: those that it declares, and one for each
-- unit of its fuel
abbrev pub most_numbers : Image → ℕ
most_numbers i = length i.tags + i.fuel

-- So each ask fits: a slot that is claimed was free and empty, and none is claimed only where every
-- slot is claimed already, since no image has so much fuel that it could use up the numbers of tags;
-- a tag is opened with 1 to 16 pages in a claimed slot in which none lives; and a slot that is
-- released is claimed and none lives there.
abbrev pub AskSuits : Image → Cells → Event → Type 0
AskSuits i c (event.Slots directory_ask.Claim (directory_reply.Claimed slot tag)) = (is_claimed c.places slot ≡ false) × (tag_in c slot ≡ None)
AskSuits i c (event.Slots directory_ask.Claim directory_reply.Full) = most_numbers i < no_number → (slot : ℕ) → slot < c.places.places → is_claimed c.places slot ≡ true
AskSuits i c (event.Slots (directory_ask.Release slot) r) = (is_claimed c.places slot ≡ true) × (tag_in c slot ≡ None)
AskSuits i c (event.Slot slot (slot_ask.Open tag pages) r) = (is_claimed c.places slot ≡ true) × (tag_in c slot ≡ None) × (slot < length c.slots) × (1 ≤ pages) × (pages ≤ most_pages)
AskSuits i c e = Unit {0}

-- and a slot that was released can be claimed again
abbrev pub IsFreed : Event → Cells → Type 0
IsFreed (event.Slots (directory_ask.Release slot) r) c = is_claimed c.places slot ≡ false
IsFreed e c = Unit {0}

abbrev pub SlotsSuit : WorldState → Turn → WorldState → Type 0
SlotsSuit old t new = AskSuits old.image old.cells t.event × IsFreed t.event new.cells
