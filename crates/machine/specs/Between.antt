-- What holds of an actor outside its instructions, of what it wants, and of the events that it
-- takes.
use Rattle.std.specs.Prelude.{◌≡◌, ℕ, ◌+◌, ◌<◌, ◌≤◌, true, List, length, Option, Some, None, IsSomeAnd}
use Rattle.std.specs.List.{AllByRecursion}
use Rattle.wedge_events.specs.Directories.{Directory}
use Rattle.wedge_base.specs.Names.{most_parts}
use Rattle.wedge_base.specs.declared.grants.GateId.{GateId}
use Rattle.wedge_base.specs.declared.grants.GateKind.TheVariants as gate_kind
use Rattle.wedge_base.specs.Sheets.{Sheet, Made, Draft, first_excess}
use Rattle.wedge_base.specs.Images.{slots, window, most_pages}
use Rattle.wedge_events.specs.Slots.{IsAligned}
use Rattle.wedge_events.specs.Streams.{most_fds}
use Rattle.wedge_events.specs.declared.events.Event.{Event}
use Rattle.wedge_events.specs.declared.events.Event.TheVariants as event
use Rattle.wedge_events.specs.declared.events.SlotWant.TheVariants as slot_want
use Rattle.wedge_events.specs.declared.events.Want.{Want}
use Rattle.wedge_events.specs.declared.events.Want.TheVariants as want
use Rattle.wedge_events.specs.declared.cells.DirectoryAsk.TheVariants as directory_ask
use Rattle.wedge_events.specs.declared.cells.DirectoryReply.TheVariants as directory_reply
use Rattle.wedge_events.specs.declared.cells.GateAsk.TheVariants as gate_ask
use Rattle.wedge_events.specs.declared.cells.LivesAsk.TheVariants as lives_ask
use Rattle.wedge_events.specs.declared.cells.SlotReply.TheVariants as slot_reply
use Rattle.wedge_events.specs.declared.cells.StreamAsk.{StreamAsk}
use Rattle.wedge_events.specs.declared.cells.StreamAsk.TheVariants as stream_ask
use Rattle.wedge_events.specs.declared.cells.StreamReply.TheVariants as stream_reply
use Rattle.image_form.specs.Rules.{most_fuel}
use Rattle.rv_hart.specs.declared.Hart.{Hart}
use Rattle.rv_hart.specs.Local.{reg}
use Rattle.machine.specs.Actors.{ActorState}
use Rattle.machine.specs.Children.{Children, fuel_given, is_child, all_given, child_name}
use Rattle.machine.specs.Calls.{draft_at}
use Rattle.machine.specs.declared.copy_grant.CopyGrant.{CopyGrant}
use Rattle.machine.specs.declared.phase.Phase.{Phase}
use Rattle.machine.specs.declared.phase.Phase.TheVariants as phase
use Rattle.machine.specs.Entrance.{Entrance}
use Rattle.callgate.specs.declared.gate.Gate.{Gate}

-- not inside an instruction: it runs, its end is decided, or it has ended
abbrev pub IsBetween : Phase → Type 0
IsBetween phase.Running = Unit {0}
IsBetween (phase.Within q) = ⊥
IsBetween (phase.Starting p) = ⊥
IsBetween (phase.MakingGate p) = ⊥
IsBetween (phase.Opening slot tag) = ⊥
IsBetween (phase.Releasing slot) = ⊥
IsBetween (phase.Entering entrance) = ⊥
IsBetween (phase.Waiting number) = ⊥
IsBetween (phase.OpeningFile o) = ⊥
IsBetween (phase.Ending e) = Unit {0}
IsBetween (phase.Ended e) = Unit {0}

-- The sum of the actors that an actor started, the gates that it made, its fuel, and the fuel that
-- it gave away and has not got back. In every run it is at most `most_fuel`, the most that
-- an image may have.
abbrev pub funds : ℕ → ℕ → ℕ → Children → ℕ
funds starts gates fuel unjoined = starts + gates + fuel + all_given unjoined

-- An actor that is about to start a child: its name has room for one more part, there is a draft of
-- that number, every grant of which it may give, it has the fuel that the child is to have, and it
-- has paid for one more start.
pub record IsReady (name : List ℕ) (sheet : Sheet) (made : Made) (drafts : List Draft) (hart : Hart) (fuel starts : ℕ) (unjoined : Children) : Type 0 where
  pub shallow : length name < most_parts
  pub drafted : reg hart.regs 10 < length drafts
  pub allowed : first_excess sheet made (draft_at drafts (reg hart.regs 10)) ≡ None
  pub enough : reg hart.regs 13 ≤ fuel
  pub paid : funds starts made.count fuel unjoined < most_fuel

abbrev pub MayStart : ActorState → Type 0
MayStart a = IsReady a.name a.sheet a.made a.drafts a.hart a.fuel a.starts a.unjoined

-- An actor that is about to make a gate: there is a draft of that number, every grant of which it
-- may give, and it has paid for one more gate.
pub record IsGranting (sheet : Sheet) (made : Made) (drafts : List Draft) (hart : Hart) (fuel starts : ℕ) (unjoined : Children) : Type 0 where
  pub drafted : reg hart.regs 10 < length drafts
  pub allowed : first_excess sheet made (draft_at drafts (reg hart.regs 10)) ≡ None
  pub paid : funds starts made.count fuel unjoined < most_fuel

abbrev pub MayMake : ActorState → Type 0
MayMake a = IsGranting a.sheet a.made a.drafts a.hart a.fuel a.starts a.unjoined

-- the slots in which the tags of a sheet were opened are there; so it is for each gate that an
-- actor knows
abbrev pub HasValidSlots : Sheet → Type 0
HasValidSlots sheet = AllByRecursion (λ e. e.1.slot < slots) sheet.tags

abbrev pub AreGatesPlaced : List Gate → Type 0
AreGatesPlaced gates = AllByRecursion (λ (g : Gate). HasValidSlots g.sheet) gates

-- An actor that is about to enter a gate: its name has room for one more part, it has the gate's
-- fuel, and it has paid for one more start; and the slots of the run's sheet are there.
pub record IsEntering (name : List ℕ) (made : Made) (fuel starts : ℕ) (unjoined : Children) (entrance : Entrance) : Type 0 where
  pub shallow : length name < most_parts
  pub enough : entrance.gate.fuel ≤ fuel
  pub paid : funds starts made.count fuel unjoined < most_fuel
  pub placed : HasValidSlots entrance.sheet

abbrev pub EntersFrom : ActorState → Entrance → Type 0
EntersFrom a entrance = IsEntering a.name a.made a.fuel a.starts a.unjoined entrance

-- the name of the next child that an actor starts, or of the next run
abbrev pub IsNextName : List ℕ → ℕ → List ℕ → Type 0
IsNextName name starts child = child ≡ child_name name (starts + 1)

-- an actor that is about to open a tag has asked for as many pages as a tag may have
abbrev pub AsksPages : Hart → Type 0
AsksPages hart = (1 ≤ reg hart.regs 10) × (reg hart.regs 10 ≤ most_pages)

-- the slots in which the tags that it holds were opened are there
abbrev pub HoldsInSlots : Sheet → Made → Type 0
HoldsInSlots sheet made = HasValidSlots sheet × AllByRecursion (λ e. e.1 < slots) made.tags

-- every slot of a directory is below a limit: those never used, and those released
abbrev pub GivesBelow : ℕ → Directory → Type 0
GivesBelow limit d = (d.places ≤ limit) × (d.unused ≤ limit) × AllByRecursion (λ p. p < limit) d.released

-- What an actor may want: the claim of a slot for a tag of so many pages, the opening of a tag
-- there, its close and the release of its slot; an aligned access inside the window of a slot, a
-- block in a tag, one to be freed, and a copy of a tag; a number for a descriptor, and the opening,
-- a read, an append and a close of its stream; a life for a child and the start of its next child
-- where it is ready for that, the join of a child, and its end. P: it asks for 1 to 16 pages; R: it
-- is ready to start a child; S: the name is its next child's; J: the number is of a child to be
-- joined.
abbrev pub WantFitsWhere : Type 0 → Type 0 → (List ℕ → Type 0) → (ℕ → Type 0) → Want → Type 0
WantFitsWhere P R S J (want.Slots directory_ask.Claim) = P
WantFitsWhere P R S J (want.Slots (directory_ask.Release slot)) = slot < slots
WantFitsWhere P R S J (want.Slot slot (slot_want.Open tag pages)) = (slot < slots) × (1 ≤ pages) × (pages ≤ most_pages)
WantFitsWhere P R S J (want.Slot slot (slot_want.Close tag)) = slot < slots
WantFitsWhere P R S J (want.Slot slot (slot_want.Load offset width)) = (slot < slots) × IsAligned offset width
WantFitsWhere P R S J (want.Slot slot (slot_want.Store offset width value)) = (slot < slots) × IsAligned offset width
WantFitsWhere P R S J (want.Slot slot (slot_want.Smalloc tag size)) = (slot < slots) × (1 ≤ size)
WantFitsWhere P R S J (want.Slot slot (slot_want.Sfree offset)) = (slot < slots) × (offset < window)
WantFitsWhere P R S J (want.Slot slot (slot_want.Snap tag)) = slot < slots
WantFitsWhere P R S J (want.Fds directory_ask.Claim) = Unit {0}
WantFitsWhere P R S J (want.Fd fd (stream_ask.Open k bytes)) = fd < most_fds
WantFitsWhere P R S J (want.Fd fd (stream_ask.Read bits count)) = fd < most_fds
WantFitsWhere P R S J (want.Fd fd (stream_ask.Append bits bytes)) = fd < most_fds
WantFitsWhere P R S J (want.Fd fd (stream_ask.Close bits)) = fd < most_fds
WantFitsWhere P R S J (want.Lives lives_ask.Claim) = R
WantFitsWhere P R S J (want.Lives (lives_ask.Release e)) = Unit {0}
WantFitsWhere P R S J (want.Start child) = R × S child
WantFitsWhere P R S J (want.Join child) = J child
WantFitsWhere P R S J q = ⊥

-- an actor is the run of this recycled gate
abbrev pub RunsIn : Option Gate → GateId → Type 0
RunsIn run_of id = IsSomeAnd run_of (λ g. (g.kind ≡ gate_kind.Recycled) × (g.id ≡ id))

-- An actor that is about to enter a gate wants to enter it, for its next run; the run of a gate
-- wants to leave it as it ends. Neither want is kept in the phase `Within`: the first is that of
-- the phase `Entering`, the second that of the phase `Ending`.
abbrev pub IsAtGate : Phase → Type 0
IsAtGate (phase.Entering entrance) = Unit {0}
IsAtGate p = ⊥

abbrev pub WantFits : ActorState → Want → Type 0
WantFits a (want.Enter run) = IsAtGate a.phase × IsNextName a.name a.starts run
WantFits a (want.Leave e) = Unit {0}
WantFits a (want.Gate id (gate_ask.Enter run first)) = IsAtGate a.phase × IsNextName a.name a.starts run
WantFits a (want.Gate id (gate_ask.Leave e memory)) = RunsIn a.run_of id
WantFits a q = WantFitsWhere (AsksPages a.hart) (MayStart a) (IsNextName a.name a.starts) (λ k. is_child a.unjoined k ≡ true) q

-- the slots of grants of copies are there
abbrev pub AreInSlots : List CopyGrant → Type 0
AreInSlots gs = AllByRecursion (λ g. g.slot < slots) gs

-- the number that is claimed for a descriptor is below 1,024
abbrev pub NumberFits : Option ℕ → Type 0
NumberFits None = Unit {0}
NumberFits (Some fd) = fd < most_fds

-- Which phases an actor may be in. P, R, S and J are as above; M: it may make a gate; E: it may
-- enter this gate.
abbrev pub PhaseFitsWhere : Type 0 → Type 0 → Type 0 → (Entrance → Type 0) → (List ℕ → Type 0) → (ℕ → Type 0) → Phase → Type 0
PhaseFitsWhere P R M E S J phase.Running = Unit {0}
PhaseFitsWhere P R M E S J (phase.Within w) = WantFitsWhere P R S J w
PhaseFitsWhere P R M E S J (phase.Starting p) = R × AreInSlots p.left
PhaseFitsWhere P R M E S J (phase.MakingGate p) = M × AreInSlots p.left × (1 ≤ length p.left)
PhaseFitsWhere P R M E S J (phase.Opening slot tag) = (slot < slots) × P
PhaseFitsWhere P R M E S J (phase.Releasing slot) = slot < slots
PhaseFitsWhere P R M E S J (phase.OpeningFile o) = NumberFits o.number
PhaseFitsWhere P R M E S J (phase.Entering entrance) = E entrance
PhaseFitsWhere P R M E S J (phase.Waiting number) = J number
PhaseFitsWhere P R M E S J (phase.Ending e) = Unit {0}
PhaseFitsWhere P R M E S J (phase.Ended e) = Unit {0}

-- a read gives at most as many bytes as were asked for, and nothing else gives any
abbrev pub GivesWithin : StreamAsk → List ℕ → Type 0
GivesWithin (stream_ask.Read bits count) bytes = length bytes ≤ count
GivesWithin q bytes = ⊥

-- An event is in bounds: its slot is there, a number for a descriptor is below 1,024, a block
-- begins inside the slot's window, a copy has as many pages as a tag may have, and a stream gives
-- no more bytes than were asked for. This is a property of the event alone.
abbrev pub IsInBounds : Event → Type 0
IsInBounds (event.Slots q (directory_reply.Claimed slot tag)) = slot < slots
IsInBounds (event.Fds q (directory_reply.Claimed fd number)) = fd < most_fds
IsInBounds (event.Slot slot q (slot_reply.Placed offset)) = (slot < slots) × (offset < window)
IsInBounds (event.Slot slot q (slot_reply.Snapped pages)) = (slot < slots) × (length pages ≤ most_pages)
IsInBounds (event.Slot slot q r) = slot < slots
IsInBounds (event.Fd fd q (stream_reply.Given bytes)) = GivesWithin q bytes
IsInBounds e = Unit {0}

-- An event fits an actor that takes it: a slot that is claimed is for pages that a tag may have, a
-- start is by one that is ready for it, and a join brings back at most what the child was given.
abbrev pub SuitsActor : ActorState → Event → Type 0
SuitsActor a (event.Slots directory_ask.Claim r) = AsksPages a.hart
SuitsActor a (event.Lives lives_ask.Claim r) = MayStart a
SuitsActor a (event.Start child) = MayStart a
SuitsActor a (event.Join child e fuel) = IsSomeAnd (fuel_given a.unjoined child) (λ given. fuel ≤ given)
SuitsActor a e = Unit {0}

abbrev pub TakesFit : ActorState → Event → Type 0
TakesFit a e = IsInBounds e × SuitsActor a e
