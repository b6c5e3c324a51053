-- What a sheet allows: the grant that a request lacks, what refuses it besides, and what it leaves
-- where it is done and where it is denied. Nothing here calls the step.
use Rattle.std.specs.Prelude.{◌≡◌, ℕ, ◌+◌, ◌-◌, ◌*◌, ◌/◌, ◌%◌, ◌^◌, ◌==◌, ◌⊎◌, Bool, true, false, not, ◌&&◌, ◌||◌, List, [], ◌∷◌, ◌++◌, length, nat_lt, slice_range, slice_set, take, drop, Option, Some, None, is_none, IsSomeAnd, if◌then◌else◌}
use Rattle.wedge_base.specs.Blocks.{block_at}
use Rattle.wedge_base.specs.Bytes.{number_of}
use Rattle.wedge_base.specs.Maps.{has}
use Rattle.wedge_base.specs.Memory.{write_at}
use Rattle.wedge_base.specs.Rights.{at_least, read_bit, append_bit}
use Rattle.wedge_base.specs.Sheets.{Draft, first_excess, slot_on, made_gate, lent_to}
use Rattle.wedge_base.specs.declared.rights.Denial.{Denial}
use Rattle.wedge_base.specs.declared.rights.Denial.TheVariants as denial
use Rattle.wedge_events.specs.Streams.{Stream}
use Rattle.wedge_base.specs.declared.image.FileEntry.{FileEntry}
use Rattle.wedge_base.specs.declared.rights.FdBits.{FdBits}
use Rattle.wedge_base.specs.declared.rights.StreamKind.{StreamKind}
use Rattle.wedge_base.specs.declared.rights.StreamKind.TheVariants as kind
use Rattle.wedge_base.specs.declared.rights.Right.{Right}
use Rattle.wedge_base.specs.declared.rights.Right.TheVariants as right
use Rattle.wedge_base.specs.declared.rights.End.TheVariants as end_
use Rattle.wedge_base.specs.declared.outcome.DenialAt.{DenialAt}
use Rattle.wedge_events.specs.declared.events.Event.{Event}
use Rattle.wedge_events.specs.declared.events.Event.TheVariants as event
use Rattle.wedge_events.specs.declared.events.SlotWant.TheVariants as slot_want
use Rattle.wedge_events.specs.declared.events.Want.{Want}
use Rattle.wedge_events.specs.declared.events.Want.TheVariants as want
use Rattle.wedge_events.specs.declared.cells.LivesAsk.TheVariants as lives_ask
use Rattle.wedge_events.specs.declared.cells.Live.{Live}
use Rattle.wedge_events.specs.declared.cells.SlotAsk.TheVariants as slot_ask
use Rattle.wedge_events.specs.declared.cells.SlotReply.TheVariants as slot_reply
use Rattle.wedge_events.specs.declared.cells.StreamAsk.TheVariants as stream_ask
use Rattle.wedge_events.specs.declared.cells.StreamReply.TheVariants as stream_reply
use Rattle.callgate.specs.declared.gate.Gate.{Gate}
use Rattle.rv_hart.specs.declared.Hart.{Hart}
use Rattle.rv_hart.specs.Local.{reg, put, extended}
use Rattle.machine.specs.Preparation.{Preparation}
use Rattle.run_laws.specs.MadeGates.{IsGateOf}
use Rattle.machine.specs.Opening.{FileOpening}
use Rattle.machine.specs.declared.phase.Phase.TheVariants as phase
use Rattle.machine.specs.Actors.{ActorState, right_of, bits_of}
use Rattle.run_laws.specs.Requests.{Access, Request, Loads, Stores, Reads, Appends, Closes, Opens, Creates, Makes, Deletes, Allots, Frees, Enters}
use Rattle.run_laws.specs.Holding.{gate_for, loan, loan_lacks}
use Rattle.machine.specs.Entrance.{Entrance}

-- whether a tag may be used as asked: a copy is never enough for the tag itself
abbrev pub may_use : ActorState → ℕ → Right → Bool
may_use a tag wants = at_least (right_of a tag) wants

-- A source takes no bytes and an append stream gives none. The bit to close a stream is the one by
-- which it is used.
abbrev pub is_source : StreamKind → Bool
is_source kind.Source = true
is_source kind.Append = false

abbrev pub may_close : StreamKind → FdBits → Bool
may_close k bits = if is_source k then bits.read else bits.append

abbrev pub bit_to_close : StreamKind → FdBits
bit_to_close k = if is_source k then read_bit else append_bit

-- User 0 may open any file, and anyone else with the bits of the file's mode, which are from the
-- lowest up: the owner may read, the owner may append, others may read, others may append.
abbrev pub mode_read : ℕ → FileEntry → Bool
mode_read user f = if user == f.owner then f.mode % 2 == 1 else f.mode / 4 % 2 == 1

abbrev pub mode_append : ℕ → FileEntry → Bool
mode_append user f = if user == f.owner then f.mode / 2 % 2 == 1 else f.mode / 8 % 2 == 1

abbrev pub may_be_opened : ℕ → FileEntry → FdBits → Bool
may_be_opened user f b = (user == 0) || ((not b.read || mode_read user f) && (not b.append || mode_append user f))

-- To enter a gate lacks the gate, where the actor holds none at the entry; or else what is lent may
-- lack a grant.
abbrev pub enter_lacks : ActorState → ℕ → Option Draft → Option Gate → Option Denial
enter_lacks a entry lent None = Some (denial.Gate entry)
enter_lacks a entry lent (Some g) = loan_lacks a lent

-- the grant that a request lacks; one that is allowed lacks none
abbrev pub lacks : ActorState → Request → Option Denial
lacks a (Loads x rd s) = if may_use a x.living.tag right.Read then None else Some (denial.Tag x.living.tag right.Read)
lacks a (Stores x value) = if may_use a x.living.tag right.ReadWrite then None else Some (denial.Tag x.living.tag right.ReadWrite)
lacks a (Reads fd s n) = if (bits_of a fd).read then None else Some (denial.Fd fd read_bit)
lacks a (Appends fd s bytes) = if (bits_of a fd).append then None else Some (denial.Fd fd append_bit)
lacks a (Closes fd s) = if may_close s.kind (bits_of a fd) then None else Some (denial.Fd fd (bit_to_close s.kind))
lacks a (Opens path f b) = if may_be_opened a.sheet.user f b then None else Some (denial.File path)
lacks a (Creates d) = first_excess a.sheet a.made d
lacks a (Makes d) = first_excess a.sheet a.made d
lacks a (Enters entry lent) = enter_lacks a entry lent (gate_for a entry)
lacks a (Deletes tag) = if has a.made.tags tag then None else Some (denial.NotMaker tag)
lacks a (Allots tag size) = if may_use a tag right.ReadWrite then None else Some (denial.Tag tag right.ReadWrite)
lacks a (Frees p g) = if may_use a g.tag right.ReadWrite then None else Some (denial.Tag g.tag right.ReadWrite)

-- a source is opened to be read, and an append stream to be appended to
abbrev pub fits_kind : StreamKind → FdBits → Bool
fits_kind k b = if is_source k then b.read else b.append

-- a gate is not entered by an actor whose name has 32 parts, or that has less fuel than the gate's
abbrev pub enter_refused : ActorState → Option Gate → Bool
enter_refused a None = false
enter_refused a (Some g) = not (nat_lt (length a.name) 32) || nat_lt a.fuel g.fuel

-- whether one that is allowed is refused for a cause that comes after the denial: a stream or a
-- file is of the other kind; a name has at most 32 parts, and a child or a run is given no more
-- fuel than there is; no block begins at the place
abbrev pub is_refused : ActorState → Request → Bool
is_refused a (Loads x rd s) = false
is_refused a (Stores x value) = false
is_refused a (Reads fd s n) = not (is_source s.kind)
is_refused a (Appends fd s bytes) = is_source s.kind
is_refused a (Closes fd s) = false
is_refused a (Opens path f b) = not (fits_kind f.kind b)
is_refused a (Creates d) = not (nat_lt (length a.name) 32) || nat_lt a.fuel (reg a.hart.regs 13)
is_refused a (Makes d) = false
is_refused a (Enters entry lent) = enter_refused a (gate_for a entry)
is_refused a (Deletes tag) = false
is_refused a (Allots tag size) = false
is_refused a (Frees p g) = is_none (block_at g.blocks p.offset)

-- Where a request is checked: at the event to which its instruction comes, or in the instruction
-- itself.
abbrev pub is_checked_at_event : Request → Bool
is_checked_at_event (Loads x rd s) = true
is_checked_at_event (Stores x value) = true
is_checked_at_event (Reads fd s n) = true
is_checked_at_event (Appends fd s bytes) = true
is_checked_at_event (Closes fd s) = true
is_checked_at_event (Opens path f b) = false
is_checked_at_event (Creates d) = false
is_checked_at_event (Makes d) = false
is_checked_at_event (Enters entry lent) = false
is_checked_at_event (Deletes tag) = false
is_checked_at_event (Allots tag size) = false
is_checked_at_event (Frees p g) = true

-- What a request leaves that is done: its event, and its actor at the next word, with what was
-- loaded or with the call's answer and code 0. One that is checked in its instruction has come to
-- its event: a child's starter to the claim of a life, a file to the claim of a number for its
-- descriptor, a tag that is to be deleted to its close, and a block to the slot in which the tag
-- was opened. A gate is made at once, but where copies of tags are to be made for it first.
abbrev pub next_word : ActorState → ℕ
next_word a = (a.hart.pc + 4) % 2 ^ 32

abbrev pub value_in : Access → ℕ
value_in x = number_of (slice_range x.living.bytes x.place.offset (x.place.offset + x.width))

abbrev pub living_as : ActorState → ℕ → Option Live
living_as a tag = Some (record { tag = tag; right = right_of a tag })

abbrev pub living_for : ActorState → Access → Option Live
living_for a x = living_as a x.living.tag

abbrev pub comes_to : ActorState → Want → Option ActorState
comes_to a q = Some (record a { phase = phase.Within q })

abbrev pub answered_hart : ActorState → ℕ → ℕ → Hart
answered_hart a value code = record { pc = next_word a; regs = slice_set (slice_set a.hart.regs 10 value) 11 code }

-- the address of an offset in the window of a slot: windows are 65,536 bytes each, from 0x40000000
-- on
abbrev pub window_address : ℕ → ℕ → ℕ
window_address slot offset = 0x40000000 + slot * 65536 + offset

-- the next bytes of a stream, so many at most
abbrev pub next_bytes : Stream → ℕ → List ℕ
next_bytes s n = take n (drop s.position s.bytes)

-- a file that is to be opened under a path with bits, for whose descriptor no number is claimed yet
abbrev pub opened_as : List ℕ → FileEntry → FdBits → FileOpening
opened_as path f b = record { path = path; kind = f.kind; bytes = f.content; bits = b; number = None }

-- an actor that has made a gate: it knows it, holds it at its entry, and is answered 0
abbrev pub with_gate_made : ActorState → Gate → ActorState
with_gate_made a g = record a { made = made_gate a.made g.entry g.id; gates = a.gates ++ g ∷ []; hart = answered_hart a 0 0; phase = phase.Running }

-- it has made the gate, or the gate waits for copies of tags
abbrev pub HasBegunGate : ActorState → Draft → ActorState → Type 0
HasBegunGate a d b = ((g : Gate) × IsGateOf a d g × (b ≡ with_gate_made a g)) ⊎ ((p : Preparation) × (b ≡ record a { phase = phase.MakingGate p }))

-- it is about to enter the gate that it holds at the entry: the run is to have the gate's sheet,
-- with what is lent
abbrev pub IsAboutToEnter : ActorState → ℕ → Option Draft → ActorState → Type 0
IsAboutToEnter a entry lent b = (x : Entrance) × (gate_for a entry ≡ Some x.gate) × (x.sheet ≡ lent_to x.gate.sheet (loan a lent)) × (b ≡ record a { phase = phase.Entering x })

abbrev pub IsDone : ActorState → Request → Option Event → Option ActorState → Type 0
IsDone a (Loads x rd s) e now =
    (e ≡ Some (event.Slot x.place.slot (slot_ask.Load x.width x.place.offset (living_for a x)) (slot_reply.Loaded (value_in x))))
    × (now ≡ Some (record a { hart = record { pc = next_word a; regs = put a.hart.regs rd (extended x.width s (value_in x)) }; phase = phase.Running }))
IsDone a (Stores x value) e now =
    (e ≡ Some (event.Slot x.place.slot (slot_ask.Store x.width x.place.offset value (living_for a x)) slot_reply.Stored))
    × (now ≡ Some (record a { hart = record a.hart { pc = next_word a }; phase = phase.Running }))
IsDone a (Reads fd s n) e now =
    (e ≡ Some (event.Fd fd (stream_ask.Read (bits_of a fd) n) (stream_reply.Given (next_bytes s n))))
    × (now ≡ Some (record a {
      hart = answered_hart a (length (next_bytes s n)) 0;
      fuel = a.fuel - length (next_bytes s n);
      memory = record a.memory { ranges = write_at a.memory.ranges (reg a.hart.regs 11) (next_bytes s n) };
      phase = phase.Running;
    }))
IsDone a (Appends fd s bytes) e now =
    (e ≡ Some (event.Fd fd (stream_ask.Append (bits_of a fd) bytes) stream_reply.Appended))
    × (now ≡ Some (record a { hart = answered_hart a (reg a.hart.regs 12) 0; fuel = a.fuel - reg a.hart.regs 12; phase = phase.Running }))
IsDone a (Closes fd s) e now =
    (e ≡ Some (event.Fd fd (stream_ask.Close (bits_of a fd)) stream_reply.Closed))
    × (now ≡ Some (record a { hart = answered_hart a 0 0; phase = phase.Running }))
IsDone a (Opens path f b) e now = (e ≡ None) × (now ≡ Some (record a { phase = phase.OpeningFile (opened_as path f b) }))
IsDone a (Creates d) e now = (e ≡ None) × (now ≡ comes_to a (want.Lives lives_ask.Claim))
IsDone a (Makes d) e now = (e ≡ None) × IsSomeAnd now (HasBegunGate a d)
IsDone a (Enters entry lent) e now = (e ≡ None) × IsSomeAnd now (IsAboutToEnter a entry lent)
IsDone a (Deletes tag) e now = (e ≡ None) × IsSomeAnd (slot_on a.sheet a.made tag) (λ slot. now ≡ comes_to a (want.Slot slot (slot_want.Close tag)))
IsDone a (Allots tag size) e now = (e ≡ None) × IsSomeAnd (slot_on a.sheet a.made tag) (λ slot. now ≡ comes_to a (want.Slot slot (slot_want.Smalloc tag size)))
IsDone a (Frees p g) e now =
    (e ≡ Some (event.Slot p.slot (slot_ask.Sfree p.offset (living_as a g.tag)) slot_reply.Freed))
    × (now ≡ Some (record a { hart = answered_hart a 0 0; phase = phase.Running }))

-- What a denial leaves: it stands last among the actor's, with the pc of the instruction; a load or
-- store ends its actor, and a call answers 0 with the code 1.
abbrev pub with_denial : ActorState → Denial → List DenialAt
with_denial a d = a.denials ++ record { pc = a.hart.pc; denial = d } ∷ []

abbrev pub ended_denied : ActorState → Denial → ActorState
ended_denied a d = record a { denials = with_denial a d; phase = phase.Ending end_.Denied }

abbrev pub answered_denied : ActorState → Denial → ActorState
answered_denied a d = record a { denials = with_denial a d; hart = answered_hart a 0 1; phase = phase.Running }

abbrev pub denied : ActorState → Request → Denial → ActorState
denied a (Loads x rd s) d = ended_denied a d
denied a (Stores x value) d = ended_denied a d
denied a (Reads fd s n) d = answered_denied a d
denied a (Appends fd s bytes) d = answered_denied a d
denied a (Closes fd s) d = answered_denied a d
denied a (Opens path f b) d = answered_denied a d
denied a (Creates draft) d = answered_denied a d
denied a (Makes draft) d = answered_denied a d
denied a (Enters entry lent) d = answered_denied a d
denied a (Deletes tag) d = answered_denied a d
denied a (Allots tag size) d = answered_denied a d
denied a (Frees p g) d = answered_denied a d
