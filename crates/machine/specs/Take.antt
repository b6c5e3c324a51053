-- The actor's part of a shared event: what it wants and asks, and what the reply makes of it.
use Rattle.std.specs.Prelude.{ℕ, ◌+◌, ◌-◌, List, [], ◌∷◌, ◌++◌, length, Option, Some, None, option_map, option_and_then, unwrap_or}
use Rattle.cow_pages.specs.Copies.{without_copy}
use Rattle.cow_pages.specs.Listed.{bytes_listed}
use Rattle.cow_pages.specs.PrivateMemory.{PrivateMemory, no_memory}
use Rattle.wedge_base.specs.Images.{Image, fetch, address_of}
use Rattle.wedge_base.specs.Memory.{write_at}
use Rattle.wedge_base.specs.Sheets.{nothing_made, sheet_of_draft, made_tag, made_fd}
use Rattle.wedge_events.specs.Wants.{asked_with}
use Rattle.wedge_base.specs.declared.grants.GateKind.{GateKind}
use Rattle.wedge_base.specs.declared.grants.GateKind.TheVariants as gate_kind
use Rattle.wedge_base.specs.declared.rights.Right.{Right}
use Rattle.wedge_base.specs.declared.rights.Denial.TheVariants as denial
use Rattle.wedge_base.specs.declared.rights.Code.TheVariants as code
use Rattle.wedge_base.specs.declared.rights.End.{End}
use Rattle.wedge_base.specs.declared.rights.End.TheVariants as end_
use Rattle.wedge_events.specs.declared.events.SlotWant.TheVariants as slot_want
use Rattle.wedge_events.specs.declared.events.Want.{Want}
use Rattle.wedge_events.specs.declared.events.Want.TheVariants as want
use Rattle.wedge_events.specs.declared.events.Ask.{Ask}
use Rattle.wedge_events.specs.declared.events.Event.{Event}
use Rattle.wedge_events.specs.declared.events.Event.TheVariants as event
use Rattle.wedge_events.specs.declared.cells.Live.{Live}
use Rattle.wedge_events.specs.declared.cells.DirectoryAsk.{DirectoryAsk}
use Rattle.wedge_events.specs.declared.cells.DirectoryAsk.TheVariants as directory_ask
use Rattle.wedge_events.specs.declared.cells.DirectoryReply.{DirectoryReply}
use Rattle.wedge_events.specs.declared.cells.DirectoryReply.TheVariants as directory_reply
use Rattle.wedge_events.specs.declared.cells.SlotAsk.{SlotAsk}
use Rattle.wedge_events.specs.declared.cells.SlotAsk.TheVariants as slot_ask
use Rattle.wedge_events.specs.declared.cells.SlotReply.{SlotReply}
use Rattle.wedge_events.specs.declared.cells.SlotReply.TheVariants as slot_reply
use Rattle.wedge_events.specs.declared.cells.StreamAsk.TheVariants as stream_ask
use Rattle.wedge_events.specs.declared.cells.StreamReply.{StreamReply}
use Rattle.wedge_events.specs.declared.cells.StreamReply.TheVariants as stream_reply
use Rattle.wedge_events.specs.declared.cells.LivesAsk.{LivesAsk}
use Rattle.wedge_events.specs.declared.cells.LivesAsk.TheVariants as lives_ask
use Rattle.wedge_events.specs.declared.cells.GateAsk.{GateAsk}
use Rattle.wedge_events.specs.declared.cells.GateAsk.TheVariants as gate_ask
use Rattle.wedge_events.specs.declared.cells.GateReply.{GateReply}
use Rattle.wedge_events.specs.declared.cells.GateReply.TheVariants as gate_reply
use Rattle.wedge_events.specs.declared.cells.LivesReply.{LivesReply}
use Rattle.wedge_events.specs.declared.cells.LivesReply.TheVariants as lives_reply
use Rattle.rv_isa.specs.declared.Instr.{Instr}
use Rattle.rv_isa.specs.Table.{decode}
use Rattle.rv_hart.specs.declared.Need.{Need}
use Rattle.rv_hart.specs.declared.Need.TheVariants as need
use Rattle.rv_hart.specs.Local.{local, put}
use Rattle.machine.specs.Opening.{FileOpening}
use Rattle.machine.specs.declared.phase.Phase.{Phase}
use Rattle.machine.specs.declared.phase.Phase.TheVariants as phase
use Rattle.machine.specs.Actors.{ActorState, pristine, opening_hart, right_of, answers, answers_more, refuses, notes, denies, ends, spends}
use Rattle.machine.specs.Accesses.{has_loaded, has_stored}
use Rattle.machine.specs.Calls.{a0, a1, a2, a3, draft_at, continue_gate}
use Rattle.machine.specs.Children.{Children, least_child, with_child, without_child, child_name}
use Rattle.machine.specs.CopyGrant.{copy_grants}
use Rattle.machine.specs.Preparation.{Preparation, copied_from, prepare_copies, behind_first}
use Rattle.machine.specs.declared.copy_grant.CopyGrant.{CopyGrant}
use Rattle.callgate.specs.declared.gate.Gate.{Gate}
use Rattle.wedge_base.specs.declared.grants.GateId.{GateId}
use Rattle.machine.specs.Entrance.{Entrance}

-- the number of the next actor that it starts
abbrev pub next_start : ActorState → ℕ
next_start a = a.starts + 1

-- an actor whose end is decided joins its children, the least number first, and then ends: the run
-- of a gate leaves the gate, and that of a recycled one leaves its private memory there
abbrev pub leaving_want : GateKind → GateId → PrivateMemory → End → Want
leaving_want gate_kind.Fresh id m e = want.Leave e
leaving_want gate_kind.Recycled id m e = want.Gate id (gate_ask.Leave e m)

abbrev pub last_want : Option Gate → PrivateMemory → End → Want
last_want None m e = want.Lives (lives_ask.Release e)
last_want (Some g) m e = leaving_want g.kind g.id m e

abbrev pub ending_by : Option Gate → PrivateMemory → Option ℕ → End → Want
ending_by gate m None e = last_want gate m e
ending_by gate m (Some k) e = want.Join k

abbrev pub ending_want : Option Gate → PrivateMemory → Children → End → Want
ending_want gate m cs e = ending_by gate m (least_child cs) e

-- an actor that is about to enter a gate enters it in a run of the next name; into a recycled one
-- it brings the memory with which the first run begins
abbrev pub entering_want : GateKind → Gate → List ℕ → Want
entering_want gate_kind.Fresh g run = want.Enter run
entering_want gate_kind.Recycled g run = want.Gate g.id (gate_ask.Enter run g.memory)

-- an actor that is about to start a child asks for a copy of the first tag of which one is to be
-- made, and then for the start
abbrev pub starting_want : ActorState → List CopyGrant → Want
starting_want a [] = want.Start (child_name a.name (next_start a))
starting_want a (g ∷ gs) = want.Slot g.slot (slot_want.Snap g.tag)

-- an actor that makes a gate asks for a copy of the next tag of which one is to be made
abbrev pub making_want : List CopyGrant → Option Want
making_want [] = None
making_want (g ∷ gs) = Some (want.Slot g.slot (slot_want.Snap g.tag))

-- an actor that opens a file asks for a number for its descriptor, and then opens the stream of
-- that descriptor
abbrev pub opening_want : FileOpening → Option ℕ → Want
opening_want o None = want.Fds directory_ask.Claim
opening_want o (Some fd) = want.Fd fd (stream_ask.Open o.kind o.bytes)

-- what an actor wants, if it wants an event
abbrev pub wanted_at : ActorState → Phase → Option Want
wanted_at a phase.Running = None
wanted_at a (phase.Within w) = Some w
wanted_at a (phase.Starting p) = Some (starting_want a p.left)
wanted_at a (phase.MakingGate p) = making_want p.left
wanted_at a (phase.Opening slot tag) = Some (want.Slot slot (slot_want.Open tag (a0 a)))
wanted_at a (phase.OpeningFile o) = Some (opening_want o o.number)
wanted_at a (phase.Releasing slot) = Some (want.Slots (directory_ask.Release slot))
wanted_at a (phase.Entering entrance) = Some (entering_want entrance.gate.kind entrance.gate (child_name a.name (next_start a)))
wanted_at a (phase.Waiting number) = None
wanted_at a (phase.Ending e) = Some (ending_want a.run_of a.memory a.unjoined e)
wanted_at a (phase.Ended e) = None

abbrev pub current_want : ActorState → Option Want
current_want a = wanted_at a a.phase

-- the tag that lives in a slot, with the actor's right on it
abbrev pub pair : ActorState → Option ℕ → Option Live
pair a live = option_map (λ tag. record { tag = tag; right = right_of a tag }) live

-- what an actor asks for what it wants where that tag lives
abbrev pub asks : ActorState → Option ℕ → Want → Ask
asks a live w = asked_with w (pair a live)

-- an actor goes on
abbrev pub runs : ActorState → ActorState
runs a = record a { phase = phase.Running }

-- a load has its value: the instruction says which register takes it, and with which sign
abbrev pub loads_by : Instr → Need → ActorState → ℕ → ActorState
loads_by ins (need.Load address width is_signed) a value = has_loaded ins is_signed a width value
loads_by ins n a value = a

abbrev pub loads_at : ActorState → Option Instr → ℕ → ActorState
loads_at a None value = a
loads_at a (Some ins) value = loads_by ins (local ins a.hart).need a value

-- a load or store that is denied ends its actor; a call that is denied answers so
abbrev pub denied_on : ActorState → SlotAsk → ℕ → Right → ActorState
denied_on a (slot_ask.Sfree offset live) tag wants = denies a (denial.Tag tag wants)
denied_on a q tag wants = ends (notes a (denial.Tag tag wants)) end_.Denied

-- a tag that it opened in a slot is among those that it made, and it has no private copy there; the
-- call answers the tag's number and its address
abbrev pub has_opened : ActorState → ℕ → SlotAsk → ActorState
has_opened a slot (slot_ask.Open tag pages) =
    answers_more (record a { made = made_tag a.made tag slot; memory = record a.memory { copies = without_copy a.memory.copies slot } }) tag (address_of slot 0)
has_opened a slot q = runs a

-- the copy of a tag is put into the memory of the child that is to be started, or with which runs
-- of a gate are to begin, and the next ones are made, up to the first that is to be made of a tag;
-- one that lives no more gives none
abbrev pub copied_on : ActorState → Preparation → ℕ → Option (List ℕ) → Preparation
copied_on a p slot bytes = prepare_copies a.sheet a.made a.memory.copies (copied_from bytes slot p.memory) (behind_first p.left)

abbrev pub has_snapped : ActorState → Phase → ℕ → Option (List ℕ) → ActorState
has_snapped a (phase.Starting p) slot bytes = record a { phase = phase.Starting (copied_on a p slot bytes) }
has_snapped a (phase.MakingGate p) slot bytes = continue_gate a (draft_at a.drafts (a0 a)) (copied_on a p slot bytes)
has_snapped a p slot bytes = runs a

-- A slot's reply, to what was asked of it. A tag that is closed has its slot released next.
abbrev pub takes_slot : Image → ActorState → ℕ → SlotAsk → SlotReply → ActorState
takes_slot i a slot q (slot_reply.Loaded value) = loads_at (runs a) (option_and_then decode (fetch i a.hart.pc)) value
takes_slot i a slot q slot_reply.Stored = has_stored (runs a)
takes_slot i a slot q slot_reply.Unmapped = ends a end_.Unmapped
takes_slot i a slot q (slot_reply.Denied tag wants) = denied_on a q tag wants
takes_slot i a slot q slot_reply.Opened = has_opened a slot q
takes_slot i a slot q slot_reply.Closed = record a { phase = phase.Releasing slot }
takes_slot i a slot q (slot_reply.Placed offset) = answers a (address_of slot offset)
takes_slot i a slot q slot_reply.Freed = answers a 0
takes_slot i a slot q slot_reply.NoSuch = refuses a code.NoSuch
takes_slot i a slot q slot_reply.Full = refuses a code.Full
takes_slot i a slot q slot_reply.Bad = refuses a code.Bad
takes_slot i a slot q (slot_reply.Snapped pages) = has_snapped a a.phase slot (Some (bytes_listed pages))
takes_slot i a slot q slot_reply.Gone = has_snapped a a.phase slot None

-- a slot that is claimed is for the tag to be opened there, and one that is released ends the call
-- that closed its tag
abbrev pub takes_place : ActorState → DirectoryAsk → DirectoryReply → ActorState
takes_place a (directory_ask.Release slot) r = answers a 0
takes_place a directory_ask.Claim (directory_reply.Claimed slot tag) = record a { phase = phase.Opening slot tag }
takes_place a directory_ask.Claim directory_reply.Full = refuses a code.Full
takes_place a directory_ask.Claim directory_reply.Released = runs a

-- a number that is claimed is for the descriptor of the file that is being opened
abbrev pub has_number : ActorState → Phase → ℕ → ActorState
has_number a (phase.OpeningFile o) fd = record a { phase = phase.OpeningFile (record o { number = Some fd }) }
has_number a p fd = runs a

abbrev pub takes_number : ActorState → DirectoryAsk → DirectoryReply → ActorState
takes_number a (directory_ask.Release place) r = runs a
takes_number a directory_ask.Claim (directory_reply.Claimed fd number) = has_number a a.phase fd
takes_number a directory_ask.Claim directory_reply.Full = refuses a code.Full
takes_number a directory_ask.Claim directory_reply.Released = runs a

-- The stream of a file is opened: its actor has the bits that it asked for on the descriptor, has
-- opened it under that path, pays a unit of fuel for each byte of the path's text, and is answered
-- the number.
abbrev pub has_opened_file : ActorState → Phase → ℕ → ActorState
has_opened_file a (phase.OpeningFile o) fd =
    let labels = a.labels ++ record { number = fd; path = o.path } ∷ [] in
    answers (spends (record a { made = made_fd a.made fd o.bits; labels = labels }) (a1 a)) fd
has_opened_file a p fd = runs a

-- a read writes the bytes that it was given into the buffer of its call, takes a unit of fuel for
-- each, and answers how many they are
abbrev pub has_read : ActorState → List ℕ → ActorState
has_read a bytes =
    let memory = record a.memory { ranges = write_at a.memory.ranges (a1 a) bytes } in
    answers (spends (record a { memory = memory }) (length bytes)) (length bytes)

-- an append takes a unit of fuel for each byte
abbrev pub takes_stream : ActorState → ℕ → StreamReply → ActorState
takes_stream a fd (stream_reply.Given bytes) = has_read a bytes
takes_stream a fd stream_reply.Closed = answers a 0
takes_stream a fd stream_reply.Appended = answers (spends a (a2 a)) (a2 a)
takes_stream a fd stream_reply.NoSuch = refuses a code.NoSuch
takes_stream a fd (stream_reply.Denied wants) = denies a (denial.Fd fd wants)
takes_stream a fd stream_reply.Bad = refuses a code.Bad
takes_stream a fd stream_reply.Opened = has_opened_file a a.phase fd

-- the grants of copies of the draft at hand
abbrev pub copies_asked : ActorState → List CopyGrant
copies_asked a = copy_grants (sheet_of_draft a.sheet a.made (draft_at a.drafts (a0 a))).tags

-- a life that is claimed is for the child to be started, whose private memory is made first; and an
-- actor that has ended keeps none
abbrev pub takes_lives : Image → ActorState → LivesAsk → LivesReply → ActorState
takes_lives i a (lives_ask.Release e) r = record a { memory = no_memory; phase = phase.Ended e }
takes_lives i a lives_ask.Claim lives_reply.Claimed = record a { phase = phase.Starting (prepare_copies a.sheet a.made a.memory.copies (pristine i) (copies_asked a)) }
takes_lives i a lives_ask.Claim lives_reply.Full = refuses a code.Full
takes_lives i a lives_ask.Claim lives_reply.Released = runs a

-- a child has started: there is one start more, and one child more to be joined, to which the fuel
-- went
abbrev pub has_started : ActorState → ActorState
has_started a = answers (record a { starts = next_start a; unjoined = with_child a.unjoined (next_start a) (a3 a); fuel = a.fuel - a3 a }) (next_start a)

-- A gate is entered: there is one start more, and the run, to which the gate's fuel goes, is to be
-- joined like a child. Its caller waits for it.
abbrev pub has_entered : ActorState → Phase → ActorState
has_entered a (phase.Entering entrance) = record a {
  starts = next_start a;
  unjoined = with_child a.unjoined (next_start a) entrance.gate.fuel;
  fuel = a.fuel - entrance.gate.fuel;
  phase = phase.Waiting (next_start a);
}
has_entered a p = runs a

-- the value of an actor that ended so, and the number of its end
abbrev pub end_value : End → ℕ
end_value (end_.Exited value) = value
end_value e = 0

abbrev pub end_number : End → ℕ
end_number (end_.Exited value) = 0
end_number end_.Denied = 1
end_number end_.Misaligned = 2
end_number end_.JumpMisaligned = 3
end_number end_.BadInstruction = 4
end_number end_.FetchFault = 5
end_number end_.TextStore = 6
end_number end_.Unmapped = 7
end_number end_.Break = 8
end_number end_.FuelOut = 9

-- a child that ended so is joined: its fuel comes back, and a call is answered; one whose own end
-- is decided goes on with it
abbrev pub answered_end : ActorState → Phase → End → ActorState
answered_end a (phase.Ending own) e = a
answered_end a p e = answers_more a (end_value e) (end_number e)

abbrev pub has_joined : ActorState → ℕ → End → ℕ → ActorState
has_joined a k e fuel = answered_end (record a { fuel = a.fuel + fuel; unjoined = without_child a.unjoined k }) a.phase e

-- The cell of a recycled gate: who entered it waits for the run, and a run that left it has ended.
abbrev pub takes_gate_reply : ActorState → GateAsk → GateReply → ActorState
takes_gate_reply a (gate_ask.Enter run first) (gate_reply.Entered memory) = has_entered a a.phase
takes_gate_reply a (gate_ask.Enter run first) gate_reply.Left = runs a
takes_gate_reply a (gate_ask.Leave e memory) r = record a { memory = no_memory; phase = phase.Ended e }

-- what an event makes of the actor that did it
unfoldable pub takes : Image → ActorState → Event → ActorState
takes i a (event.Slots q r) = takes_place a q r
takes i a (event.Slot slot q r) = takes_slot i a slot q r
takes i a (event.Fds q r) = takes_number a q r
takes i a (event.Fd fd q r) = takes_stream a fd r
takes i a (event.Lives q r) = takes_lives i a q r
takes i a (event.Start child) = has_started a
takes i a (event.Join k e fuel) = has_joined a k e fuel
takes i a (event.Enter run) = has_entered a a.phase
takes i a (event.Leave e) = record a { memory = no_memory; phase = phase.Ended e }
takes i a (event.Gate id q r) = takes_gate_reply a q r

-- ---- the actor that an event begins

-- the private memory that was made for a child
abbrev pub memory_made : Image → Phase → PrivateMemory
memory_made i (phase.Starting p) = p.memory
memory_made i p = pristine i

-- a child as it begins: at its entry, with its argument, the sheet of the draft, the fuel that it
-- was given, and the private memory that was made for it
abbrev pub child_of : Image → ActorState → List ℕ → ActorState
child_of i a name = record {
  name = name;
  compartment = a1 a;
  run_of = None;
  sheet = sheet_of_draft a.sheet a.made (draft_at a.drafts (a0 a));
  made = nothing_made;
  gates = a.gates;
  labels = [];
  drafts = [];
  hart = record (opening_hart (a1 a)) { regs = put (opening_hart (a1 a)).regs 10 (a2 a) };
  memory = memory_made i a.phase;
  fuel = a3 a;
  denials = [];
  starts = 0;
  unjoined = [];
  phase = phase.Running;
}

-- The run of a gate as it begins: at the gate's entry, with the argument of its caller and the
-- trusted one, and with the gate's fuel. Its private memory is the gate's, or what was kept for it.
abbrev pub run_by : ActorState → List ℕ → Option PrivateMemory → Entrance → ActorState
run_by a name kept entrance = record {
  name = name;
  compartment = entrance.gate.entry;
  run_of = Some entrance.gate;
  sheet = entrance.sheet;
  made = nothing_made;
  gates = a.gates;
  labels = [];
  drafts = [];
  hart = record (opening_hart entrance.gate.entry) { regs = put (put (opening_hart entrance.gate.entry).regs 10 (a1 a)) 11 entrance.gate.argument };
  memory = unwrap_or kept entrance.gate.memory;
  fuel = entrance.gate.fuel;
  denials = [];
  starts = 0;
  unjoined = [];
  phase = phase.Running;
}

abbrev pub run_at : ActorState → List ℕ → Option PrivateMemory → Phase → Option ActorState
run_at a name kept (phase.Entering entrance) = Some (run_by a name kept entrance)
run_at a name kept p = None

abbrev pub begun_in : ActorState → GateAsk → GateReply → Option ActorState
begun_in a (gate_ask.Enter run first) (gate_reply.Entered memory) = run_at a run (Some memory) a.phase
begun_in a q r = None

-- the actor that an event of this one begins, if it begins one
abbrev pub actor_begun : Image → ActorState → Event → Option ActorState
actor_begun i a (event.Start child) = Some (child_of i a child)
actor_begun i a (event.Enter run) = run_at a run None a.phase
actor_begun i a (event.Gate id q r) = begun_in a q r
actor_begun i a e = None
