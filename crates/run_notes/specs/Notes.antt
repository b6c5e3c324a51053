-- What is noted: each access that succeeded, of an instruction and of an event.
use Rattle.std.specs.Prelude.{ℕ, zero, suc, ◌+◌, ◌%◌, ◌==◌, Bool, true, false, not, List, [], ◌∷◌, ◌++◌, Option, Some, None, option_map, option_and_then, if◌then◌else◌}
use Rattle.cow_pages.specs.Copies.{copy_at, holds_copy}
use Rattle.wedge_base.specs.Images.{Image, fetch, in_text, slot_of}
use Rattle.wedge_base.specs.Memory.{range_at}
use Rattle.wedge_base.specs.declared.address.Place.{Place}
use Rattle.wedge_base.specs.declared.image.MemoryRange.{MemoryRange}
use Rattle.wedge_events.specs.declared.events.Event.{Event}
use Rattle.wedge_events.specs.declared.events.Event.TheVariants as event
use Rattle.wedge_events.specs.declared.cells.GateAsk.{GateAsk}
use Rattle.wedge_events.specs.declared.cells.GateAsk.TheVariants as gate_ask
use Rattle.wedge_events.specs.declared.cells.GateReply.{GateReply}
use Rattle.wedge_events.specs.declared.cells.GateReply.TheVariants as gate_reply
use Rattle.wedge_events.specs.declared.cells.Live.{Live}
use Rattle.wedge_events.specs.declared.cells.SlotAsk.TheVariants as slot_ask
use Rattle.wedge_events.specs.declared.cells.SlotReply.TheVariants as slot_reply
use Rattle.wedge_events.specs.declared.cells.StreamAsk.TheVariants as stream_ask
use Rattle.wedge_events.specs.declared.cells.StreamReply.TheVariants as stream_reply
use Rattle.rv_isa.specs.declared.Instr.{Instr}
use Rattle.rv_isa.specs.Table.{decode}
use Rattle.rv_hart.specs.declared.Need.{Need}
use Rattle.rv_hart.specs.declared.Need.TheVariants as need
use Rattle.rv_hart.specs.Local.{Began, local}
use Rattle.machine.specs.Actors.{ActorState}
use Rattle.machine.specs.Local.{step, is_running}
use Rattle.trace_form.specs.declared.words.Kind.{Kind}
use Rattle.trace_form.specs.declared.words.Kind.TheVariants as kind
use Rattle.trace_form.specs.declared.words.Mode.{Mode}
use Rattle.trace_form.specs.declared.words.Mode.TheVariants as mode
use Rattle.cow_pages.specs.PrivateMemory.{PrivateMemory}
use Rattle.wedge_events.specs.declared.cells.SlotAsk.{SlotAsk}
use Rattle.wedge_events.specs.declared.cells.SlotReply.{SlotReply}
use Rattle.wedge_events.specs.declared.cells.StreamAsk.{StreamAsk}
use Rattle.wedge_events.specs.declared.cells.StreamReply.{StreamReply}
use Rattle.run_notes.specs.Chains.{chain_by}
use Rattle.run_notes.specs.Doers.{doer_of}
use Rattle.run_notes.specs.Items.{tag_item, fd_item, copy_item}
use Rattle.run_notes.specs.declared.chain.CallChain.{CallChain}
use Rattle.run_notes.specs.declared.doer.Doer.{Doer}
use Rattle.run_notes.specs.declared.items.Makings.{Makings}
use Rattle.run_notes.specs.declared.items.NoteItem.{NoteItem}
use Rattle.run_notes.specs.declared.items.NoteItem.TheVariants as item
use Rattle.run_notes.specs.declared.note.Note.{Note}

-- an access by the instruction at hand of an actor
abbrev pub note_by : Doer → CallChain → Kind → Mode → NoteItem → Note
note_by d c k m what = record {
  actor = d.name;
  pc = d.pc;
  kind = k;
  mode = m;
  compartment = d.compartment;
  chain = c.frames;
  item = what;
}

-- ---- of an instruction: loads and stores of the actor's own copies of tags

-- the slot of the private copy that an access reaches: inside its bytes
abbrev pub held_copy : Place → ℕ → Option (List ℕ) → Option ℕ
held_copy p width None = None
held_copy p width (Some bytes) = if holds_copy p.offset width bytes then Some p.slot else None

abbrev pub copy_in_window : PrivateMemory → ℕ → Option Place → Option ℕ
copy_in_window m width None = None
copy_in_window m width (Some p) = held_copy p width (copy_at m.copies p.slot)

-- neither in private memory nor, before that, in the text, and aligned
abbrev pub copy_past_range : PrivateMemory → ℕ → ℕ → Option MemoryRange → Option ℕ
copy_past_range m address width (Some r) = None
copy_past_range m address width None = copy_in_window m width (slot_of address)

abbrev pub copy_reached : Image → PrivateMemory → ℕ → ℕ → Option ℕ
copy_reached i m address width =
    if not (address % width == 0) then None
    else if in_text i address width then None
    else copy_past_range m address width (range_at m.ranges address width)

abbrev pub copy_note : Image → Makings → ActorState → CallChain → Kind → Option ℕ → Option Note
copy_note i m a c k None = None
copy_note i m a c k (Some slot) = option_map (note_by (doer_of a) c k mode.Private) (copy_item i m a.sheet slot)

-- what an instruction needs first is noted, where the actor's own copy gives or takes it
abbrev pub note_of_need : Image → Makings → ActorState → CallChain → Need → Option Note
note_of_need i m a c (need.Load address width is_signed) = copy_note i m a c kind.Load (copy_reached i a.memory address width)
note_of_need i m a c (need.Store address width value) = copy_note i m a c kind.Store (copy_reached i a.memory address width)
note_of_need i m a c n = None

-- whether a need is an access of memory
abbrev pub is_access_need : Need → Bool
is_access_need (need.Load address width is_signed) = true
is_access_need (need.Store address width value) = true
is_access_need n = false

-- the instruction that an actor is about to make: there is one at its pc, and it has fuel for it
abbrev pub instr_at : Image → ActorState → Option Instr
instr_at i a = if a.fuel == 0 then None else option_and_then decode (fetch i a.hart.pc)

-- what is kept of an actor's instructions: its chain, and the notes so far
pub record Noted : Type 0 where
  pub chain : CallChain
  pub notes : List Note

abbrev pub with_note : List Note → Option Note → List Note
with_note notes None = notes
with_note notes (Some n) = notes ++ n ∷ []

abbrev pub noted_need : Image → Makings → ActorState → Noted → Instr → Began → Noted
noted_need i m a l ins b = record {
  chain = chain_by i ins b.need b.hart.pc l.chain;
  notes = with_note l.notes (note_of_need i m a l.chain b.need);
}

abbrev pub noted_instr : Image → Makings → ActorState → Noted → Option Instr → Noted
noted_instr i m a l None = l
noted_instr i m a l (Some ins) = noted_need i m a l ins (local ins a.hart)

-- with the instruction that an actor that runs is about to make
abbrev pub noted_step : Image → Makings → ActorState → Noted → Noted
noted_step i m a l = noted_instr i m a l (instr_at i a)

-- with at most so many instructions, while the actor runs
unfoldable pub noted_local : Image → Makings → ℕ → ActorState → Noted → Noted
noted_local i m zero a l = l
noted_local i m (suc n) a l = elim (is_running a.phase) [ true ↦ noted_local i m n (step i a) (noted_step i m a l) | false ↦ l ]

-- with all its instructions up to its next shared event
unfoldable pub noted_rest : Image → Makings → ActorState → Noted → Noted
noted_rest i m a l = noted_local i m (a.fuel + 1) a l

-- ---- of an event: what was loaded, stored, given, appended and entered

abbrev pub tag_note : Image → Makings → Doer → CallChain → Kind → Option Live → Option Note
tag_note i m d c k None = None
tag_note i m d c k (Some l) = Some (note_by d c k mode.Shared (tag_item i m l.tag))

abbrev pub slot_note : Image → Makings → Doer → CallChain → SlotAsk → SlotReply → Option Note
slot_note i m d c (slot_ask.Load offset width live) (slot_reply.Loaded value) = tag_note i m d c kind.Load live
slot_note i m d c (slot_ask.Store offset width value live) slot_reply.Stored = tag_note i m d c kind.Store live
slot_note i m d c q r = None

abbrev pub fd_note : Image → Makings → Doer → CallChain → Kind → ℕ → Option Note
fd_note i m d c k fd = Some (note_by d c k mode.Shared (fd_item i m fd))

abbrev pub stream_note : Image → Makings → Doer → CallChain → ℕ → StreamAsk → StreamReply → Option Note
stream_note i m d c fd (stream_ask.Read bits count) (stream_reply.Given bytes) = fd_note i m d c kind.Read fd
stream_note i m d c fd (stream_ask.Append bits bytes) stream_reply.Appended = fd_note i m d c kind.Append fd
stream_note i m d c fd q r = None

abbrev pub entry_note : Doer → CallChain → Option ℕ → Option Note
entry_note d c (Some entry) = Some (note_by d c kind.Call mode.Shared (item.Gate entry))
entry_note d c None = None

abbrev pub gate_note : Doer → CallChain → GateAsk → GateReply → Option Note
gate_note d c (gate_ask.Enter run first) (gate_reply.Entered memory) = entry_note d c d.entry
gate_note d c q r = None

-- what an event of an actor at rest is noted as, by its reply
abbrev pub event_note : Image → Makings → Doer → CallChain → Event → Option Note
event_note i m d c (event.Slot slot q r) = slot_note i m d c q r
event_note i m d c (event.Fd fd q r) = stream_note i m d c fd q r
event_note i m d c (event.Enter run) = entry_note d c d.entry
event_note i m d c (event.Gate id q r) = gate_note d c q r
event_note i m d c e = None
