-- What a turn adds to the notes: one for each access that succeeded, which the sheet of its actor
-- permits, with the chain of calls which the actor then has, and none else.
use Rattle.std.specs.Prelude.{◌≡◌, ℕ, zero, suc, ◌+◌, ◌<◌, ◌≤◌, ◌==◌, Bool, true, false, ◌&&◌, ◌||◌, List, [], ◌∷◌, ◌++◌, length, map, slice_get, slice_set, Option, Some, None, is_some, IfSome, option_map, option_and_then}
use Rattle.wedge_base.specs.Images.{Image, fetch}
use Rattle.wedge_base.specs.Maps.{Map, at}
use Rattle.wedge_base.specs.Sheets.{is_copy}
use Rattle.wedge_base.specs.declared.rights.Grant.{Grant}
use Rattle.wedge_base.specs.declared.rights.Right.{Right}
use Rattle.wedge_base.specs.declared.rights.Right.TheVariants as right
use Rattle.wedge_events.specs.declared.cells.GateAsk.TheVariants as gate_ask
use Rattle.wedge_events.specs.declared.cells.GateReply.TheVariants as gate_reply
use Rattle.wedge_events.specs.declared.cells.SlotAsk.TheVariants as slot_ask
use Rattle.wedge_events.specs.declared.cells.SlotReply.TheVariants as slot_reply
use Rattle.wedge_events.specs.declared.cells.StreamAsk.TheVariants as stream_ask
use Rattle.wedge_events.specs.declared.cells.StreamReply.TheVariants as stream_reply
use Rattle.wedge_events.specs.declared.events.Event.{Event}
use Rattle.wedge_events.specs.declared.events.Event.TheVariants as event
use Rattle.wedge_events.specs.declared.events.Turn.{Turn}
use Rattle.rv_isa.specs.declared.Instr.{Instr}
use Rattle.rv_isa.specs.Table.{decode}
use Rattle.rv_hart.specs.declared.Need.{Need}
use Rattle.rv_hart.specs.declared.Need.TheVariants as need
use Rattle.rv_hart.specs.Local.{local, reg}
use Rattle.callgate.specs.declared.gate.Gate.{Gate}
use Rattle.machine.specs.Actors.{ActorState, bits_of}
use Rattle.machine.specs.Cells.{Cells, tag_in}
use Rattle.machine.specs.Local.{step, is_running}
use Rattle.machine.specs.Take.{actor_begun}
use Rattle.machine.specs.Worlds.{WorldState, initial_state, actor_named, ready, at_rest, turn_of, Runs}
use Rattle.run_laws.specs.Allowed.{may_use}
use Rattle.run_laws.specs.Holding.{gate_for}
use Rattle.run_laws.specs.Remembering.{Target, InCopy, target_of}
use Rattle.trace_form.specs.declared.words.Kind.{Kind}
use Rattle.trace_form.specs.declared.words.Kind.TheVariants as kind
use Rattle.trace_form.specs.declared.words.Mode.{Mode}
use Rattle.trace_form.specs.declared.words.Mode.TheVariants as mode
use Rattle.run_notes.specs.Chains.{opening_chain, chain_by}
use Rattle.run_notes.specs.Notes.{with_note}
use Rattle.run_notes.specs.declared.chain.CallChain.{CallChain}
use Rattle.run_notes.specs.declared.items.Makings.{Makings}
use Rattle.run_notes.specs.declared.items.NoteItem.{NoteItem}
use Rattle.run_notes.specs.declared.items.NoteItem.TheVariants as item
use Rattle.run_notes.specs.declared.items.Origin.{Origin}
use Rattle.run_notes.specs.declared.note.Note.{Note}
use Rattle.run_log.specs.Logging.{log_of}
use Rattle.run_log.specs.Logs.{Log}
use Rattle.world_turns.specs.Indices.{index_in}

-- a note of an actor as it is, with this chain: of an access of this kind and mode by the
-- instruction at hand
pub record IsNoteOf (a : ActorState) (ch : CallChain) (k : Kind) (how : Mode) (n : Note)
    : Type 0 where
  pub actor : n.actor ≡ a.name
  pub pc : n.pc ≡ a.hart.pc
  pub compartment : n.compartment ≡ a.compartment
  pub chain : n.chain ≡ ch.frames
  pub kind : n.kind ≡ k
  pub mode : n.mode ≡ how

-- a tag is named by its number where the image declares it, and else by who made it
pub record IsItemOfTag (i : Image) (m : Makings) (tag : ℕ) (it : NoteItem) : Type 0 where
  pub declared : tag < length i.tags → it ≡ item.Declared tag
  pub made : (o : Origin)
      → length i.tags ≤ tag → at m.tags tag ≡ Some o → it ≡ item.Made o.compartment o.pc

-- a descriptor by its number, and else by the path of the file that was opened
pub record IsItemOfFd (i : Image) (m : Makings) (fd : ℕ) (it : NoteItem) : Type 0 where
  pub declared : fd < length i.fds → it ≡ item.Fd fd
  pub opened : (path : List ℕ)
      → length i.fds ≤ fd → at m.files fd ≡ Some path → it ≡ item.File path

-- ---- the chain of calls of an actor, once it has made instructions

-- past one instruction
abbrev pub chain_past_instr : Image → ActorState → Option Instr → CallChain → CallChain
chain_past_instr i a None ch = ch
chain_past_instr i a (Some ins) ch =
    chain_by i ins (local ins a.hart).need (local ins a.hart).hart.pc ch

-- past the one that it is about to make, if there is one and fuel for it
abbrev pub chain_past_with : Image → ActorState → ℕ → CallChain → CallChain
chain_past_with i a zero ch = ch
chain_past_with i a (suc n) ch =
    chain_past_instr i a (option_and_then decode (fetch i a.hart.pc)) ch

abbrev pub chain_past : Image → ActorState → CallChain → CallChain
chain_past i a ch = chain_past_with i a a.fuel ch

-- past at most so many, while it runs
abbrev pub chain_past_local : Image → ℕ → ActorState → CallChain → CallChain
chain_past_local i zero a ch = ch
chain_past_local i (suc n) a ch = elim (is_running a.phase) [
  | true ↦ chain_past_local i n (step i a) (chain_past i a ch)
  | false ↦ ch
]

-- past all up to its next shared event
abbrev pub chain_at_rest : Image → ActorState → CallChain → CallChain
chain_at_rest i a ch = chain_past_local i (a.fuel + 1) a ch

-- ---- instructions: loads and stores of private copies

-- an access of the private copy at a slot
pub record CopyAccess : Type 0 where
  pub kind : Kind
  pub slot : ℕ

-- the slot of the private copy to which a store of that width goes, and of which a load gives bytes
abbrev pub slot_of_target : Target → Option ℕ
slot_of_target (InCopy p) = Some p.slot
slot_of_target t = None

abbrev pub copy_access_at : Kind → ℕ → CopyAccess
copy_access_at k slot = record { kind = k; slot = slot }

abbrev pub copy_access_of : Image → ActorState → Need → Option CopyAccess
copy_access_of i a (need.Load address width s) =
    option_map (copy_access_at kind.Load) (slot_of_target (target_of i a address width))
copy_access_of i a (need.Store address width value) =
    option_map (copy_access_at kind.Store) (slot_of_target (target_of i a address width))
copy_access_of i a n = None

abbrev pub copy_access_by : Image → ActorState → Option Instr → Option CopyAccess
copy_access_by i a None = None
copy_access_by i a (Some ins) = copy_access_of i a (local ins a.hart).need

-- that of the instruction which an actor is about to make, if it is one and there is fuel for it
abbrev pub copy_access_with : Image → ActorState → ℕ → Option CopyAccess
copy_access_with i a zero = None
copy_access_with i a (suc n) = copy_access_by i a (option_and_then decode (fetch i a.hart.pc))

abbrev pub copy_access : Image → ActorState → Option CopyAccess
copy_access i a = copy_access_with i a a.fuel

-- whether a sheet's grants have one of a copy of a tag, which was opened in a slot
abbrev pub grants_copy_of : Map Grant → ℕ → ℕ → Bool
grants_copy_of [] slot tag = false
grants_copy_of (e ∷ es) slot tag =
    ((is_copy e.1.right && (e.1.slot == slot)) && (e.0 == tag)) || grants_copy_of es slot tag

-- its note: of a tag of which the actor's sheet grants a copy in that slot, the one with the
-- greatest number
pub record IsCopyNote (i : Image) (m : Makings) (a : ActorState) (ch : CallChain) (x : CopyAccess)
    (n : Note) : Type 0 where
  pub of : IsNoteOf a ch x.kind mode.Private n
  pub tag : ℕ
  pub granted : grants_copy_of a.sheet.tags x.slot tag ≡ true
  pub greatest : (t : ℕ) → grants_copy_of a.sheet.tags x.slot t ≡ true → t ≤ tag
  pub item : IsItemOfTag i m tag n.item

abbrev pub BeginWith : Image → Makings → ActorState → CallChain → Option CopyAccess
    → (List Note → Type 0) → List Note → Type 0
BeginWith i m a ch None Later ns = Later ns
BeginWith i m a ch (Some x) Later [] = ⊥
BeginWith i m a ch (Some x) Later (n ∷ ns) = IsCopyNote i m a ch x n × Later ns

-- the notes of at most so many instructions, while the actor runs: one for each such access, with
-- the chain that the actor has before that instruction
abbrev pub AreCopyNotes : Image → Makings → ℕ → ActorState → CallChain → List Note → Type 0
AreCopyNotes i m zero a ch ns = ns ≡ []
AreCopyNotes i m (suc k) a ch ns = elim (is_running a.phase) [
  | true ↦ BeginWith i m a ch (copy_access i a)
      (AreCopyNotes i m k (step i a) (chain_past i a ch)) ns
  | false ↦ ns ≡ []
]

-- ---- events: what was loaded, stored, given, appended and entered

abbrev pub has_succeeded : Event → Bool
has_succeeded (event.Slot slot (slot_ask.Load width offset live) (slot_reply.Loaded value)) = true
has_succeeded (event.Slot slot (slot_ask.Store width offset value live) slot_reply.Stored) = true
has_succeeded (event.Fd fd (stream_ask.Read bits count) (stream_reply.Given bytes)) = true
has_succeeded (event.Fd fd (stream_ask.Append bits bytes) stream_reply.Appended) = true
has_succeeded (event.Enter run) = true
has_succeeded (event.Gate id (gate_ask.Enter run first) (gate_reply.Entered memory)) = true
has_succeeded e = false

-- of the tag that lives in a slot, on which the actor has this right
pub record IsTagNote (i : Image) (c : Cells) (m : Makings) (a : ActorState) (slot : ℕ)
    (wants : Right) (n : Note) : Type 0 where
  pub tag : ℕ
  pub lives : tag_in c slot ≡ Some tag
  pub permitted : may_use a tag wants ≡ true
  pub item : IsItemOfTag i m tag n.item

-- of the gate that the actor holds at the entry that its call names
pub record IsCallNote (a : ActorState) (ch : CallChain) (n : Note) : Type 0 where
  pub of : IsNoteOf a ch kind.Call mode.Shared n
  pub gate : Gate
  pub held : gate_for a (reg a.hart.regs 10) ≡ Some gate
  pub item : n.item ≡ item.Gate gate.entry

abbrev pub IsAccessNote : Image → Cells → Makings → ActorState → CallChain → Event → Note → Type 0
IsAccessNote i c m a ch (event.Slot slot (slot_ask.Load width offset live) r) n =
    IsNoteOf a ch kind.Load mode.Shared n × IsTagNote i c m a slot right.Read n
IsAccessNote i c m a ch (event.Slot slot (slot_ask.Store width offset value live) r) n =
    IsNoteOf a ch kind.Store mode.Shared n × IsTagNote i c m a slot right.ReadWrite n
IsAccessNote i c m a ch (event.Fd fd (stream_ask.Read bits count) r) n =
    IsNoteOf a ch kind.Read mode.Shared n × IsItemOfFd i m fd n.item × ((bits_of a fd).read ≡ true)
IsAccessNote i c m a ch (event.Fd fd (stream_ask.Append bits bytes) r) n =
    IsNoteOf a ch kind.Append mode.Shared n × IsItemOfFd i m fd n.item
    × ((bits_of a fd).append ≡ true)
IsAccessNote i c m a ch (event.Enter run) n = IsCallNote a ch n
IsAccessNote i c m a ch (event.Gate id (gate_ask.Enter run first) r) n = IsCallNote a ch n
IsAccessNote i c m a ch e n = ⊥

-- one note, or none, as the event succeeded or not
pub record IsEventNote (i : Image) (c : Cells) (m : Makings) (a : ActorState) (ch : CallChain)
    (e : Event) (o : Option Note) : Type 0 where
  pub exactly : is_some o ≡ has_succeeded e
  pub within : IfSome o (IsAccessNote i c m a ch e)

-- ---- a turn: its actor goes on and comes to rest, and its event takes place

-- an actor that an event begins has the chain of its compartment alone
abbrev pub chain_begun : Option ActorState → List CallChain
chain_begun None = []
chain_begun (Some a) = opening_chain a.compartment ∷ []

-- the notes that a turn adds, and the chains after it: its actor has the chain that the log keeps
-- at its index, and goes on from there
pub record AreTurnNotes (w : WorldState) (l : Log) (t : Turn) (new : Log) : Type 0 where
  pub actor : ActorState
  pub named : actor_named w.actors t.actor ≡ Some actor
  pub index : ℕ
  pub at : index_in w.actors t.actor ≡ Some index
  pub chain : CallChain
  pub kept : slice_get l.chains index ≡ Some chain
  pub own : List Note
  pub last : Option Note
  pub notes : new.notes ≡ with_note (l.notes ++ own) last
  pub copies : AreCopyNotes w.image l.makings ((ready w.actors actor).fuel + 1)
      (ready w.actors actor) chain own
  pub event : IsEventNote w.image w.cells l.makings (at_rest w actor)
      (chain_at_rest w.image (ready w.actors actor) chain) t.event last
  pub chains : new.chains
      ≡ slice_set l.chains index (chain_at_rest w.image (ready w.actors actor) chain)
      ++ chain_begun (actor_begun w.image (at_rest w actor) t.event)

-- the log of a run so far
abbrev pub log_so_far : Image → List Turn → Log
log_so_far i turns = log_of i (map (λ t. t.actor) turns)

-- before the first turn there is no note, and the root has the chain of its compartment alone
pub record IsFirstLog (i : Image) (l : Log) : Type 0 where
  pub notes : l.notes ≡ []
  pub chains : l.chains ≡ map (λ a. opening_chain a.compartment) (initial_state i).actors

-- in every run a turn more adds its own notes to the log, by what the run has made before
pub record NotesAreWithin : Type 0 where
  pub first : (i : Image) → IsFirstLog i (log_so_far i [])
  pub each : (i : Image) (turns : List Turn) (w new : WorldState) (t : Turn)
      → Runs (initial_state i) turns w
      → turn_of w t.actor ≡ Some (record { event = t.event; world = new })
      → AreTurnNotes w (log_so_far i turns) t (log_so_far i (turns ++ t ∷ []))
