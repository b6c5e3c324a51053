-- What each cell holds by the history of a run, beside the bytes: the tag that lives in a slot and
-- its blocks, the kind of a stream and whether it is open, the directories, the count of sthreads
-- that live, and the recycled gates.
use Rattle.std.specs.Prelude.{◌≡◌, ℕ, ◌==◌, Bool, true, false, List, [], ◌∷◌, Option, Some, None, option_map, if◌then◌else◌}
use Rattle.wedge_base.specs.Blocks.{Block, block, rounded, with_block, without_block}
use Rattle.wedge_events.specs.Directories.{Directory, directory_next}
use Rattle.wedge_events.specs.Lives.{lives_next}
use Rattle.wedge_events.specs.Gates.{Kept, gate_next}
use Rattle.wedge_base.specs.Identities.{same_gate}
use Rattle.wedge_base.specs.declared.grants.GateId.{GateId}
use Rattle.wedge_base.specs.declared.rights.StreamKind.{StreamKind}
use Rattle.wedge_events.specs.declared.events.Event.{Event}
use Rattle.wedge_events.specs.declared.events.Event.TheVariants as event
use Rattle.wedge_events.specs.declared.events.Turn.{Turn}
use Rattle.wedge_events.specs.declared.cells.SlotAsk.{SlotAsk}
use Rattle.wedge_events.specs.declared.cells.SlotAsk.TheVariants as ask
use Rattle.wedge_events.specs.declared.cells.SlotReply.{SlotReply}
use Rattle.wedge_events.specs.declared.cells.SlotReply.TheVariants as reply
use Rattle.wedge_events.specs.declared.cells.StreamAsk.{StreamAsk}
use Rattle.wedge_events.specs.declared.cells.StreamAsk.TheVariants as stream_ask
use Rattle.wedge_events.specs.declared.cells.StreamReply.{StreamReply}
use Rattle.wedge_events.specs.declared.cells.StreamReply.TheVariants as stream_reply
use Rattle.machine.specs.Cells.{Cells, slot_in, stream_in, kept_in}

-- what is left after these turns, from what was before, by what each event leaves
abbrev pub after_turns : {X : Type 0} → (X → Event → X) → X → List Turn → X
after_turns by x [] = x
after_turns by x (t ∷ ts) = after_turns by (by x t.event) ts

-- a tag that lives in a slot, and its blocks
pub record Occupant : Type 0 where
  pub tag : ℕ
  pub blocks : List Block

abbrev pub occupant : ℕ → List Block → Occupant
occupant tag blocks = record { tag = tag; blocks = blocks }

abbrev pub occupant_in : Cells → ℕ → Option Occupant
occupant_in c slot = option_map (λ g. occupant g.tag g.blocks) (slot_in c slot)

-- An opening lets a tag live in the slot, without blocks, and a closing ends it; a block is added
-- where one was placed, and taken away where one was freed. Nothing else, no load and no store,
-- changes any of it.
abbrev pub occupant_by : Option Occupant → SlotAsk → SlotReply → Option Occupant
occupant_by t (ask.Open tag pages) r = Some (occupant tag [])
occupant_by t (ask.Close tag) reply.Closed = None
occupant_by t (ask.Smalloc tag size) (reply.Placed offset) = option_map (λ x. occupant x.tag (with_block (block offset (rounded size)) x.blocks)) t
occupant_by t (ask.Sfree offset live) reply.Freed = option_map (λ x. occupant x.tag (without_block offset x.blocks)) t
occupant_by t q r = t

abbrev pub occupant_after_event : ℕ → Option Occupant → Event → Option Occupant
occupant_after_event slot t (event.Slot s q r) = if s == slot then occupant_by t q r else t
occupant_after_event slot t e = t

-- the kind of a stream, and whether it is open
pub record StreamMode : Type 0 where
  pub kind : StreamKind
  pub open_ : Bool

abbrev pub mode : StreamKind → Bool → StreamMode
mode kind open_ = record { kind = kind; open_ = open_ }

abbrev pub mode_in : Cells → ℕ → Option StreamMode
mode_in c fd = option_map (λ s. mode s.kind s.live) (stream_in c fd)

-- an opening gives the stream its kind, a closing closes it, and nothing else, no read and no
-- append, changes either of them
abbrev pub mode_by : Option StreamMode → StreamAsk → StreamReply → Option StreamMode
mode_by k (stream_ask.Open kind bytes) r = Some (mode kind true)
mode_by k (stream_ask.Close bits) stream_reply.Closed = option_map (λ x. mode x.kind false) k
mode_by k q r = k

abbrev pub mode_after_event : ℕ → Option StreamMode → Event → Option StreamMode
mode_after_event fd k (event.Fd n q r) = if n == fd then mode_by k q r else k
mode_after_event fd k e = k

-- a directory goes on by its own claims and releases, the count of lives by its own, and a gate by
-- those who enter and leave it
abbrev pub places_after_event : Directory → Event → Directory
places_after_event d (event.Slots q r) = directory_next d q
places_after_event d e = d

abbrev pub numbers_after_event : Directory → Event → Directory
numbers_after_event d (event.Fds q r) = directory_next d q
numbers_after_event d e = d

abbrev pub lives_after_event : ℕ → Event → ℕ
lives_after_event n (event.Lives q r) = lives_next n q
lives_after_event n e = n

abbrev pub kept_after_event : GateId → Kept → Event → Kept
kept_after_event id k (event.Gate g q r) = if same_gate g id then gate_next k q else k
kept_after_event id k e = k

-- each cell is what it was before, with what its own events made of it in order
pub record CellsFollow (old : Cells) (turns : List Turn) (new : Cells) : Type 0 where
  pub occupants : (slot : ℕ) → occupant_in new slot ≡ after_turns (occupant_after_event slot) (occupant_in old slot) turns
  pub modes : (fd : ℕ) → mode_in new fd ≡ after_turns (mode_after_event fd) (mode_in old fd) turns
  pub places : new.places ≡ after_turns places_after_event old.places turns
  pub numbers : new.numbers ≡ after_turns numbers_after_event old.numbers turns
  pub lives : new.lives ≡ after_turns lives_after_event old.lives turns
  pub gates : (id : GateId) → kept_in new id ≡ after_turns (kept_after_event id) (kept_in old id) turns
