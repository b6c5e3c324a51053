-- Entries of an actor at rest.
use Rattle.std.specs.Prelude.{◌≡◌, ℕ, ◌+◌, ◌≤◌, ◌++◌, ◌∷◌, List, [], Option, Some, None, IsSomeAnd}
use Rattle.wedge_base.specs.Images.{Image}
use Rattle.wedge_base.specs.declared.grants.GateId.{GateId}
use Rattle.wedge_events.specs.Directories.{Directory, DirectoryFits, directory_reply, directory_next, slots_opening, fds_opening}
use Rattle.wedge_events.specs.Gates.{Kept, GateFits, gate_reply, gate_next, gate_opening}
use Rattle.wedge_events.specs.Journals.{cell_of}
use Rattle.wedge_events.specs.Lives.{lives_reply, lives_next, lives_opening}
use Rattle.wedge_events.specs.Slots.{SlotFits, slot_reply, slot_next, slot_opening}
use Rattle.wedge_events.specs.Streams.{StreamFits, stream_reply, stream_next, stream_opening}
use Rattle.wedge_events.specs.declared.cells.DirectoryAsk.{DirectoryAsk}
use Rattle.wedge_events.specs.declared.cells.DirectoryReply.{DirectoryReply}
use Rattle.wedge_events.specs.declared.cells.GateAsk.{GateAsk}
use Rattle.wedge_events.specs.declared.cells.GateReply.{GateReply}
use Rattle.wedge_events.specs.declared.cells.LivesAsk.{LivesAsk}
use Rattle.wedge_events.specs.declared.cells.LivesReply.{LivesReply}
use Rattle.wedge_events.specs.declared.cells.SlotAsk.{SlotAsk}
use Rattle.wedge_events.specs.declared.cells.SlotReply.{SlotReply}
use Rattle.wedge_events.specs.declared.cells.StreamAsk.{StreamAsk}
use Rattle.wedge_events.specs.declared.cells.StreamReply.{StreamReply}
use Rattle.wedge_events.specs.declared.events.CellName.TheVariants as cell
use Rattle.wedge_events.specs.declared.events.Event.{Event}
use Rattle.wedge_events.specs.declared.events.Event.TheVariants as event
use Rattle.wedge_events.specs.declared.events.LogEntry.{LogEntry}
use Rattle.wedge_events.specs.declared.events.Want.{Want}
use Rattle.wedge_events.specs.declared.events.Want.TheVariants as want
use Rattle.journal_cell.specs.Histories.{CellState, IsHistory, cell_after, greater}
use Rattle.journal_cell.specs.declared.entry.Entry.{Entry}
use Rattle.machine.specs.Actors.{ActorState}
use Rattle.machine.specs.Between.{TakesFit}
use Rattle.machine.specs.Children.{child_name}
use Rattle.machine.specs.Take.{next_start, actor_begun}
use Rattle.run_laws.specs.Walks.{IsEntryOf}
use Rattle.thread_laws.specs.ActorProgresses.{ActorProgress, IsStampAfter, NoJoin}
use Rattle.thread_laws.specs.Executions.{name_begun}

-- a want of one cell that is no recycled gate: no other actor has part in it
abbrev pub IsOfCell : Want → Type 0
IsOfCell (want.Start child) = ⊥
IsOfCell (want.Join child) = ⊥
IsOfCell (want.Enter run) = ⊥
IsOfCell (want.Leave e) = ⊥
IsOfCell (want.Gate id q) = ⊥
IsOfCell q = Unit {0}

-- a want of no slot
abbrev pub IsNoSlot : Want → Type 0
IsNoSlot (want.Slot slot q) = ⊥
IsNoSlot q = Unit {0}

-- an entry on a slot, and one on no slot
abbrev pub IsOnSlot : ℕ → LogEntry → Type 0
IsOnSlot slot e = cell_of e.event ≡ Some (cell.Slot slot)

abbrev pub IsOnNoSlot : LogEntry → Type 0
IsOnNoSlot e = (slot : ℕ) → IsOnSlot slot e → ⊥

-- an entry is the last of a legal history from a state on
abbrev pub EndsHistory : {S Q R : Type 0} → (S → Q → Type 0) → (S → Q → R) → (S → Q → S) → S → Entry Q R → Type 0
EndsHistory {S} {Q} {R} fits reply next initial e =
    (es : List (Entry Q R)) × IsHistory fits reply next initial 0 (es ++ e ∷ [])

-- An event with this stamp, by this actor, is the last in a legal history of a cell of its kind: the ask fitted, the
-- reply is the cell's, and the stamp is above those before it. An event of no cell is in none.
abbrev pub IsLastOfCell : Image → ℕ → List ℕ → Event → Type 0
IsLastOfCell i s a (event.Slots q r) =
    EndsHistory DirectoryFits directory_reply directory_next (slots_opening i)
    (record { stamp = s; actor = a; ask = q; reply = r })
IsLastOfCell i s a (event.Slot slot q r) = (n : ℕ)
    × EndsHistory SlotFits slot_reply slot_next (slot_opening i n)
    (record { stamp = s; actor = a; ask = q; reply = r })
IsLastOfCell i s a (event.Fds q r) =
    EndsHistory DirectoryFits directory_reply directory_next (fds_opening i)
    (record { stamp = s; actor = a; ask = q; reply = r })
IsLastOfCell i s a (event.Fd fd q r) = (n : ℕ)
    × EndsHistory StreamFits stream_reply stream_next (stream_opening i n)
    (record { stamp = s; actor = a; ask = q; reply = r })
IsLastOfCell i s a (event.Lives q r) =
    EndsHistory (λ n q. Unit {0}) lives_reply lives_next lives_opening
    (record { stamp = s; actor = a; ask = q; reply = r })
IsLastOfCell i s a (event.Gate id q r) =
    EndsHistory GateFits gate_reply gate_next gate_opening
    (record { stamp = s; actor = a; ask = q; reply = r })
IsLastOfCell i s a e = Unit {0}

-- an entry of an actor at rest that creates no actor and joins none
pub record IsPlainEntry (i : Image) (r : ActorProgress) (e : LogEntry) : Type 0 where
  pub own : IsEntryOf r.state r.clock e
  pub stamp : IsStampAfter (cell_of e.event) r.clock e.stamp
  pub fits : TakesFit r.state e.event
  pub alone : actor_begun i r.state e.event ≡ None
  pub nameless : name_begun e.event ≡ None
  pub no_join : NoJoin e.event
  pub last_ : IsLastOfCell i e.stamp e.actor e.event

-- an actor that another creates: it has the next name, and at most the fuel that the other has
pub record IsNextActor (a c : ActorState) : Type 0 where
  pub name_ : c.name ≡ child_name a.name (next_start a)
  pub fuel_ : c.fuel ≤ a.fuel

-- an entry of an actor at rest that creates another
pub record IsCreatingEntry (i : Image) (r : ActorProgress) (e : LogEntry) : Type 0 where
  pub own : IsEntryOf r.state r.clock e
  pub stamp : IsStampAfter (cell_of e.event) r.clock e.stamp
  pub fits : TakesFit r.state e.event
  pub creates : IsSomeAnd (actor_begun i r.state e.event) (IsNextActor r.state)
  pub last_ : IsLastOfCell i e.stamp e.actor e.event

-- entries of cells as entries of logs
abbrev pub slot_entry_of : ℕ → Entry SlotAsk SlotReply → LogEntry
slot_entry_of slot e =
    record { stamp = e.stamp; actor = e.actor; event = event.Slot slot e.ask e.reply }

abbrev pub stream_entry_of : ℕ → Entry StreamAsk StreamReply → LogEntry
stream_entry_of fd e =
    record { stamp = e.stamp; actor = e.actor; event = event.Fd fd e.ask e.reply }

abbrev pub lives_entry_of : Entry LivesAsk LivesReply → LogEntry
lives_entry_of e =
    record { stamp = e.stamp; actor = e.actor; event = event.Lives e.ask e.reply }

abbrev pub slot_directory_entry_of : Entry DirectoryAsk DirectoryReply → LogEntry
slot_directory_entry_of e =
    record { stamp = e.stamp; actor = e.actor; event = event.Slots e.ask e.reply }

abbrev pub fd_directory_entry_of : Entry DirectoryAsk DirectoryReply → LogEntry
fd_directory_entry_of e =
    record { stamp = e.stamp; actor = e.actor; event = event.Fds e.ask e.reply }

abbrev pub gate_entry_of : GateId → Entry GateAsk GateReply → LogEntry
gate_entry_of gate e =
    record { stamp = e.stamp; actor = e.actor; event = event.Gate gate e.ask e.reply }

-- what the cell of a recycled gate keeps of an actor that asks it this: one above the greater of the two clocks, under
-- the actor's name, with the gate's reply
abbrev pub entry_in_gate : ActorProgress → CellState Kept GateAsk GateReply → GateAsk → Entry GateAsk GateReply
entry_in_gate r k q = record {
  stamp = greater k.clock r.clock + 1;
  actor = r.state.name;
  ask = q;
  reply = gate_reply k.state q;
}

-- an actor asked a recycled gate this: its entry is the one that the gate's cell has more
pub record IsKeptInGate (id : GateId) (q : GateAsk) (r : ActorProgress)
    (old new : CellState Kept GateAsk GateReply) (e : LogEntry) : Type 0 where
  pub entry_ : e ≡ gate_entry_of id (entry_in_gate r old q)
  pub kept_ : new ≡ cell_after gate_next old (entry_in_gate r old q)
