-- Passes of the cells of declared tags. All are split from the first, which enters nothing itself.
use Rattle.std.specs.Prelude.{◌≡◌, ℕ, ◌+◌, ◌<◌, List, [], ◌∷◌, ◌++◌, length, Option, option_map}
use Rattle.atomic_table.specs.Seated.{TableId}
use Rattle.wedge_events.specs.Slots.{Segment, SlotFits, slot_reply}
use Rattle.wedge_events.specs.Wants.{slot_ask_with}
use Rattle.wedge_events.specs.declared.cells.SlotAsk.{SlotAsk}
use Rattle.wedge_events.specs.declared.cells.SlotReply.{SlotReply}
use Rattle.wedge_events.specs.declared.events.CellName.TheVariants as cell
use Rattle.wedge_events.specs.declared.events.Event.TheVariants as event
use Rattle.wedge_events.specs.declared.events.LogEntry.{LogEntry}
use Rattle.wedge_events.specs.declared.events.SlotWant.{SlotWant}
use Rattle.journal_cell.specs.Histories.{CellState}
use Rattle.journal_cell.specs.declared.entry.Entry.{Entry}
use Rattle.machine.specs.Actors.{ActorState}
use Rattle.machine.specs.Between.{IsInBounds}
use Rattle.machine.specs.Take.{pair}
use Rattle.ruled_cell.specs.Passes.{PassState}
use Rattle.ruled_cell.specs.declared.passes.PassOrigin.TheVariants.{First, SplitFrom}
use Rattle.tag_laws.specs.DeclaredTags.{IsRuledCell}

-- no table: it has no words and no slots
abbrev pub no_table : TableId
no_table = record {
  words = 0;
  slots = 0;
  views_name = 0;
  atom = 0;
  block = 0;
  offset = 0;
  slot_names = [];
}

-- a pass of the cells
abbrev pub SlotPass : Type 0
SlotPass = PassState SlotAsk SlotReply

-- the first pass of these cells, which has entered nothing
pub record IsFirstPass (t : TableId) (p : SlotPass) : Type 0 where
  pub table_ : p.table ≡ t
  pub origin_ : p.view.origin ≡ First
  pub number_ : p.view.number ≡ 0
  pub own_ : p.view.own ≡ []

-- a pass that was split from the first, and from which none is split
pub record IsActorPass (t : TableId) (p : SlotPass) : Type 0 where
  pub table_ : p.table ≡ t
  pub origin_ : p.view.origin ≡ SplitFrom 0
  pub unjoined_ : p.view.unjoined ≡ 0

-- what all of these passes entered, one after another
abbrev pub all_entered : List (List LogEntry) → List LogEntry
all_entered [] = []
all_entered (es ∷ ess) = es ++ all_entered ess

-- the cells of so many slots at the end: their histories have just these entries
pub record AreClosed (count : ℕ) (entered : List LogEntry)
    (cells : List (CellState (Option Segment) SlotAsk SlotReply)) : Type 0 where
  pub count_ : length cells ≡ count
  pub ruled : (slot : ℕ) → slot < count → IsRuledCell cells entered slot

-- cells that are named after slots, from a number on
abbrev pub AreNamedFrom : ℕ → List (CellState (Option Segment) SlotAsk SlotReply) → Type 0
AreNamedFrom n [] = Unit {0}
AreNamedFrom n (k ∷ ks) = (k.name ≡ cell.Slot n) × AreNamedFrom (n + 1) ks

-- and that have no entries
abbrev pub AreUnentered : ℕ → List (CellState (Option Segment) SlotAsk SlotReply) → Type 0
AreUnentered n [] = Unit {0}
AreUnentered n (k ∷ ks) = (k.name ≡ cell.Slot n) × (k.history ≡ []) × AreUnentered (n + 1) ks

-- their histories, in their order
abbrev pub histories_in : List (CellState (Option Segment) SlotAsk SlotReply) → List (List (Entry SlotAsk SlotReply))
histories_in [] = []
histories_in (k ∷ ks) = k.history ∷ histories_in ks

-- an actor that wants this of a slot
pub record SlotAsker : Type 0 where
  pub actor : ActorState
  pub slot : ℕ
  pub want : SlotWant

-- what it asks, by the tag that lives there
abbrev pub ask_made : SlotAsker → Option Segment → SlotAsk
ask_made m s = slot_ask_with m.want (pair m.actor (option_map (λ (g : Segment). g.tag) s))

-- what it asks fits the slot, and what the slot replies is within bounds
abbrev pub AskFits : SlotAsker → Option Segment → Type 0
AskFits m s = SlotFits s (ask_made m s)
    × IsInBounds (event.Slot m.slot (ask_made m s) (slot_reply s (ask_made m s)))
