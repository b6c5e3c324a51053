-- What a locked cell keeps is a legal history of it: said once for all kinds of cells.
use Rattle.std.proofs.Common.{◌≡◌, ℕ, Bool, true, false, ◌+◌, ◌-◌, ◌<◌, List, [], ◌∷◌, length, refl, sym, ap, subst, ◌∙◌, arith}
use Rattle.std.proofs.lemmas.Bool.{eqb-true, eq-eqb}
use Rattle.std.specs.Prelude.{Some, find, if◌then◌else◌}
use Rattle.wedge_base.specs.Images.{Image, slots as most_slots}
use Rattle.wedge_base.specs.declared.grants.GateId.{GateId}
use Rattle.wedge_events.specs.Directories.{DirectoryFits, directory_reply, directory_next}
use Rattle.wedge_events.specs.Gates.{GateFits, gate_reply, gate_next}
use Rattle.wedge_events.specs.Journals.{event_ask}
use Rattle.wedge_events.specs.Lives.{lives_reply, lives_next}
use Rattle.wedge_events.specs.Slots.{SlotFits, slot_reply, slot_next}
use Rattle.wedge_events.specs.Streams.{StreamFits, stream_reply, stream_next, most_fds}
use Rattle.wedge_events.specs.declared.events.CellName.{CellName}
use Rattle.wedge_events.specs.declared.events.CellName.TheVariants as cell
use Rattle.wedge_events.specs.declared.events.Event.{Event}
use Rattle.wedge_events.specs.declared.events.Event.TheVariants as event
use Rattle.machine.specs.Cells.{Cells, opening_cells, slot_in, stream_in, kept_in, event_of, cells_after, AskFits}
use Rattle.run_laws.proofs.KnownGates.{itself, same_id}
use Rattle.run_laws.proofs.Opening.{cells_open}
use Rattle.run_laws.proofs.Settling.{slots_size, opening_ready}
use Rattle.journal_cell.specs.Histories.{IsHistory}
use Rattle.journal_cell.specs.declared.entry.Entry.{Entry}
use Rattle.thread_laws.specs.Histories.{is_of, IsReplay, IsLegal}
use Rattle.thread_laws.specs.Replaying.{logged_as, cell_in, logged, same_cell, entries_kept_in, history_of, IsLegalHistory, KeptAreLegal}
use Rattle.thread_laws.specs.declared.gathered.CellHistory.{CellHistory}
use Rattle.thread_laws.specs.declared.gathered.CellHistory.TheVariants as history
use Rattle.thread_laws.proofs.Alike.{streams_long, set_there, kept_there}

-- a kind of cell: its state among all cells, and the event of an ask and a reply
record IsKind {S Q R : Type 0} (name : CellName) (fits : S → Q → Type 0) (reply : S → Q → R) (next : S → Q → S) (state : Cells → S) (Here : Cells → Type 0) (make : Q → R → Event) : Type 0 where
  own : (q : Q) (r : R) → is_of name (make q r) ≡ true
  replies : (c : Cells) (q : Q) → event_of c (event_ask (make q (reply (state c) q))) ≡ Some (make q (reply (state c) q))
  asks : (c : Cells) (q : Q) (r : R) → Here c → fits (state c) q → AskFits c (event_ask (make q r))
  goes : (c : Cells) (q : Q) → Here c → state (cells_after c (make q (reply (state c) q))) ≡ next (state c) q
  stays : (c : Cells) (q : Q) (r : R) → Here c → Here (cells_after c (make q r))

replays : {S Q R : Type 0} (name : CellName) (fits : S → Q → Type 0) (reply : S → Q → R) (next : S → Q → S) (state : Cells → S) (Here : Cells → Type 0) (make : Q → R → Event)
    → IsKind name fits reply next state Here make → (c : Cells) (clock : ℕ) (es : List (Entry Q R)) → Here c → IsHistory fits reply next (state c) clock es → IsReplay name c clock (logged_as make es)
replays name fits reply next state Here make k c clock [] here h = tt
replays name fits reply next state Here make k c clock (e ∷ es) here h =
    let r : make e.ask e.reply ≡ make e.ask (reply (state c) e.ask) = ap (make e.ask) h.2 in
    let after : state (cells_after c (make e.ask e.reply)) ≡ next (state c) e.ask = ap (λ x. state (cells_after c x)) r ∙ k.goes c e.ask here in (
      record {
        own = k.own e.ask e.reply;
        above = h.0;
        reply = subst (λ x. event_of c (event_ask x) ≡ Some x) (sym r) (k.replies c e.ask);
        fits = k.asks c e.ask e.reply here h.1;
      },
      replays name fits reply next state Here make k (cells_after c (make e.ask e.reply)) e.stamp es (k.stays c e.ask e.reply here) (subst (λ s. IsHistory fits reply next s e.stamp es) (sym after) h.3),
    )

-- ---- the kinds

places_kind : IsKind cell.Slots DirectoryFits directory_reply directory_next (λ c. c.places) (λ c. Unit {0}) event.Slots
places_kind = record { own = λ q r. refl; replies = λ c q. refl; asks = λ c q r here h. tt; goes = λ c q here. refl; stays = λ c q r here. tt }

numbers_kind : IsKind cell.Fds DirectoryFits directory_reply directory_next (λ c. c.numbers) (λ c. Unit {0}) event.Fds
numbers_kind = record { own = λ q r. refl; replies = λ c q. refl; asks = λ c q r here h. tt; goes = λ c q here. refl; stays = λ c q r here. tt }

lives_kind : IsKind cell.Lives (λ n q. Unit {0}) lives_reply lives_next (λ c. c.lives) (λ c. Unit {0}) event.Lives
lives_kind = record { own = λ q r. refl; replies = λ c q. refl; asks = λ c q r here h. tt; goes = λ c q here. refl; stays = λ c q r here. tt }

slot_kind : (slot : ℕ) → slot < most_slots → IsKind (cell.Slot slot) SlotFits slot_reply slot_next (λ c. slot_in c slot) (λ c. slot < length c.slots) (event.Slot slot)
slot_kind slot inside = record {
  own = λ q r. eq-eqb slot slot refl;
  replies = λ c q. refl;
  asks = λ c q r here h. (inside, h);
  goes = λ c q here. set_there c.slots slot (slot_next (slot_in c slot) q) here;
  stays = λ c q r here. subst (λ n. slot < n) (sym (slots_size c (event.Slot slot q r))) here;
}

stream_kind : (fd : ℕ) → fd < most_fds → IsKind (cell.Fd fd) StreamFits stream_reply stream_next (λ c. stream_in c fd) (λ c. fd < length c.streams) (event.Fd fd)
stream_kind fd inside = record {
  own = λ q r. eq-eqb fd fd refl;
  replies = λ c q. refl;
  asks = λ c q r here h. inside;
  goes = λ c q here. set_there c.streams fd (stream_next (stream_in c fd) q) here;
  stays = λ c q r here. subst (λ n. fd < n) (sym (streams_long c (event.Fd fd q r))) here;
}

gate_kind : (id : GateId) → IsKind (cell.Gate id) GateFits gate_reply gate_next (λ c. kept_in c id) (λ c. Unit {0}) (event.Gate id)
gate_kind id = record {
  own = λ q r. itself id;
  replies = λ c q. refl;
  asks = λ c q r here h. h;
  goes = λ c q here. kept_there c.gates id (gate_next (kept_in c id) q);
  stays = λ c q r here. tt;
}

-- ---- as a run begins

enough : (m n k : ℕ) → k < m → k < n + (m - n)
enough m n k less = omega (arith, less)

is_legal : (i : Image) (h : CellHistory) → IsLegalHistory i h → IsLegal i (cell_in h) (logged h)
is_legal i (history.Slots es) h = replays cell.Slots DirectoryFits directory_reply directory_next (λ c. c.places) (λ c. Unit {0}) event.Slots places_kind (opening_cells i) 0 es tt h
is_legal i (history.Slot s es) h =
    replays (cell.Slot s) SlotFits slot_reply slot_next (λ c. slot_in c s) (λ c. s < length c.slots) (event.Slot s) (slot_kind s h.0) (opening_cells i) 0 es
    (subst (λ n. s < n) (sym (opening_ready i).cells.slots) (enough most_slots (length i.tags) s h.0)) (subst (λ x. IsHistory SlotFits slot_reply slot_next x 0 es) (sym ((cells_open i).slots s)) h.1)
is_legal i (history.Fds es) h = replays cell.Fds DirectoryFits directory_reply directory_next (λ c. c.numbers) (λ c. Unit {0}) event.Fds numbers_kind (opening_cells i) 0 es tt h
is_legal i (history.Fd fd es) h =
    replays (cell.Fd fd) StreamFits stream_reply stream_next (λ c. stream_in c fd) (λ c. fd < length c.streams) (event.Fd fd) (stream_kind fd h.0) (opening_cells i) 0 es
    (subst (λ n. fd < n) (sym (opening_ready i).cells.streams) (enough most_fds (length i.fds) fd h.0)) (subst (λ x. IsHistory StreamFits stream_reply stream_next x 0 es) (sym ((cells_open i).streams fd)) h.1)
is_legal i (history.Lives es) h = replays cell.Lives (λ n q. Unit {0}) lives_reply lives_next (λ c. c.lives) (λ c. Unit {0}) event.Lives lives_kind (opening_cells i) 0 es tt h
is_legal i (history.Gate id es) h = replays (cell.Gate id) GateFits gate_reply gate_next (λ c. kept_in c id) (λ c. Unit {0}) (event.Gate id) (gate_kind id) (opening_cells i) 0 es tt h

-- cells of one name are one
pub cell_is : (x y : CellName) → same_cell x y ≡ true → x ≡ y
cell_is cell.Slots cell.Slots e = refl
cell_is (cell.Slot s) (cell.Slot t) e = ap (λ n. cell.Slot n) (eqb-true s t e)
cell_is cell.Fds cell.Fds e = refl
cell_is (cell.Fd m) (cell.Fd n) e = ap (λ k. cell.Fd k) (eqb-true m n e)
cell_is cell.Lives cell.Lives e = refl
cell_is (cell.Gate g) (cell.Gate h) e = ap (λ id. cell.Gate id) (same_id g h e)
cell_is x y e = absurd cc

pub kept_are_legal : KeptAreLegal
kept_are_legal i [] h name = tt
kept_are_legal i (k ∷ ks) h name = by_name (same_cell (cell_in k) name) refl (kept_are_legal i ks h.1 name)
  where
    by_name : (t : Bool) → same_cell (cell_in k) name ≡ t → IsLegal i name (history_of ks name) → IsLegal i name (entries_kept_in (if t then Some k else find (λ j. same_cell (cell_in j) name) ks))
    by_name true e others = subst (λ n. IsLegal i n (logged k)) (cell_is (cell_in k) name e) (is_legal i k h.0)
    by_name false e others = others
