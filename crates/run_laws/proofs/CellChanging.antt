-- Whatever a cell holds beside its bytes is changed by its own events alone.
use Rattle.std.proofs.Common.{◌≡◌, Bool, true, false, true≢false, ℕ, ◌<◌, List, [], ◌∷◌, length, refl, sym, ap, subst, ◌∙◌}
use Rattle.std.specs.Prelude.{Option, Some, None, option_map, unwrap_or, find, if◌then◌else◌}
use Rattle.run_laws.proofs.KnownGates.{same_id}
use Rattle.wedge_events.specs.declared.cells.GateReply.{GateReply}
use Rattle.wedge_events.specs.declared.cells.GateAsk.{GateAsk}
use Rattle.wedge_events.specs.Gates.{Kept, gate_opening, gate_next}
use Rattle.wedge_base.specs.Identities.{same_gate}
use Rattle.wedge_events.specs.Slots.{Segment, slot_reply as slot_reply_of, slot_after, new_segment, write_segment, with_placed_block, with_freed_block}
use Rattle.wedge_events.specs.Streams.{Stream, new_stream as stream_opened, stream_reply as stream_reply_of, stream_after, with_bytes_read, with_more_bytes, closed_stream}
use Rattle.wedge_base.specs.declared.grants.GateId.{GateId}
use Rattle.wedge_events.specs.declared.events.SlotWant.TheVariants as slot_want
use Rattle.wedge_events.specs.declared.events.Want.{Want}
use Rattle.wedge_events.specs.declared.events.Want.TheVariants as want
use Rattle.wedge_events.specs.declared.events.Event.{Event}
use Rattle.wedge_events.specs.declared.events.Event.TheVariants as event
use Rattle.wedge_events.specs.declared.cells.DirectoryAsk.TheVariants as directory_ask
use Rattle.wedge_events.specs.declared.cells.SlotAsk.{SlotAsk}
use Rattle.wedge_events.specs.declared.events.Turn.{Turn}
use Rattle.wedge_events.specs.declared.cells.Live.{Live}
use Rattle.wedge_events.specs.declared.cells.LivesAsk.TheVariants as lives_ask
use Rattle.wedge_events.specs.declared.cells.SlotAsk.TheVariants as slot_ask
use Rattle.wedge_events.specs.declared.cells.SlotReply.{SlotReply}
use Rattle.wedge_events.specs.declared.cells.SlotReply.TheVariants as slot_reply
use Rattle.wedge_base.specs.declared.rights.StreamKind.{StreamKind}
use Rattle.wedge_events.specs.declared.cells.StreamReply.TheVariants as stream_reply
use Rattle.wedge_events.specs.declared.cells.StreamAsk.{StreamAsk}
use Rattle.wedge_events.specs.declared.cells.StreamAsk.TheVariants as stream_ask
use Rattle.machine.specs.Actors.{ActorState}
use Rattle.machine.specs.Local.{rest}
use Rattle.machine.specs.Calls.{a0}
use Rattle.machine.specs.Take.{pair}
use Rattle.machine.specs.Cells.{Cells, GateCell, slot_in, stream_in, kept_in, kept_among, put_kept, cells_after}
use Rattle.machine.specs.Worlds.{WorldState, turn_of, resumed, Runs}
use Rattle.run_laws.specs.CellHistories.{after_turns, Occupant, occupant, occupant_in, occupant_by, occupant_after_event, StreamMode, mode, mode_in, mode_by, mode_after_event, places_after_event, numbers_after_event, lives_after_event, kept_after_event, CellsFollow}
use Rattle.run_laws.proofs.Between.{event_for}
use Rattle.run_laws.proofs.Turns.{turn_from}
use Rattle.run_laws.proofs.Happening.{Happens, Requested, Joined, Snaps, GateSnaps, Started, Opens, Releases, Numbers, OpensFile, LastJoined, Ended, EntersGate, LeavesGate, EntersRecycled, LeavesRecycled}
use Rattle.run_laws.proofs.Settling.{AreCells, AllReady, turn_happens, turn_ready}
use Rattle.run_laws.proofs.Meeting.{IsRequest}
use Rattle.run_laws.proofs.StreamCalls.{read_cases, append_cases, close_cases, unopened_stays, IsStreamRequest}
use Rattle.run_laws.proofs.OneCell.{follows, follows_in}

-- what an event makes of everything that the cells hold beside bytes
pub record IsChanged (old : Cells) (e : Event) (new : Cells) : Type 0 where
  pub occupants : (slot : ℕ) → occupant_in new slot ≡ occupant_after_event slot (occupant_in old slot) e
  pub modes : (fd : ℕ) → mode_in new fd ≡ mode_after_event fd (mode_in old fd) e
  pub places : new.places ≡ places_after_event old.places e
  pub numbers : new.numbers ≡ numbers_after_event old.numbers e
  pub lives : new.lives ≡ lives_after_event old.lives e
  pub gates : (id : GateId) → kept_in new id ≡ kept_after_event id (kept_in old id) e

-- ---- what lives in a slot, and what a stream is

abbrev occupant_of : Option Segment → Option Occupant
occupant_of g = option_map (λ x. occupant x.tag x.blocks) g

abbrev mode_of : Option Stream → Option StreamMode
mode_of s = option_map (λ x. mode x.kind x.live) s

stored_occupant : (offset width value : ℕ) (g : Option Segment) → occupant_of (option_map (write_segment offset width value) g) ≡ occupant_of g
stored_occupant offset width value None = refl
stored_occupant offset width value (Some g) = refl

store_shows : (offset width value : ℕ) (live : Option Live) (g : Option Segment) (r : SlotReply) → occupant_of (slot_after g (slot_ask.Store width offset value live) r) ≡ occupant_of g
store_shows offset width value live g slot_reply.Stored = stored_occupant offset width value g
store_shows offset width value live g r = refl

store_stays : (offset width value : ℕ) (live : Option Live) (g : Option Segment) (r : SlotReply) → g ≡ None → slot_after g (slot_ask.Store width offset value live) r ≡ None
store_stays offset width value live g slot_reply.Stored e = ap (option_map (write_segment offset width value)) e
store_stays offset width value live g r e = e

-- a close, a block that is placed, and one that is freed
close_shows : (tag : ℕ) (g : Option Segment) (r : SlotReply) → occupant_of (slot_after g (slot_ask.Close tag) r) ≡ occupant_by (occupant_of g) (slot_ask.Close tag) r
close_shows tag g slot_reply.Closed = refl
close_shows tag g r = refl

close_stays : (tag : ℕ) (g : Option Segment) (r : SlotReply) → g ≡ None → slot_after g (slot_ask.Close tag) r ≡ None
close_stays tag g slot_reply.Closed e = refl
close_stays tag g r e = e

placed_occupant : (tag size offset : ℕ) (g : Option Segment) → occupant_of (option_map (with_placed_block offset size) g) ≡ occupant_by (occupant_of g) (slot_ask.Smalloc tag size) (slot_reply.Placed offset)
placed_occupant tag size offset None = refl
placed_occupant tag size offset (Some g) = refl

place_shows : (tag size : ℕ) (g : Option Segment) (r : SlotReply) → occupant_of (slot_after g (slot_ask.Smalloc tag size) r) ≡ occupant_by (occupant_of g) (slot_ask.Smalloc tag size) r
place_shows tag size g (slot_reply.Placed offset) = placed_occupant tag size offset g
place_shows tag size g r = refl

place_stays : (tag size : ℕ) (g : Option Segment) (r : SlotReply) → g ≡ None → slot_after g (slot_ask.Smalloc tag size) r ≡ None
place_stays tag size g (slot_reply.Placed offset) e = ap (option_map (with_placed_block offset size)) e
place_stays tag size g r e = e

freed_occupant : (offset : ℕ) (live : Option Live) (g : Option Segment) → occupant_of (option_map (with_freed_block offset) g) ≡ occupant_by (occupant_of g) (slot_ask.Sfree offset live) slot_reply.Freed
freed_occupant offset live None = refl
freed_occupant offset live (Some g) = refl

free_shows : (offset : ℕ) (live : Option Live) (g : Option Segment) (r : SlotReply) → occupant_of (slot_after g (slot_ask.Sfree offset live) r) ≡ occupant_by (occupant_of g) (slot_ask.Sfree offset live) r
free_shows offset live g slot_reply.Freed = freed_occupant offset live g
free_shows offset live g r = refl

free_stays : (offset : ℕ) (live : Option Live) (g : Option Segment) (r : SlotReply) → g ≡ None → slot_after g (slot_ask.Sfree offset live) r ≡ None
free_stays offset live g slot_reply.Freed e = ap (option_map (with_freed_block offset)) e
free_stays offset live g r e = e

-- a read, an append and a close
moved_mode : (count : ℕ) (s : Option Stream) → mode_of (option_map (with_bytes_read count) s) ≡ mode_of s
moved_mode count None = refl
moved_mode count (Some s) = refl

grown_mode : (bytes : List ℕ) (s : Option Stream) → mode_of (option_map (with_more_bytes bytes) s) ≡ mode_of s
grown_mode bytes None = refl
grown_mode bytes (Some s) = refl

closed_mode : (s : Option Stream) → mode_of (option_map closed_stream s) ≡ option_map (λ x. mode x.kind false) (mode_of s)
closed_mode None = refl
closed_mode (Some s) = refl

stream_shows : (b : ActorState) (fd : ℕ) (q : StreamAsk) (s : Option Stream) → IsStreamRequest b fd q → mode_of (stream_after s q (stream_reply_of s q)) ≡ mode_by (mode_of s) q (stream_reply_of s q)
stream_shows b fd (stream_ask.Open k bytes) s own = absurd own
stream_shows b fd (stream_ask.Read bits count) s own =
    read_cases (λ r. mode_of (stream_after s (stream_ask.Read bits count) r) ≡ mode_by (mode_of s) (stream_ask.Read bits count) r) s bits count refl refl refl (λ x e. moved_mode _ s)
stream_shows b fd (stream_ask.Append bits bytes) s own =
    append_cases (λ r. mode_of (stream_after s (stream_ask.Append bits bytes) r) ≡ mode_by (mode_of s) (stream_ask.Append bits bytes) r) s bits bytes refl refl refl (grown_mode bytes s)
stream_shows b fd (stream_ask.Close bits) s own =
    close_cases (λ r. mode_of (stream_after s (stream_ask.Close bits) r) ≡ mode_by (mode_of s) (stream_ask.Close bits) r) s bits refl (λ k. refl) (closed_mode s)

-- ---- what an event that an actor comes to makes of them

-- an ask of a slot in which a tag need not live, and which lets none live there anew
slot_changes : (c : Cells) (s : ℕ) (q : SlotAsk) → (slot_in c s ≡ None → slot_after (slot_in c s) q (slot_reply_of (slot_in c s) q) ≡ None)
    → occupant_of (slot_after (slot_in c s) q (slot_reply_of (slot_in c s) q)) ≡ occupant_by (occupant_of (slot_in c s)) q (slot_reply_of (slot_in c s) q)
    → IsChanged c (event.Slot s q (slot_reply_of (slot_in c s) q)) (cells_after c (event.Slot s q (slot_reply_of (slot_in c s) q)))
slot_changes c s q stays shows = record {
  occupants = λ slot. follows occupant_of (λ x. occupant_by x q (slot_reply_of (slot_in c s) q)) c.slots s slot (slot_in c s) (slot_after (slot_in c s) q (slot_reply_of (slot_in c s) q)) _ refl refl stays shows;
  modes = λ fd. refl;
  places = refl;
  numbers = refl;
  lives = refl;
  gates = λ id. refl;
}

load_shows : (offset width : ℕ) (live : Option Live) (g : Option Segment) (r : SlotReply) → occupant_of (slot_after g (slot_ask.Load width offset live) r) ≡ occupant_by (occupant_of g) (slot_ask.Load width offset live) r
load_shows offset width live g r = refl

snap_shows : (tag : ℕ) (g : Option Segment) (r : SlotReply) → occupant_of (slot_after g (slot_ask.Snap tag) r) ≡ occupant_by (occupant_of g) (slot_ask.Snap tag) r
snap_shows tag g r = refl

store_shows_by : (offset width value : ℕ) (live : Option Live) (g : Option Segment) (r : SlotReply) → occupant_of (slot_after g (slot_ask.Store width offset value live) r) ≡ occupant_by (occupant_of g) (slot_ask.Store width offset value live) r
store_shows_by offset width value live g r = store_shows offset width value live g r

want_changes : (N : ℕ → Type 0) (c : Cells) (b : ActorState) (q : Want) → IsRequest N b q → IsChanged c (event_for c b q) (cells_after c (event_for c b q))
want_changes N c b (want.Slots directory_ask.Claim) own = record { occupants = λ slot. refl; modes = λ fd. refl; places = refl; numbers = refl; lives = refl; gates = λ id. refl }
want_changes N c b (want.Slot s (slot_want.Close tag)) own = slot_changes c s (slot_ask.Close tag) (close_stays tag (slot_in c s) _) (close_shows tag (slot_in c s) _)
want_changes N c b (want.Slot s (slot_want.Load offset width)) own =
    let live = pair b (option_map (λ g. g.tag) (slot_in c s)) in
    slot_changes c s (slot_ask.Load width offset live) (λ e. e) (load_shows offset width live (slot_in c s) (slot_reply_of (slot_in c s) (slot_ask.Load width offset live)))
want_changes N c b (want.Slot s (slot_want.Store offset width value)) own =
    let live = pair b (option_map (λ g. g.tag) (slot_in c s)) in
    slot_changes c s (slot_ask.Store width offset value live) (store_stays offset width value live (slot_in c s) _) (store_shows_by offset width value live (slot_in c s) _)
want_changes N c b (want.Slot s (slot_want.Smalloc tag size)) own = slot_changes c s (slot_ask.Smalloc tag size) (place_stays tag size (slot_in c s) _) (place_shows tag size (slot_in c s) _)
want_changes N c b (want.Slot s (slot_want.Sfree offset)) own =
    let live = pair b (option_map (λ g. g.tag) (slot_in c s)) in
    slot_changes c s (slot_ask.Sfree offset live) (free_stays offset live (slot_in c s) _) (free_shows offset live (slot_in c s) _)
want_changes N c b (want.Fd fd q) own =
    let r = stream_reply_of (stream_in c fd) q in
    record {
      occupants = λ slot. refl;
      modes = λ n. follows mode_of (λ x. mode_by x q r) c.streams fd n (stream_in c fd) (stream_after (stream_in c fd) q r) _ refl refl (unopened_stays b fd q (stream_in c fd) own) (stream_shows b fd q (stream_in c fd) own);
      places = refl;
      numbers = refl;
      lives = refl;
      gates = λ id. refl;
    }
want_changes N c b (want.Lives lives_ask.Claim) own = record { occupants = λ slot. refl; modes = λ fd. refl; places = refl; numbers = refl; lives = refl; gates = λ id. refl }
want_changes N c b q own = absurd own

-- a tag is opened in a slot that is there
open_changes : (c : Cells) (s tag pages : ℕ) → s < length c.slots → IsChanged c (event.Slot s (slot_ask.Open tag pages) slot_reply.Opened) (cells_after c (event.Slot s (slot_ask.Open tag pages) slot_reply.Opened))
open_changes c s tag pages inside = record {
  occupants = λ slot. follows_in occupant_of (λ x. Some (occupant tag [])) c.slots s slot (Some (new_segment tag pages)) _ inside refl refl;
  modes = λ fd. refl;
  places = refl;
  numbers = refl;
  lives = refl;
  gates = λ id. refl;
}

-- a stream is opened on a descriptor that is there
file_changes : (c : Cells) (fd : ℕ) (k : StreamKind) (bytes : List ℕ) → fd < length c.streams
    → IsChanged c (event.Fd fd (stream_ask.Open k bytes) stream_reply.Opened) (cells_after c (event.Fd fd (stream_ask.Open k bytes) stream_reply.Opened))
file_changes c fd k bytes inside = record {
  occupants = λ slot. refl;
  modes = λ n. follows_in mode_of (λ x. Some (mode k true)) c.streams fd n (Some (stream_opened k bytes)) _ inside refl refl;
  places = refl;
  numbers = refl;
  lives = refl;
  gates = λ id. refl;
}

-- a gate goes on by its own events alone
kept_put : (cs : List GateCell) (g id : GateId) (k : Kept) → kept_among (put_kept cs g k) id ≡ (if same_gate g id then k else kept_among cs id)
kept_put [] g id k = by_test (same_gate g id)
  where
    by_test : (t : Bool) → unwrap_or (option_map (λ (c : GateCell). c.kept) (if t then Some (record { id = g; kept = k }) else None)) gate_opening ≡ (if t then k else gate_opening)
    by_test true = refl
    by_test false = refl
kept_put (c ∷ cs) g id k = by_cell (same_gate c.id g) refl (kept_put cs g id k)
  where
    here : (t u v : Bool) (x y : Kept) → t ≡ u → unwrap_or (option_map (λ (c : GateCell). c.kept) (if t then Some (record { id = c.id; kept = x }) else find (λ d. same_gate d.id id) cs)) gate_opening
        ≡ (if u then x else kept_among cs id)
    here true true v x y e = refl
    here false false v x y e = refl
    here true false v x y e = absurd cc
    here false true v x y e = absurd cc

    skips : (t u : Bool) → (t ≡ true → u ≡ false) → (if t then c.kept else (if u then k else kept_among cs id)) ≡ (if u then k else (if t then c.kept else kept_among cs id))
    skips true true apart = absurd (true≢false (apart refl))
    skips true false apart = refl
    skips false u apart = refl

    first : (t : Bool) (d : GateCell) (o : Option GateCell) → unwrap_or (option_map (λ (c : GateCell). c.kept) (if t then Some d else o)) gate_opening ≡ (if t then d.kept else unwrap_or (option_map (λ (c : GateCell). c.kept) o) gate_opening)
    first true d o = refl
    first false d o = refl

    passed : (t u : Bool) (x : Kept) → t ≡ u → (if t then k else x) ≡ (if u then k else (if t then c.kept else x))
    passed true true x e = refl
    passed false false x e = refl
    passed true false x e = absurd cc
    passed false true x e = absurd cc

    others : same_gate c.id g ≡ false → same_gate c.id id ≡ true → same_gate g id ≡ false
    others apart is = by_test (same_gate g id) refl
      where
        by_test : (t : Bool) → same_gate g id ≡ t → t ≡ false
        by_test false e = refl
        by_test true e = absurd (true≢false (sym (subst (λ x. same_gate c.id x ≡ true) (sym (same_id g id e)) is) ∙ apart))

    by_cell : (t : Bool) → same_gate c.id g ≡ t → kept_among (put_kept cs g k) id ≡ (if same_gate g id then k else kept_among cs id) → kept_among (if t then record c { kept = k } ∷ cs else c ∷ put_kept cs g k) id ≡ (if same_gate g id then k else kept_among (c ∷ cs) id)
    by_cell true is then_ =
        first (same_gate c.id id) (record c { kept = k }) (find (λ d. same_gate d.id id) cs)
        ∙ (passed (same_gate c.id id) (same_gate g id) (kept_among cs id) (ap (λ x. same_gate x id) (same_id c.id g is))
        ∙ ap (λ x. if same_gate g id then k else x) (sym (first (same_gate c.id id) c (find (λ d. same_gate d.id id) cs))))
    by_cell false is then_ =
        first (same_gate c.id id) c (find (λ d. same_gate d.id id) (put_kept cs g k))
        ∙ (ap (λ x. if same_gate c.id id then c.kept else x) then_
        ∙ (skips (same_gate c.id id) (same_gate g id) (others is)
        ∙ ap (λ x. if same_gate g id then k else x) (sym (first (same_gate c.id id) c (find (λ d. same_gate d.id id) cs)))))

pub gate_changes : (c : Cells) (g : GateId) (q : GateAsk) (r : GateReply) → IsChanged c (event.Gate g q r) (cells_after c (event.Gate g q r))
gate_changes c g q r = record {
  occupants = λ slot. refl;
  modes = λ fd. refl;
  places = refl;
  numbers = refl;
  lives = refl;
  gates = λ id. kept_put c.gates g id (gate_next (kept_in c g) q) ∙ by_gate id (same_gate g id) refl;
}
  where
    by_gate : (id : GateId) (t : Bool) → same_gate g id ≡ t → (if t then gate_next (kept_in c g) q else kept_in c id) ≡ (if t then gate_next (kept_in c id) q else kept_in c id)
    by_gate id true is = ap (λ x. gate_next (kept_in c x) q) (same_id g id is)
    by_gate id false is = refl

pub event_changes : (w : WorldState) (b : ActorState) (e : Event) → AreCells w.image w.cells → Happens w b e → IsChanged w.cells e (cells_after w.cells e)
event_changes w b e cells (Requested r) = subst (λ y. IsChanged w.cells y (cells_after w.cells y)) (sym r.is) (want_changes _ w.cells b r.want r.own)
event_changes w b e cells (Joined j) =
    subst (λ y. IsChanged w.cells y (cells_after w.cells y)) (sym j.join.is) (record { occupants = λ slot. refl; modes = λ fd. refl; places = refl; numbers = refl; lives = refl; gates = λ id. refl })
event_changes w b e cells (Snaps s) =
    let ask = slot_ask.Snap s.grant.tag in
    let g = slot_in w.cells s.grant.slot in
    subst (λ y. IsChanged w.cells y (cells_after w.cells y)) (sym s.is)
    (slot_changes w.cells s.grant.slot ask (λ none. none) (snap_shows s.grant.tag g (slot_reply_of g ask)))
event_changes w b e cells (GateSnaps s) =
    let ask = slot_ask.Snap s.grant.tag in
    let g = slot_in w.cells s.grant.slot in
    subst (λ y. IsChanged w.cells y (cells_after w.cells y)) (sym s.is)
    (slot_changes w.cells s.grant.slot ask (λ none. none) (snap_shows s.grant.tag g (slot_reply_of g ask)))
event_changes w b e cells (Started s) =
    subst (λ y. IsChanged w.cells y (cells_after w.cells y)) (sym s.is) (record { occupants = λ slot. refl; modes = λ fd. refl; places = refl; numbers = refl; lives = refl; gates = λ id. refl })
event_changes w b e cells (Opens o) =
    subst (λ y. IsChanged w.cells y (cells_after w.cells y)) (sym o.is) (open_changes w.cells o.slot o.tag (a0 b) (subst (λ n. o.slot < n) (sym cells.slots) o.inside))
event_changes w b e cells (Releases r) =
    subst (λ y. IsChanged w.cells y (cells_after w.cells y)) (sym r.is) (record { occupants = λ slot. refl; modes = λ fd. refl; places = refl; numbers = refl; lives = refl; gates = λ id. refl })
event_changes w b e cells (Numbers n) =
    subst (λ y. IsChanged w.cells y (cells_after w.cells y)) (sym n.is) (record { occupants = λ slot. refl; modes = λ fd. refl; places = refl; numbers = refl; lives = refl; gates = λ id. refl })
event_changes w b e cells (OpensFile f) =
    subst (λ y. IsChanged w.cells y (cells_after w.cells y)) (sym f.is) (file_changes w.cells f.fd f.opening.kind f.opening.bytes (subst (λ n. f.fd < n) (sym cells.streams) f.inside))
event_changes w b e cells (LastJoined j) =
    subst (λ y. IsChanged w.cells y (cells_after w.cells y)) (sym j.join.is) (record { occupants = λ slot. refl; modes = λ fd. refl; places = refl; numbers = refl; lives = refl; gates = λ id. refl })
event_changes w b e cells (Ended f) =
    subst (λ y. IsChanged w.cells y (cells_after w.cells y)) (sym f.is) (record { occupants = λ slot. refl; modes = λ fd. refl; places = refl; numbers = refl; lives = refl; gates = λ id. refl })
event_changes w b e cells (EntersGate x) =
    subst (λ y. IsChanged w.cells y (cells_after w.cells y)) (sym x.is) (record { occupants = λ slot. refl; modes = λ fd. refl; places = refl; numbers = refl; lives = refl; gates = λ id. refl })
event_changes w b e cells (EntersRecycled x) = subst (λ y. IsChanged w.cells y (cells_after w.cells y)) (sym x.is) (gate_changes w.cells x.entrance.gate.id _ _)
event_changes w b e cells (LeavesRecycled l) = subst (λ y. IsChanged w.cells y (cells_after w.cells y)) (sym l.is) (gate_changes w.cells l.gate.id _ _)
event_changes w b e cells (LeavesGate l) =
    subst (λ y. IsChanged w.cells y (cells_after w.cells y)) (sym l.is) (record { occupants = λ slot. refl; modes = λ fd. refl; places = refl; numbers = refl; lives = refl; gates = λ id. refl })

-- a turn's event makes the cells
pub turn_cells : (w : WorldState) (t : Turn) (new : WorldState) → turn_of w t.actor ≡ Some (record { event = t.event; world = new }) → new.cells ≡ cells_after w.cells t.event
turn_cells w t new e = let p = turn_from w t.actor t.event new e in ap (λ (x : WorldState). x.cells) p.parts.new_is

pub turn_changes : (w : WorldState) (t : Turn) (new : WorldState) → AllReady w → turn_of w t.actor ≡ Some (record { event = t.event; world = new }) → IsChanged w.cells t.event new.cells
turn_changes w t new all e =
    let p = turn_from w t.actor t.event new e in
    let changed = event_changes (resumed w p.actor) (rest w.image p.parts.actor) t.event all.cells (turn_happens w t.actor t.event new all p) in
    subst (IsChanged w.cells t.event) (sym (turn_cells w t new e)) changed

-- what a run leaves of something, if each of its turns leaves what its event does
turns_leave : {X : Type 0} (by : X → Event → X) (view : Cells → X)
    → ((w : WorldState) (t : Turn) (new : WorldState) → AllReady w → turn_of w t.actor ≡ Some (record { event = t.event; world = new }) → view new.cells ≡ by (view w.cells) t.event)
    → (old : WorldState) (turns : List Turn) (new : WorldState) → AllReady old → Runs old turns new → view new.cells ≡ after_turns by (view old.cells) turns
turns_leave by view each old [] new all run = ap (λ (w : WorldState). view w.cells) run
turns_leave by view each old (t ∷ ts) new all run =
    turns_leave by view each run.0 ts new (turn_ready old t.actor t.event run.0 all run.1) run.2
    ∙ ap (λ x. after_turns by x ts) (each old t run.0 all run.1)

pub cells_follow : (old : WorldState) (turns : List Turn) (new : WorldState) → AllReady old → Runs old turns new → CellsFollow old.cells turns new.cells
cells_follow old turns new all run = record {
  occupants = λ slot. turns_leave (occupant_after_event slot) (λ c. occupant_in c slot) (λ w t x a e. (turn_changes w t x a e).occupants slot) old turns new all run;
  modes = λ fd. turns_leave (mode_after_event fd) (λ c. mode_in c fd) (λ w t x a e. (turn_changes w t x a e).modes fd) old turns new all run;
  places = turns_leave places_after_event (λ c. c.places) (λ w t x a e. (turn_changes w t x a e).places) old turns new all run;
  numbers = turns_leave numbers_after_event (λ c. c.numbers) (λ w t x a e. (turn_changes w t x a e).numbers) old turns new all run;
  lives = turns_leave lives_after_event (λ c. c.lives) (λ w t x a e. (turn_changes w t x a e).lives) old turns new all run;
  gates = λ id. turns_leave (kept_after_event id) (λ c. kept_in c id) (λ w t x a e. (turn_changes w t x a e).gates id) old turns new all run;
}
