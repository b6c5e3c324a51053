-- Bytes of tags and of streams by the history of a run, and who wrote them.
use Rattle.std.proofs.Common.{◌≡◌, ◌+◌, ℕ, ◌<◌, ◌==◌, Bool, true, false, true≢false, List, [], ◌∷◌, ◌++◌, length, refl, sym, ap, subst, ◌∙◌}
use Rattle.std.proofs.lemmas.Bool.{eqb-true}
use Rattle.std.specs.Prelude.{Option, Some, None, option_map, not, nat_lt, if◌then◌else◌}
use Rattle.wedge_base.specs.Bytes.{overwrite, bytes_of}
use Rattle.wedge_base.specs.Images.{Image}
use Rattle.wedge_base.specs.Rights.{at_least, append_bit}
use Rattle.wedge_base.specs.Sheets.{right_on, bits_on}
use Rattle.wedge_events.specs.Slots.{Segment, slot_reply as slot_reply_of, slot_after, new_segment, write_segment, with_placed_block, with_freed_block}
use Rattle.wedge_events.specs.Streams.{Stream, new_stream as stream_opened, stream_reply as stream_reply_of, stream_after, append_reply, with_bytes_read, with_more_bytes, closed_stream}
use Rattle.wedge_events.specs.Histories.{Flow, flow, bytes_by, bytes_after_event, bytes_after, flow_by, flow_after_event, flow_after}
use Rattle.wedge_base.specs.declared.rights.Right.TheVariants as right
use Rattle.wedge_base.specs.declared.rights.StreamKind.{StreamKind}
use Rattle.wedge_base.specs.declared.rights.StreamKind.TheVariants as kind
use Rattle.wedge_events.specs.declared.events.SlotWant.TheVariants as slot_want
use Rattle.wedge_events.specs.declared.events.Want.{Want}
use Rattle.wedge_events.specs.declared.events.Want.TheVariants as want
use Rattle.wedge_events.specs.declared.events.Event.{Event}
use Rattle.wedge_events.specs.declared.events.Event.TheVariants as event
use Rattle.wedge_events.specs.declared.events.Turn.{Turn}
use Rattle.wedge_events.specs.declared.cells.DirectoryAsk.TheVariants as directory_ask
use Rattle.wedge_events.specs.declared.cells.Live.{Live}
use Rattle.wedge_events.specs.declared.cells.LivesAsk.TheVariants as lives_ask
use Rattle.wedge_events.specs.declared.cells.SlotAsk.{SlotAsk}
use Rattle.wedge_events.specs.declared.cells.SlotAsk.TheVariants as slot_ask
use Rattle.wedge_events.specs.declared.cells.SlotReply.{SlotReply}
use Rattle.wedge_events.specs.declared.cells.SlotReply.TheVariants as slot_reply
use Rattle.wedge_events.specs.declared.cells.StreamAsk.{StreamAsk}
use Rattle.wedge_events.specs.declared.cells.StreamAsk.TheVariants as stream_ask
use Rattle.wedge_events.specs.declared.cells.StreamReply.TheVariants as reply
use Rattle.wedge_base.specs.declared.rights.FdBits.{FdBits}
use Rattle.machine.specs.Actors.{ActorState, right_of, bits_of}
use Rattle.machine.specs.Local.{rest, is_running}
use Rattle.machine.specs.Calls.{a0}
use Rattle.machine.specs.Take.{pair}
use Rattle.machine.specs.Cells.{Cells, held, slot_in, stream_in, cells_after}
use Rattle.machine.specs.Worlds.{WorldState, initial_state, turn_of, ready, resumed, at_rest, Runs}
use Rattle.run_laws.specs.Allowed.{may_use}
use Rattle.run_laws.specs.Moments.{EachTurn}
use Rattle.run_laws.specs.Written.{slot_bytes, BytesFollow, stores_in, TurnWritesOwn, flow_in, FlowsFollow, appends_to, TurnAppendsOwn}
use Rattle.run_laws.specs.Laws.{RunsWriteTheirOwn}
use Rattle.machine.proofs.Resting.{rests, rest-stays}
use Rattle.run_laws.proofs.Between.{event_for}
use Rattle.run_laws.proofs.Turns.{turn_from, ready_sheet, ready_made}
use Rattle.run_laws.proofs.Happening.{Happens, Requested, Joined, Snaps, GateSnaps, Started, Opens, Releases, Numbers, OpensFile, LastJoined, Ended, EntersGate, LeavesGate, EntersRecycled, LeavesRecycled}
use Rattle.run_laws.proofs.Settling.{AreCells, AllReady, turn_happens, turn_ready, opening_ready}
use Rattle.run_laws.proofs.Meeting.{IsRequest}
use Rattle.run_laws.proofs.StreamCalls.{read_cases, append_cases, close_cases, unopened_stays, IsStreamRequest}
use Rattle.run_laws.proofs.OneCell.{follows, follows_in}
use Rattle.run_laws.proofs.CellChanging.{turn_cells, cells_follow}

-- ---- what a reply makes of the bytes of a tag, and of a stream

abbrev bytes_of_tag : Option Segment → Option (List ℕ)
bytes_of_tag g = option_map (λ x. x.bytes) g

stored_bytes : (offset width value : ℕ) (g : Option Segment) → bytes_of_tag (option_map (write_segment offset width value) g) ≡ option_map (λ b. overwrite b offset (bytes_of width value)) (bytes_of_tag g)
stored_bytes offset width value None = refl
stored_bytes offset width value (Some g) = refl

-- a block that is placed or freed leaves the bytes
placed_bytes : (offset size : ℕ) (g : Option Segment) → bytes_of_tag (option_map (with_placed_block offset size) g) ≡ bytes_of_tag g
placed_bytes offset size None = refl
placed_bytes offset size (Some g) = refl

freed_bytes : (offset : ℕ) (g : Option Segment) → bytes_of_tag (option_map (with_freed_block offset) g) ≡ bytes_of_tag g
freed_bytes offset None = refl
freed_bytes offset (Some g) = refl

tag_shows : (g : Option Segment) (q : SlotAsk) (r : SlotReply) → bytes_of_tag (slot_after g q r) ≡ bytes_by (bytes_of_tag g) q r
tag_shows g (slot_ask.Open tag pages) r = refl
tag_shows g (slot_ask.Close tag) slot_reply.Closed = refl
tag_shows g (slot_ask.Close tag) r = refl
tag_shows g (slot_ask.Load width offset live) r = refl
tag_shows g (slot_ask.Store width offset value live) slot_reply.Stored = stored_bytes offset width value g
tag_shows g (slot_ask.Store width offset value live) r = refl
tag_shows g (slot_ask.Smalloc tag size) (slot_reply.Placed offset) = placed_bytes offset size g
tag_shows g (slot_ask.Smalloc tag size) r = refl
tag_shows g (slot_ask.Sfree offset live) slot_reply.Freed = freed_bytes offset g
tag_shows g (slot_ask.Sfree offset live) r = refl
tag_shows g (slot_ask.Snap tag) r = refl

abbrev flow_of : Option Stream → Option Flow
flow_of s = option_map (λ x. flow x.bytes x.position) s

grown_flow : (bytes : List ℕ) (s : Option Stream) → flow_of (option_map (with_more_bytes bytes) s) ≡ option_map (λ g. flow (g.bytes ++ bytes) g.taken) (flow_of s)
grown_flow bytes None = refl
grown_flow bytes (Some s) = refl

moved_flow : (count : ℕ) (s : Option Stream) → flow_of (option_map (with_bytes_read count) s) ≡ option_map (λ g. flow g.bytes (g.taken + count)) (flow_of s)
moved_flow count None = refl
moved_flow count (Some s) = refl

closed_flow : (s : Option Stream) → flow_of (option_map closed_stream s) ≡ flow_of s
closed_flow None = refl
closed_flow (Some s) = refl

stream_shows : (b : ActorState) (fd : ℕ) (q : StreamAsk) (s : Option Stream) → IsStreamRequest b fd q → flow_of (stream_after s q (stream_reply_of s q)) ≡ flow_by (flow_of s) q (stream_reply_of s q)
stream_shows b fd (stream_ask.Open k bytes) s own = absurd own
stream_shows b fd (stream_ask.Read bits count) s own =
    read_cases (λ r. flow_of (stream_after s (stream_ask.Read bits count) r) ≡ flow_by (flow_of s) (stream_ask.Read bits count) r) s bits count refl refl refl (λ x e. moved_flow _ s)
stream_shows b fd (stream_ask.Append bits bytes) s own =
    append_cases (λ r. flow_of (stream_after s (stream_ask.Append bits bytes) r) ≡ flow_by (flow_of s) (stream_ask.Append bits bytes) r) s bits bytes refl refl refl (grown_flow bytes s)
stream_shows b fd (stream_ask.Close bits) s own =
    close_cases (λ r. flow_of (stream_after s (stream_ask.Close bits) r) ≡ flow_by (flow_of s) (stream_ask.Close bits) r) s bits refl (λ k. refl) (closed_flow s)

-- ---- what an event that an actor comes to makes of each tag and of each stream

record IsFollowed (c : Cells) (e : Event) : Type 0 where
  tags : (slot : ℕ) → slot_bytes (cells_after c e) slot ≡ bytes_after_event slot (slot_bytes c slot) e
  streams : (fd : ℕ) → flow_in (cells_after c e) fd ≡ flow_after_event fd (flow_in c fd) e

-- what is asked of a slot in which no tag lives leaves it so, but for an opening
abbrev IsNoOpening : SlotAsk → Type 0
IsNoOpening (slot_ask.Open tag pages) = ⊥
IsNoOpening q = Unit {0}

empty_stays : (q : SlotAsk) → IsNoOpening q → slot_after None q (slot_reply_of None q) ≡ None
empty_stays (slot_ask.Open tag pages) k = absurd k
empty_stays (slot_ask.Close tag) k = refl
empty_stays (slot_ask.Load width offset live) k = refl
empty_stays (slot_ask.Store width offset value live) k = refl
empty_stays (slot_ask.Smalloc tag size) k = refl
empty_stays (slot_ask.Sfree offset live) k = refl
empty_stays (slot_ask.Snap tag) k = refl

slot_stays : (g : Option Segment) (q : SlotAsk) → IsNoOpening q → g ≡ None → slot_after g q (slot_reply_of g q) ≡ None
slot_stays g q k e = subst (λ x. slot_after x q (slot_reply_of x q) ≡ None) (sym e) (empty_stays q k)

slot_follows : (c : Cells) (s : ℕ) (q : SlotAsk) → IsNoOpening q → IsFollowed c (event.Slot s q (slot_reply_of (slot_in c s) q))
slot_follows c s q k =
    let r = slot_reply_of (slot_in c s) q in
    record {
      tags = λ slot. follows bytes_of_tag (λ x. bytes_by x q r) c.slots s slot (slot_in c s) (slot_after (slot_in c s) q r) _ refl refl (slot_stays (slot_in c s) q k) (tag_shows (slot_in c s) q r);
      streams = λ fd. refl;
    }

open_follows : (c : Cells) (s tag pages : ℕ) → s < length c.slots → IsFollowed c (event.Slot s (slot_ask.Open tag pages) slot_reply.Opened)
open_follows c s tag pages inside = record {
  tags = λ slot. follows_in bytes_of_tag (λ x. bytes_by x (slot_ask.Open tag pages) slot_reply.Opened) c.slots s slot (Some (new_segment tag pages)) _ inside refl refl;
  streams = λ fd. refl;
}

file_follows : (c : Cells) (fd : ℕ) (k : StreamKind) (bytes : List ℕ) → fd < length c.streams → IsFollowed c (event.Fd fd (stream_ask.Open k bytes) reply.Opened)
file_follows c fd k bytes inside = record {
  tags = λ slot. refl;
  streams = λ n. follows_in flow_of (λ x. flow_by x (stream_ask.Open k bytes) reply.Opened) c.streams fd n (Some (stream_opened k bytes)) _ inside refl refl;
}

want_follows : (N : ℕ → Type 0) (c : Cells) (b : ActorState) (q : Want) → IsRequest N b q → IsFollowed c (event_for c b q)
want_follows N c b (want.Slots directory_ask.Claim) own = record { tags = λ slot. refl; streams = λ fd. refl }
want_follows N c b (want.Slot s (slot_want.Close tag)) own = slot_follows c s _ tt
want_follows N c b (want.Slot s (slot_want.Load offset width)) own = slot_follows c s _ tt
want_follows N c b (want.Slot s (slot_want.Store offset width value)) own = slot_follows c s _ tt
want_follows N c b (want.Slot s (slot_want.Smalloc tag size)) own = slot_follows c s _ tt
want_follows N c b (want.Slot s (slot_want.Sfree offset)) own = slot_follows c s _ tt
want_follows N c b (want.Fd fd q) own =
    let r = stream_reply_of (stream_in c fd) q in
    record {
      tags = λ slot. refl;
      streams = λ n. follows flow_of (λ x. flow_by x q r) c.streams fd n (stream_in c fd) (stream_after (stream_in c fd) q r) _ refl refl (unopened_stays b fd q (stream_in c fd) own) (stream_shows b fd q (stream_in c fd) own);
    }
want_follows N c b (want.Lives lives_ask.Claim) own = record { tags = λ slot. refl; streams = λ fd. refl }
want_follows N c b q own = absurd own

event_follows : (w : WorldState) (b : ActorState) (e : Event) → AreCells w.image w.cells → Happens w b e → IsFollowed w.cells e
event_follows w b e cells (Requested r) = subst (IsFollowed w.cells) (sym r.is) (want_follows _ w.cells b r.want r.own)
event_follows w b e cells (Joined j) = subst (IsFollowed w.cells) (sym j.join.is) (record { tags = λ slot. refl; streams = λ fd. refl })
event_follows w b e cells (Snaps s) = subst (IsFollowed w.cells) (sym s.is) (slot_follows w.cells s.grant.slot (slot_ask.Snap s.grant.tag) tt)
event_follows w b e cells (GateSnaps s) = subst (IsFollowed w.cells) (sym s.is) (slot_follows w.cells s.grant.slot (slot_ask.Snap s.grant.tag) tt)
event_follows w b e cells (Started s) = subst (IsFollowed w.cells) (sym s.is) (record { tags = λ slot. refl; streams = λ fd. refl })
event_follows w b e cells (Opens o) = subst (IsFollowed w.cells) (sym o.is) (open_follows w.cells o.slot o.tag (a0 b) (subst (λ n. o.slot < n) (sym cells.slots) o.inside))
event_follows w b e cells (Releases r) = subst (IsFollowed w.cells) (sym r.is) (record { tags = λ slot. refl; streams = λ fd. refl })
event_follows w b e cells (Numbers n) = subst (IsFollowed w.cells) (sym n.is) (record { tags = λ slot. refl; streams = λ fd. refl })
event_follows w b e cells (OpensFile f) = subst (IsFollowed w.cells) (sym f.is) (file_follows w.cells f.fd f.opening.kind f.opening.bytes (subst (λ n. f.fd < n) (sym cells.streams) f.inside))
event_follows w b e cells (LastJoined j) = subst (IsFollowed w.cells) (sym j.join.is) (record { tags = λ slot. refl; streams = λ fd. refl })
event_follows w b e cells (Ended f) = subst (IsFollowed w.cells) (sym f.is) (record { tags = λ slot. refl; streams = λ fd. refl })
event_follows w b e cells (EntersGate x) = subst (IsFollowed w.cells) (sym x.is) (record { tags = λ slot. refl; streams = λ fd. refl })
event_follows w b e cells (EntersRecycled x) = subst (IsFollowed w.cells) (sym x.is) (record { tags = λ slot. refl; streams = λ fd. refl })
event_follows w b e cells (LeavesGate l) = subst (IsFollowed w.cells) (sym l.is) (record { tags = λ slot. refl; streams = λ fd. refl })
event_follows w b e cells (LeavesRecycled l) = subst (IsFollowed w.cells) (sym l.is) (record { tags = λ slot. refl; streams = λ fd. refl })

record TurnFollows (w : WorldState) (e : Event) (new : WorldState) : Type 0 where
  tags : (slot : ℕ) → slot_bytes new.cells slot ≡ bytes_after_event slot (slot_bytes w.cells slot) e
  streams : (fd : ℕ) → flow_in new.cells fd ≡ flow_after_event fd (flow_in w.cells fd) e

turn_follows : (w : WorldState) (t : Turn) (new : WorldState) → AllReady w → turn_of w t.actor ≡ Some (record { event = t.event; world = new }) → TurnFollows w t.event new
turn_follows w t new all e =
    let p = turn_from w t.actor t.event new e in
    let cells = turn_cells w t new e in
    let f = event_follows (resumed w p.actor) (rest w.image p.parts.actor) t.event all.cells (turn_happens w t.actor t.event new all p) in
    record {
      tags = λ slot. ap (λ (c : Cells). slot_bytes c slot) cells ∙ f.tags slot;
      streams = λ fd. ap (λ (c : Cells). flow_in c fd) cells ∙ f.streams fd;
    }

bytes_follow : (old : WorldState) (turns : List Turn) (new : WorldState) → AllReady old → Runs old turns new → BytesFollow old.cells turns new.cells
bytes_follow old [] new all run slot = ap (λ (w : WorldState). slot_bytes w.cells slot) run
bytes_follow old (t ∷ ts) new all run slot =
    bytes_follow run.0 ts new (turn_ready old t.actor t.event run.0 all run.1) run.2 slot ∙ ap (λ bytes. bytes_after slot bytes ts) ((turn_follows old t run.0 all run.1).tags slot)

flows_follow : (old : WorldState) (turns : List Turn) (new : WorldState) → AllReady old → Runs old turns new → FlowsFollow old.cells turns new.cells
flows_follow old [] new all run fd = ap (λ (w : WorldState). flow_in w.cells fd) run
flows_follow old (t ∷ ts) new all run fd =
    flows_follow run.0 ts new (turn_ready old t.actor t.event run.0 all run.1) run.2 fd ∙ ap (λ f. flow_after fd f ts) ((turn_follows old t run.0 all run.1).streams fd)

-- ---- who writes

-- a tag lives in a slot, and the actor may store to it
abbrev IsOwned : Cells → ActorState → ℕ → Type 0
IsOwned c b slot = (g : Segment) × (slot_in c slot ≡ Some g) × (may_use b g.tag right.ReadWrite ≡ true)

-- a store that took place was allowed
stored_by : (s slot offset width value : ℕ) (live : Option Live) (tag : ℕ) (within held : Bool)
    → stores_in slot (event.Slot s (slot_ask.Store width offset value live) (if not within then slot_reply.Unmapped else if held then slot_reply.Stored else slot_reply.Denied tag right.ReadWrite)) ≡ true
    → ((s == slot) ≡ true) × (held ≡ true)
stored_by s slot offset width value live tag false held e = absurd (true≢false (sym e))
stored_by s slot offset width value live tag true false e = absurd (true≢false (sym e))
stored_by s slot offset width value live tag true true e = (e, refl)

store_owned : (c : Cells) (b : ActorState) (s offset width value slot : ℕ) (o : Option Segment) → slot_in c s ≡ o
    → stores_in slot (event.Slot s (slot_ask.Store width offset value (pair b (option_map (λ g. g.tag) o))) (slot_reply_of o (slot_ask.Store width offset value (pair b (option_map (λ g. g.tag) o))))) ≡ true → IsOwned c b slot
store_owned c b s offset width value slot None there e = absurd (true≢false (sym e))
store_owned c b s offset width value slot (Some g) there e =
    let live = Some (record { tag = g.tag; right = right_of b g.tag }) in
    let both = stored_by s slot offset width value live g.tag (nat_lt offset (length g.bytes)) (at_least (right_of b g.tag) right.ReadWrite) e in
    (g, subst (λ n. slot_in c n ≡ Some g) (eqb-true s slot both.0) there, both.1)

-- an append that took place had its bit
appended_by : (n fd : ℕ) (bits : FdBits) (bytes : List ℕ) (v t : Bool) (k : StreamKind)
    → appends_to fd (event.Fd n (stream_ask.Append bits bytes) (if v then (if t then append_reply k else reply.Denied append_bit) else reply.NoSuch)) ≡ true → ((n == fd) ≡ true) × (t ≡ true)
appended_by n fd bits bytes false t k e = absurd (true≢false (sym e))
appended_by n fd bits bytes true false k e = absurd (true≢false (sym e))
appended_by n fd bits bytes true true kind.Append e = (e, refl)
appended_by n fd bits bytes true true kind.Source e = absurd (true≢false (sym e))

append_owned : (b : ActorState) (n fd : ℕ) (bits : FdBits) (bytes : List ℕ) (s : Option Stream) → bits ≡ bits_of b n
    → appends_to fd (event.Fd n (stream_ask.Append bits bytes) (stream_reply_of s (stream_ask.Append bits bytes))) ≡ true → (bits_of b fd).append ≡ true
append_owned b n fd bits bytes None own e = absurd (true≢false (sym e))
append_owned b n fd bits bytes (Some s) own e =
    let both = appended_by n fd bits bytes s.live bits.append s.kind e in
    subst (λ m. (bits_of b m).append ≡ true) (eqb-true n fd both.0) (subst (λ x. x.append ≡ true) own both.1)

stream_owned : (b : ActorState) (n fd : ℕ) (q : StreamAsk) (s : Option Stream) → IsStreamRequest b n q → appends_to fd (event.Fd n q (stream_reply_of s q)) ≡ true → (bits_of b fd).append ≡ true
stream_owned b n fd (stream_ask.Open k bytes) s own e = absurd own
stream_owned b n fd (stream_ask.Read bits count) s own e = absurd (true≢false (sym e))
stream_owned b n fd (stream_ask.Append bits bytes) s own e = append_owned b n fd bits bytes s own.0 e
stream_owned b n fd (stream_ask.Close bits) s own e = absurd (true≢false (sym e))

record IsOwn (c : Cells) (b : ActorState) (e : Event) : Type 0 where
  stores : (slot : ℕ) → stores_in slot e ≡ true → IsOwned c b slot
  appends : (fd : ℕ) → appends_to fd e ≡ true → (bits_of b fd).append ≡ true

want_own : (N : ℕ → Type 0) (c : Cells) (b : ActorState) (q : Want) → IsRequest N b q → IsOwn c b (event_for c b q)
want_own N c b (want.Slots directory_ask.Claim) own = record { stores = λ slot e. absurd (true≢false (sym e)); appends = λ fd e. absurd (true≢false (sym e)) }
want_own N c b (want.Slot s (slot_want.Close tag)) own = record { stores = λ slot e. absurd (true≢false (sym e)); appends = λ fd e. absurd (true≢false (sym e)) }
want_own N c b (want.Slot s (slot_want.Smalloc tag size)) own = record { stores = λ slot e. absurd (true≢false (sym e)); appends = λ fd e. absurd (true≢false (sym e)) }
want_own N c b (want.Slot s (slot_want.Sfree offset)) own = record { stores = λ slot e. absurd (true≢false (sym e)); appends = λ fd e. absurd (true≢false (sym e)) }
want_own N c b (want.Slot s (slot_want.Load offset width)) own = record { stores = λ slot e. absurd (true≢false (sym e)); appends = λ fd e. absurd (true≢false (sym e)) }
want_own N c b (want.Slot s (slot_want.Store offset width value)) own = record { stores = λ slot e. store_owned c b s offset width value slot (slot_in c s) refl e; appends = λ fd e. absurd (true≢false (sym e)) }
want_own N c b (want.Fd n q) own = record { stores = λ slot e. absurd (true≢false (sym e)); appends = λ fd e. stream_owned b n fd q (stream_in c n) own e }
want_own N c b (want.Lives lives_ask.Claim) own = record { stores = λ slot e. absurd (true≢false (sym e)); appends = λ fd e. absurd (true≢false (sym e)) }
want_own N c b q own = absurd own

event_own : (w : WorldState) (b : ActorState) (e : Event) → Happens w b e → IsOwn w.cells b e
event_own w b e (Requested r) = subst (IsOwn w.cells b) (sym r.is) (want_own _ w.cells b r.want r.own)
event_own w b e (Joined j) = subst (IsOwn w.cells b) (sym j.join.is) (record { stores = λ slot h. absurd (true≢false (sym h)); appends = λ fd h. absurd (true≢false (sym h)) })
event_own w b e (Snaps s) = subst (IsOwn w.cells b) (sym s.is) (record { stores = λ slot h. absurd (true≢false (sym h)); appends = λ fd h. absurd (true≢false (sym h)) })
event_own w b e (GateSnaps s) = subst (IsOwn w.cells b) (sym s.is) (record { stores = λ slot h. absurd (true≢false (sym h)); appends = λ fd h. absurd (true≢false (sym h)) })
event_own w b e (Started s) = subst (IsOwn w.cells b) (sym s.is) (record { stores = λ slot h. absurd (true≢false (sym h)); appends = λ fd h. absurd (true≢false (sym h)) })
event_own w b e (Opens o) = subst (IsOwn w.cells b) (sym o.is) (record { stores = λ slot h. absurd (true≢false (sym h)); appends = λ fd h. absurd (true≢false (sym h)) })
event_own w b e (Releases r) = subst (IsOwn w.cells b) (sym r.is) (record { stores = λ slot h. absurd (true≢false (sym h)); appends = λ fd h. absurd (true≢false (sym h)) })
event_own w b e (Numbers n) = subst (IsOwn w.cells b) (sym n.is) (record { stores = λ slot h. absurd (true≢false (sym h)); appends = λ fd h. absurd (true≢false (sym h)) })
event_own w b e (OpensFile f) = subst (IsOwn w.cells b) (sym f.is) (record { stores = λ slot h. absurd (true≢false (sym h)); appends = λ fd h. absurd (true≢false (sym h)) })
event_own w b e (LastJoined j) = subst (IsOwn w.cells b) (sym j.join.is) (record { stores = λ slot h. absurd (true≢false (sym h)); appends = λ fd h. absurd (true≢false (sym h)) })
event_own w b e (Ended f) = subst (IsOwn w.cells b) (sym f.is) (record { stores = λ slot h. absurd (true≢false (sym h)); appends = λ fd h. absurd (true≢false (sym h)) })
event_own w b e (EntersGate x) = subst (IsOwn w.cells b) (sym x.is) (record { stores = λ slot h. absurd (true≢false (sym h)); appends = λ fd h. absurd (true≢false (sym h)) })
event_own w b e (EntersRecycled x) = subst (IsOwn w.cells b) (sym x.is) (record { stores = λ slot h. absurd (true≢false (sym h)); appends = λ fd h. absurd (true≢false (sym h)) })
event_own w b e (LeavesGate l) = subst (IsOwn w.cells b) (sym l.is) (record { stores = λ slot h. absurd (true≢false (sym h)); appends = λ fd h. absurd (true≢false (sym h)) })
event_own w b e (LeavesRecycled l) = subst (IsOwn w.cells b) (sym l.is) (record { stores = λ slot h. absurd (true≢false (sym h)); appends = λ fd h. absurd (true≢false (sym h)) })

-- an actor keeps its rights up to where it rests
pub record SameRights (a b : ActorState) : Type 0 where
  pub rights : (tag : ℕ) → right_of b tag ≡ right_of a tag
  pub bits : (fd : ℕ) → bits_of b fd ≡ bits_of a fd

pub rest_rights : (i : Image) (a : ActorState) (t : Bool) → is_running a.phase ≡ t → SameRights a (rest i a)
rest_rights i a true e =
    let r = rests i a e in
    record {
      rights = λ tag. ap (λ s. right_on s (rest i a).made tag) r.sheet ∙ ap (λ m. right_on a.sheet m tag) r.made;
      bits = λ fd. ap (λ s. bits_on s (rest i a).made fd) r.sheet ∙ ap (λ m. bits_on a.sheet m fd) r.made;
    }
rest_rights i a false e = subst (SameRights a) (sym (rest-stays i a e)) (record { rights = λ tag. refl; bits = λ fd. refl })

-- so it does as it goes on, and rests then
pub ready_rights : (actors : List ActorState) (a : ActorState) → SameRights a (ready actors a)
ready_rights actors a = record {
  rights = λ tag. ap (λ s. right_on s (ready actors a).made tag) (ready_sheet actors a) ∙ ap (λ m. right_on a.sheet m tag) (ready_made actors a);
  bits = λ fd. ap (λ s. bits_on s (ready actors a).made fd) (ready_sheet actors a) ∙ ap (λ m. bits_on a.sheet m fd) (ready_made actors a);
}

pub at_rest_rights : (w : WorldState) (a : ActorState) → SameRights a (at_rest w a)
at_rest_rights w a =
    let first = ready_rights w.actors a in
    let second = rest_rights w.image (ready w.actors a) _ refl in
    record { rights = λ tag. second.rights tag ∙ first.rights tag; bits = λ fd. second.bits fd ∙ first.bits fd }

-- whoever stores into a slot in a step may store to the tag that lives there, and whoever appends may append
record TurnOwns (w : WorldState) (t : Turn) (new : WorldState) : Type 0 where
  stores : TurnWritesOwn w t new
  appends : TurnAppendsOwn w t new

turn_owns : (w : WorldState) (t : Turn) (new : WorldState) → AllReady w → turn_of w t.actor ≡ Some (record { event = t.event; world = new }) → TurnOwns w t new
turn_owns w t new all e =
    let p = turn_from w t.actor t.event new e in
    let own = event_own (resumed w p.actor) (rest w.image p.parts.actor) t.event (turn_happens w t.actor t.event new all p) in
    let same : SameRights p.actor (rest w.image p.parts.actor) = subst (λ (x : ActorState). SameRights p.actor (rest w.image x)) (sym p.is) (at_rest_rights w p.actor) in
    record {
      stores = λ slot stored.
          let o = own.stores slot stored in
          (o.0, o.1, (p.actor, p.named, ap (λ r. at_least r right.ReadWrite) (sym (same.rights o.0.tag)) ∙ o.2));
      appends = λ fd appended.
          let o = own.appends fd appended in
          (p.actor, p.named, ap (λ x. x.append) (sym (same.bits fd)) ∙ o);
    }

pub turn_writes_own : (w : WorldState) (t : Turn) (new : WorldState) → AllReady w → turn_of w t.actor ≡ Some (record { event = t.event; world = new }) → TurnWritesOwn w t new
turn_writes_own w t new all e = (turn_owns w t new all e).stores

pub turn_appends_own : (w : WorldState) (t : Turn) (new : WorldState) → AllReady w → turn_of w t.actor ≡ Some (record { event = t.event; world = new }) → TurnAppendsOwn w t new
turn_appends_own w t new all e = (turn_owns w t new all e).appends

each_writes_own : (old : WorldState) (turns : List Turn) (new : WorldState) → AllReady old → Runs old turns new → EachTurn TurnWritesOwn old turns
each_writes_own old [] new all run = tt
each_writes_own old (t ∷ ts) new all run = (run.0, run.1, turn_writes_own old t run.0 all run.1, each_writes_own run.0 ts new (turn_ready old t.actor t.event run.0 all run.1) run.2)

each_appends_own : (old : WorldState) (turns : List Turn) (new : WorldState) → AllReady old → Runs old turns new → EachTurn TurnAppendsOwn old turns
each_appends_own old [] new all run = tt
each_appends_own old (t ∷ ts) new all run = (run.0, run.1, turn_appends_own old t run.0 all run.1, each_appends_own run.0 ts new (turn_ready old t.actor t.event run.0 all run.1) run.2)

pub runs_write_their_own : RunsWriteTheirOwn
runs_write_their_own i turns new run = record {
  follow = bytes_follow (initial_state i) turns new (opening_ready i) run;
  writers = each_writes_own (initial_state i) turns new (opening_ready i) run;
  flows = flows_follow (initial_state i) turns new (opening_ready i) run;
  appenders = each_appends_own (initial_state i) turns new (opening_ready i) run;
  cells = cells_follow (initial_state i) turns new (opening_ready i) run;
}
