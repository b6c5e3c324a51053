-- An event has a note exactly where it succeeded, and its actor may make that access.
use Rattle.std.proofs.Common.{◌≡◌, ℕ, Bool, true, false, List, length, refl, sym, ap, subst, ◌∙◌}
use Rattle.std.specs.Prelude.{Option, Some, None, not, option_map, nat_lt, if◌then◌else◌}
use Rattle.wedge_base.specs.Images.{Image}
use Rattle.wedge_base.specs.Rights.{at_least, read_bit, append_bit}
use Rattle.wedge_base.specs.declared.rights.FdBits.{FdBits}
use Rattle.wedge_base.specs.declared.rights.Right.TheVariants as right
use Rattle.wedge_base.specs.declared.rights.StreamKind.{StreamKind}
use Rattle.wedge_base.specs.declared.rights.StreamKind.TheVariants as stream_kind
use Rattle.wedge_events.specs.Slots.{Segment, slot_reply as slot_reply_of}
use Rattle.wedge_events.specs.Streams.{Stream, stream_reply as stream_reply_of, read_reply, append_reply}
use Rattle.wedge_base.specs.declared.grants.GateId.{GateId}
use Rattle.cow_pages.specs.PrivateMemory.{PrivateMemory}
use Rattle.wedge_events.specs.declared.cells.GateAsk.TheVariants as gate_ask
use Rattle.wedge_events.specs.declared.cells.GateReply.TheVariants as gate_reply
use Rattle.wedge_events.specs.declared.cells.SlotAsk.TheVariants as slot_ask
use Rattle.wedge_events.specs.declared.cells.SlotReply.TheVariants as slot_reply
use Rattle.wedge_events.specs.declared.cells.StreamAsk.{StreamAsk}
use Rattle.wedge_events.specs.declared.cells.StreamAsk.TheVariants as stream_ask
use Rattle.wedge_events.specs.declared.cells.StreamReply.TheVariants as stream_reply
use Rattle.wedge_events.specs.declared.events.Event.{Event}
use Rattle.wedge_events.specs.declared.events.Event.TheVariants as event
use Rattle.wedge_events.specs.declared.events.SlotWant.TheVariants as slot_want
use Rattle.wedge_events.specs.declared.events.Want.{Want}
use Rattle.wedge_events.specs.declared.events.Want.TheVariants as want
use Rattle.machine.specs.Actors.{ActorState, right_of, bits_of}
use Rattle.machine.specs.Cells.{Cells, slot_in, stream_in}
use Rattle.machine.specs.Entrance.{Entrance}
use Rattle.machine.specs.Take.{pair}
use Rattle.machine.specs.Worlds.{WorldState}
use Rattle.machine.specs.declared.phase.Phase.TheVariants as phase
use Rattle.run_laws.proofs.Between.{event_for}
use Rattle.run_laws.proofs.EnteringGates.{IsEnterable}
use Rattle.run_laws.proofs.Happening.{Happens, Requested, Joined, Snaps, GateSnaps, Started, Opens, Releases, Numbers, OpensFile, LastJoined, Ended, EntersGate, LeavesGate, EntersRecycled, LeavesRecycled}
use Rattle.run_laws.proofs.Meeting.{IsRequest, LoadsAt}
use Rattle.run_laws.proofs.StreamCalls.{IsStreamRequest}
use Rattle.run_notes.specs.Doers.{doer_of, entry_of}
use Rattle.run_notes.specs.Notes.{entry_note, event_note}
use Rattle.run_notes.specs.declared.chain.CallChain.{CallChain}
use Rattle.run_notes.specs.declared.items.Makings.{Makings}
use Rattle.run_log.specs.NoteLaws.{IsEventNote}
use Rattle.run_log.proofs.NotedItems.{tag_item_is, fd_item_is}

module _ (i : Image) (c : Cells) (m : Makings) (b : ActorState) (ch : CallChain) where
  -- the note of an event
  abbrev Noted : Event → Type 0
  Noted e = IsEventNote i c m b ch e (event_note i m (doer_of b) ch e)

  -- ---- loads and stores

  load_noted : (slot offset width : ℕ) (o : Option Segment) → slot_in c slot ≡ o
      → Noted (event.Slot slot (slot_ask.Load width offset (pair b (option_map (λ g. g.tag) o))) (slot_reply_of o (slot_ask.Load width offset (pair b (option_map (λ g. g.tag) o)))))
  load_noted slot offset width None there = record { exactly = refl; within = tt }
  load_noted slot offset width (Some g) there = by_tests _ (nat_lt offset (length g.bytes)) (at_least (right_of b g.tag) right.Read) refl
    where
      by_tests : (value : ℕ) (t u : Bool) → at_least (right_of b g.tag) right.Read ≡ u
          → Noted (event.Slot slot (slot_ask.Load width offset (pair b (Some g.tag))) (if not t then slot_reply.Unmapped else if u then slot_reply.Loaded value else slot_reply.Denied g.tag right.Read))
      by_tests value false u e = record { exactly = refl; within = tt }
      by_tests value true false e = record { exactly = refl; within = tt }
      by_tests value true true e = record {
        exactly = refl;
        within = (record { actor = refl; pc = refl; compartment = refl; chain = refl; kind = refl; mode = refl }, record { tag = g.tag; lives = ap (option_map (λ (x : Segment). x.tag)) there; permitted = e; item = tag_item_is i m g.tag });
      }

  store_noted : (slot offset width value : ℕ) (o : Option Segment) → slot_in c slot ≡ o
      → Noted (event.Slot slot (slot_ask.Store width offset value (pair b (option_map (λ g. g.tag) o))) (slot_reply_of o (slot_ask.Store width offset value (pair b (option_map (λ g. g.tag) o)))))
  store_noted slot offset width value None there = record { exactly = refl; within = tt }
  store_noted slot offset width value (Some g) there = by_tests (nat_lt offset (length g.bytes)) (at_least (right_of b g.tag) right.ReadWrite) refl
    where
      by_tests : (t u : Bool) → at_least (right_of b g.tag) right.ReadWrite ≡ u
          → Noted (event.Slot slot (slot_ask.Store width offset value (pair b (Some g.tag))) (if not t then slot_reply.Unmapped else if u then slot_reply.Stored else slot_reply.Denied g.tag right.ReadWrite))
      by_tests false u e = record { exactly = refl; within = tt }
      by_tests true false e = record { exactly = refl; within = tt }
      by_tests true true e = record {
        exactly = refl;
        within = (record { actor = refl; pc = refl; compartment = refl; chain = refl; kind = refl; mode = refl }, record { tag = g.tag; lives = ap (option_map (λ (x : Segment). x.tag)) there; permitted = e; item = tag_item_is i m g.tag });
      }

  -- ---- reads and appends

  read_noted : (fd : ℕ) (bits : FdBits) (count : ℕ) (s : Option Stream) → bits ≡ bits_of b fd → Noted (event.Fd fd (stream_ask.Read bits count) (stream_reply_of s (stream_ask.Read bits count)))
  read_noted fd bits count None own = record { exactly = refl; within = tt }
  read_noted fd bits count (Some x) own = by_tests x.live bits.read refl x.kind
    where
      by_tests : (v t : Bool) → bits.read ≡ t → (k : StreamKind) → Noted (event.Fd fd (stream_ask.Read bits count) (if v then (if t then read_reply k x count else stream_reply.Denied read_bit) else stream_reply.NoSuch))
      by_tests false t e k = record { exactly = refl; within = tt }
      by_tests true false e k = record { exactly = refl; within = tt }
      by_tests true true e stream_kind.Append = record { exactly = refl; within = tt }
      by_tests true true e stream_kind.Source = record {
        exactly = refl;
        within = (record { actor = refl; pc = refl; compartment = refl; chain = refl; kind = refl; mode = refl }, fd_item_is i m fd, sym (ap (λ (y : FdBits). y.read) own) ∙ e);
      }

  append_noted : (fd : ℕ) (bits : FdBits) (bytes : List ℕ) (s : Option Stream) → bits ≡ bits_of b fd → Noted (event.Fd fd (stream_ask.Append bits bytes) (stream_reply_of s (stream_ask.Append bits bytes)))
  append_noted fd bits bytes None own = record { exactly = refl; within = tt }
  append_noted fd bits bytes (Some x) own = by_tests x.live bits.append refl x.kind
    where
      by_tests : (v t : Bool) → bits.append ≡ t → (k : StreamKind) → Noted (event.Fd fd (stream_ask.Append bits bytes) (if v then (if t then append_reply k else stream_reply.Denied append_bit) else stream_reply.NoSuch))
      by_tests false t e k = record { exactly = refl; within = tt }
      by_tests true false e k = record { exactly = refl; within = tt }
      by_tests true true e stream_kind.Source = record { exactly = refl; within = tt }
      by_tests true true e stream_kind.Append = record {
        exactly = refl;
        within = (record { actor = refl; pc = refl; compartment = refl; chain = refl; kind = refl; mode = refl }, fd_item_is i m fd, sym (ap (λ (y : FdBits). y.append) own) ∙ e);
      }

  stream_noted : (fd : ℕ) (q : StreamAsk) → IsStreamRequest b fd q → Noted (event.Fd fd q (stream_reply_of (stream_in c fd) q))
  stream_noted fd (stream_ask.Open k bytes) own = absurd own
  stream_noted fd (stream_ask.Read bits count) own = read_noted fd bits count (stream_in c fd) own.0
  stream_noted fd (stream_ask.Append bits bytes) own = append_noted fd bits bytes (stream_in c fd) own.0
  stream_noted fd (stream_ask.Close bits) own = record { exactly = refl; within = tt }

  request_noted : (N : ℕ → Type 0) (q : Want) → IsRequest N b q → Noted (event_for c b q)
  request_noted N (want.Slots q) own = record { exactly = refl; within = tt }
  request_noted N (want.Slot slot (slot_want.Close tag)) own = record { exactly = refl; within = tt }
  request_noted N (want.Slot slot (slot_want.Smalloc tag size)) own = record { exactly = refl; within = tt }
  request_noted N (want.Slot slot (slot_want.Sfree offset)) own = record { exactly = refl; within = tt }
  request_noted N (want.Slot slot (slot_want.Load offset width)) own = load_noted slot offset width (slot_in c slot) refl
  request_noted N (want.Slot slot (slot_want.Store offset width value)) own = store_noted slot offset width value (slot_in c slot) refl
  request_noted N (want.Fd fd q) own = stream_noted fd q own
  request_noted N (want.Lives q) own = record { exactly = refl; within = tt }
  request_noted N q own = absurd own

  -- ---- entries of gates

  entered_noted : (x : Entrance) (run : List ℕ) → b.phase ≡ phase.Entering x → IsEnterable b x → Noted (event.Enter run)
  entered_noted x run at_ may =
      subst (λ p. IsEventNote i c m b ch (event.Enter run) (entry_note (doer_of b) ch (entry_of p))) (sym at_)
      (record { exactly = refl; within = record { of = record { actor = refl; pc = refl; compartment = refl; chain = refl; kind = refl; mode = refl }; gate = x.gate; held = may.held; item = refl } })

  recycled_noted : (x : Entrance) (id : GateId) (run : List ℕ) (first memory : PrivateMemory) → b.phase ≡ phase.Entering x → IsEnterable b x → Noted (event.Gate id (gate_ask.Enter run first) (gate_reply.Entered memory))
  recycled_noted x id run first memory at_ may =
      subst (λ p. IsEventNote i c m b ch (event.Gate id (gate_ask.Enter run first) (gate_reply.Entered memory)) (entry_note (doer_of b) ch (entry_of p))) (sym at_)
      (record { exactly = refl; within = record { of = record { actor = refl; pc = refl; compartment = refl; chain = refl; kind = refl; mode = refl }; gate = x.gate; held = may.held; item = refl } })

-- the event to which an actor comes
pub event_noted : (w : WorldState) (m : Makings) (b : ActorState) (ch : CallChain) (e : Event) → Happens w b e → IsEventNote w.image w.cells m b ch e (event_note w.image m (doer_of b) ch e)
event_noted w m b ch e (Requested r) = subst (λ y. IsEventNote w.image w.cells m b ch y (event_note w.image m (doer_of b) ch y)) (sym r.is) (request_noted w.image w.cells m b ch (LoadsAt w.image b.hart r.rd r.is_signed) r.want r.own)
event_noted w m b ch e (Joined j) = subst (λ y. IsEventNote w.image w.cells m b ch y (event_note w.image m (doer_of b) ch y)) (sym j.join.is) (record { exactly = refl; within = tt })
event_noted w m b ch e (Snaps s) = subst (λ y. IsEventNote w.image w.cells m b ch y (event_note w.image m (doer_of b) ch y)) (sym s.is) (record { exactly = refl; within = tt })
event_noted w m b ch e (GateSnaps s) = subst (λ y. IsEventNote w.image w.cells m b ch y (event_note w.image m (doer_of b) ch y)) (sym s.is) (record { exactly = refl; within = tt })
event_noted w m b ch e (Started s) = subst (λ y. IsEventNote w.image w.cells m b ch y (event_note w.image m (doer_of b) ch y)) (sym s.is) (record { exactly = refl; within = tt })
event_noted w m b ch e (Opens o) = subst (λ y. IsEventNote w.image w.cells m b ch y (event_note w.image m (doer_of b) ch y)) (sym o.is) (record { exactly = refl; within = tt })
event_noted w m b ch e (Releases r) = subst (λ y. IsEventNote w.image w.cells m b ch y (event_note w.image m (doer_of b) ch y)) (sym r.is) (record { exactly = refl; within = tt })
event_noted w m b ch e (Numbers n) = subst (λ y. IsEventNote w.image w.cells m b ch y (event_note w.image m (doer_of b) ch y)) (sym n.is) (record { exactly = refl; within = tt })
event_noted w m b ch e (OpensFile f) = subst (λ y. IsEventNote w.image w.cells m b ch y (event_note w.image m (doer_of b) ch y)) (sym f.is) (record { exactly = refl; within = tt })
event_noted w m b ch e (LastJoined j) = subst (λ y. IsEventNote w.image w.cells m b ch y (event_note w.image m (doer_of b) ch y)) (sym j.join.is) (record { exactly = refl; within = tt })
event_noted w m b ch e (Ended x) = subst (λ y. IsEventNote w.image w.cells m b ch y (event_note w.image m (doer_of b) ch y)) (sym x.is) (record { exactly = refl; within = tt })
event_noted w m b ch e (LeavesGate l) = subst (λ y. IsEventNote w.image w.cells m b ch y (event_note w.image m (doer_of b) ch y)) (sym l.is) (record { exactly = refl; within = tt })
event_noted w m b ch e (LeavesRecycled l) = subst (λ y. IsEventNote w.image w.cells m b ch y (event_note w.image m (doer_of b) ch y)) (sym l.is) (record { exactly = refl; within = tt })
event_noted w m b ch e (EntersGate x) = subst (λ y. IsEventNote w.image w.cells m b ch y (event_note w.image m (doer_of b) ch y)) (sym x.is) (entered_noted w.image w.cells m b ch x.entrance _ x.at x.may)
event_noted w m b ch e (EntersRecycled x) = subst (λ y. IsEventNote w.image w.cells m b ch y (event_note w.image m (doer_of b) ch y)) (sym x.is) (recycled_noted w.image w.cells m b ch x.entrance _ _ _ _ x.at x.may)
