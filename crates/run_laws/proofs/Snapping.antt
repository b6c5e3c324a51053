-- The bytes of a tag are copied for a child that is prepared, or for the runs of a gate that is made, and by no other event.
use Rattle.std.proofs.Common.{◌≡◌, ℕ, Bool, true, false, refl, sym, ap, subst}
use Rattle.std.specs.Prelude.{Option, Some, None, not, ◌==◌, nat_lt, length, slice_range, is_some, ◌+◌, if◌then◌else◌}
use Rattle.wedge_base.specs.Blocks.{rounded, first_fit, block_at}
use Rattle.wedge_base.specs.Bytes.{number_of}
use Rattle.wedge_base.specs.Rights.{at_least}
use Rattle.wedge_base.specs.declared.rights.Right.TheVariants as right
use Rattle.wedge_events.specs.Slots.{Segment, place_reply, right_in, slot_reply as slot_reply_of}
use Rattle.wedge_events.specs.declared.cells.DirectoryAsk.TheVariants as directory_ask
use Rattle.wedge_events.specs.declared.cells.Live.{Live}
use Rattle.wedge_events.specs.declared.cells.LivesAsk.TheVariants as lives_ask
use Rattle.wedge_events.specs.declared.cells.SlotAsk.TheVariants as slot_ask
use Rattle.wedge_events.specs.declared.cells.SlotReply.TheVariants as slot_reply
use Rattle.wedge_events.specs.declared.events.Event.{Event}
use Rattle.wedge_events.specs.declared.events.SlotWant.TheVariants as slot_want
use Rattle.wedge_events.specs.declared.events.Want.{Want}
use Rattle.wedge_events.specs.declared.events.Want.TheVariants as want
use Rattle.machine.specs.declared.phase.Phase.{Phase}
use Rattle.machine.specs.Actors.{ActorState}
use Rattle.machine.specs.Cells.{Cells, slot_in}
use Rattle.run_laws.specs.ChildCopies.{is_snapped, is_snap, SnapsAt}
use Rattle.machine.specs.Worlds.{WorldState}
use Rattle.run_laws.proofs.Between.{event_for}
use Rattle.run_laws.proofs.Happening.{Happens, Requested, Joined, Snaps, GateSnaps, Started, Opens, Releases, Numbers, OpensFile, LastJoined, Ended, EntersGate, LeavesGate, EntersRecycled, LeavesRecycled}
use Rattle.run_laws.proofs.Meeting.{IsRequest}

-- ---- the replies of a slot to what an instruction may ask

close_copies_not : (tag : ℕ) (g : Option Segment) → is_snapped (slot_reply_of g (slot_ask.Close tag)) ≡ false
close_copies_not tag None = refl
close_copies_not tag (Some g) = by_test (g.tag == tag)
  where
    by_test : (t : Bool) → is_snapped (if t then slot_reply.Closed else slot_reply.NoSuch) ≡ false
    by_test true = refl
    by_test false = refl

place_copies_not : (tag size : ℕ) (g : Option Segment) → is_snapped (slot_reply_of g (slot_ask.Smalloc tag size)) ≡ false
place_copies_not tag size None = refl
place_copies_not tag size (Some g) = by_test (g.tag == tag) (first_fit 0 (rounded size) (length g.bytes) g.blocks)
  where
    by_test : (t : Bool) (o : Option ℕ) → is_snapped (if t then place_reply o else slot_reply.NoSuch) ≡ false
    by_test true None = refl
    by_test true (Some offset) = refl
    by_test false o = refl

free_copies_not : (offset : ℕ) (live : Option Live) (g : Option Segment) → is_snapped (slot_reply_of g (slot_ask.Sfree offset live)) ≡ false
free_copies_not offset live None = refl
free_copies_not offset live (Some g) = by_tests (at_least (right_in live) right.ReadWrite) (is_some (block_at g.blocks offset))
  where
    by_tests : (t u : Bool) → is_snapped (if not t then slot_reply.Denied g.tag right.ReadWrite else if u then slot_reply.Freed else slot_reply.Bad) ≡ false
    by_tests false u = refl
    by_tests true true = refl
    by_tests true false = refl

load_copies_not : (offset width : ℕ) (live : Option Live) (g : Option Segment) → is_snapped (slot_reply_of g (slot_ask.Load width offset live)) ≡ false
load_copies_not offset width live None = refl
load_copies_not offset width live (Some g) = by_tests (nat_lt offset (length g.bytes)) (at_least (right_in live) right.Read)
  where
    by_tests : (u t : Bool) → is_snapped (if not u then slot_reply.Unmapped else if t then slot_reply.Loaded (number_of (slice_range g.bytes offset (offset + width))) else slot_reply.Denied g.tag right.Read) ≡ false
    by_tests false t = refl
    by_tests true false = refl
    by_tests true true = refl

store_copies_not : (offset width value : ℕ) (live : Option Live) (g : Option Segment) → is_snapped (slot_reply_of g (slot_ask.Store width offset value live)) ≡ false
store_copies_not offset width value live None = refl
store_copies_not offset width value live (Some g) = by_tests (nat_lt offset (length g.bytes)) (at_least (right_in live) right.ReadWrite)
  where
    by_tests : (u t : Bool) → is_snapped (if not u then slot_reply.Unmapped else if t then slot_reply.Stored else slot_reply.Denied g.tag right.ReadWrite) ≡ false
    by_tests false t = refl
    by_tests true false = refl
    by_tests true true = refl

-- ---- an event

request_copies_not : (N : ℕ → Type 0) (c : Cells) (b : ActorState) (q : Want) → IsRequest N b q → is_snap (event_for c b q) ≡ false
request_copies_not N c b (want.Slots directory_ask.Claim) own = refl
request_copies_not N c b (want.Slot slot (slot_want.Close tag)) own = close_copies_not tag (slot_in c slot)
request_copies_not N c b (want.Slot slot (slot_want.Smalloc tag size)) own = place_copies_not tag size (slot_in c slot)
request_copies_not N c b (want.Slot slot (slot_want.Sfree offset)) own = free_copies_not offset _ (slot_in c slot)
request_copies_not N c b (want.Slot slot (slot_want.Load offset width)) own = load_copies_not offset width _ (slot_in c slot)
request_copies_not N c b (want.Slot slot (slot_want.Store offset width value)) own = store_copies_not offset width value _ (slot_in c slot)
request_copies_not N c b (want.Fd fd q) own = refl
request_copies_not N c b (want.Lives lives_ask.Claim) own = refl
request_copies_not N c b q own = absurd own

-- an actor that is at something
at_phase : (b : ActorState) (e : Event) (p : Phase) → b.phase ≡ p → SnapsAt p e → SnapsAt b.phase e
at_phase b e p at h = subst (λ q. SnapsAt q e) (sym at) h

pub event_copies : (w : WorldState) (b : ActorState) (e : Event) → Happens w b e → SnapsAt b.phase e
event_copies w b e (Requested r) = at_phase b e _ r.at (subst (λ y. is_snap y ≡ false) (sym r.is) (request_copies_not _ w.cells b r.want r.own))
event_copies w b e (Joined j) = at_phase b e _ j.at (ap is_snap j.join.is)
event_copies w b e (Snaps s) = at_phase b e _ s.at tt
event_copies w b e (GateSnaps s) = at_phase b e _ s.at tt
event_copies w b e (Started s) = at_phase b e _ s.at tt
event_copies w b e (Opens o) = at_phase b e _ o.at (ap is_snap o.is)
event_copies w b e (Releases r) = at_phase b e _ r.at (ap is_snap r.is)
event_copies w b e (Numbers n) = at_phase b e _ n.at (ap is_snap n.is)
event_copies w b e (OpensFile f) = at_phase b e _ f.at (ap is_snap f.is)
event_copies w b e (LastJoined j) = at_phase b e _ j.at (ap is_snap j.join.is)
event_copies w b e (Ended f) = at_phase b e _ f.at (ap is_snap f.is)
event_copies w b e (EntersGate x) = at_phase b e _ x.at (ap is_snap x.is)
event_copies w b e (EntersRecycled x) = at_phase b e _ x.at (ap is_snap x.is)
event_copies w b e (LeavesGate l) = at_phase b e _ l.at (ap is_snap l.is)
event_copies w b e (LeavesRecycled l) = at_phase b e _ l.at (ap is_snap l.is)
