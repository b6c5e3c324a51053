-- An instruction, and an event that is no end, keep where the ranges of private memory lie.
use Rattle.std.proofs.Common.{◌≡◌, ℕ, zero, suc, ◌+◌, ◌-◌, ◌≤◌, Bool, true, false, List, [], ◌∷◌, length, refl, ap, ◌∙◌, arith}
use Rattle.std.specs.Prelude.{Option, Some, None, not, map, ◌==◌, ◌%◌, if◌then◌else◌}
use Rattle.cow_pages.specs.Copies.{copy_at, holds_copy, read_copy}
use Rattle.cow_pages.specs.PrivateMemory.{PrivateMemory}
use Rattle.wedge_base.specs.Bytes.{number_of, bytes_of, overwrite}
use Rattle.wedge_base.specs.Images.{Image, fetch, in_text, read_text, slot_of}
use Rattle.wedge_base.specs.Memory.{lies_in, range_at, write_range, write_at}
use Rattle.wedge_base.specs.declared.address.Place.{Place}
use Rattle.wedge_base.specs.declared.image.MemoryRange.{MemoryRange}
use Rattle.wedge_base.specs.declared.rights.End.TheVariants as end_
use Rattle.wedge_events.specs.declared.cells.GateAsk.TheVariants as gate_ask
use Rattle.wedge_events.specs.declared.cells.LivesAsk.TheVariants as lives_ask
use Rattle.wedge_events.specs.declared.cells.SlotAsk.{SlotAsk}
use Rattle.wedge_events.specs.declared.cells.SlotAsk.TheVariants as slot_ask
use Rattle.wedge_events.specs.declared.cells.SlotReply.{SlotReply}
use Rattle.wedge_events.specs.declared.cells.SlotReply.TheVariants as slot_reply
use Rattle.wedge_events.specs.declared.cells.StreamReply.TheVariants as reply
use Rattle.wedge_events.specs.declared.events.Event.{Event}
use Rattle.wedge_events.specs.declared.events.Event.TheVariants as event
use Rattle.rv_isa.specs.declared.Instr.{Instr}
use Rattle.rv_isa.specs.Table.{decode}
use Rattle.rv_hart.specs.declared.Hart.{Hart}
use Rattle.rv_hart.specs.declared.Need.{Need}
use Rattle.rv_hart.specs.declared.Need.TheVariants as need
use Rattle.rv_hart.specs.Local.{local}
use Rattle.machine.specs.Accesses.{load_bytes, load_copy, load_window, load_range, store_copy, store_window, store_range, has_loaded, has_stored, with_bytes}
use Rattle.machine.specs.Actors.{ActorState, ends, spends}
use Rattle.machine.specs.Calls.{a1, a7}
use Rattle.machine.specs.Local.{is_running, step_with_need, step_with_instr, step_with_fuel, step_with_word, step, run_local, rest}
use Rattle.machine.specs.Take.{takes}
use Rattle.run_laws.specs.Ends.{is_end_event}
use Rattle.run_laws.specs.MemoryRanges.{extent, extents}
use Rattle.run_laws.specs.Remembering.{memory_in, memory_after}
use Rattle.run_laws.proofs.Keeping.{call_keeps, IsNoGift, memory_is}
use Rattle.run_laws.proofs.WritingRanges.{length-written, LiesIn, lies_is}
use Rattle.machine.proofs.Resting.{stays, goes_on}

-- ---- bytes are written only where they lie in a range

written_extent : (address : ℕ) (new : List ℕ) (r : MemoryRange) → LiesIn address (length new) r → extent (write_range address new r) ≡ extent r
written_extent address new r l =
    let inside : address - r.base + length new ≤ length r.bytes = omega (arith, l.above, l.below) in
    ap (λ n. (r.base, n)) (length-written r.bytes (address - r.base) new inside)

written_extents : (rs : List MemoryRange) (address : ℕ) (new : List ℕ) → map extent (write_at rs address new) ≡ map extent rs
written_extents [] address new = refl
written_extents (r ∷ rs) address new = by_place (lies_in address (length new) r) refl (written_extents rs address new)
  where
    by_place : (t : Bool) → lies_in address (length new) r ≡ t → map extent (write_at rs address new) ≡ map extent rs
        → map extent (if t then write_range address new r ∷ rs else r ∷ write_at rs address new) ≡ map extent (r ∷ rs)
    by_place true lies later = ap (λ x. x ∷ map extent rs) (written_extent address new r (lies_is address (length new) r lies))
    by_place false lies later = ap (λ xs. extent r ∷ xs) later

-- ---- an instruction

abbrev pub KeepsExtents : ActorState → ActorState → Type 0
KeepsExtents a x = extents x.memory ≡ extents a.memory

bytes_so : (ins : Instr) (s : Bool) (a : ActorState) (width : ℕ) (o : Option (List ℕ)) → KeepsExtents a (load_bytes ins s a width o)
bytes_so ins s a width None = refl
bytes_so ins s a width (Some bytes) = refl

copy_so : (ins : Instr) (s : Bool) (a : ActorState) (width : ℕ) (p : Place) (o : Option (List ℕ)) → KeepsExtents a (load_copy ins s a width p o)
copy_so ins s a width p None = refl
copy_so ins s a width p (Some bytes) = bytes_so ins s a width (read_copy p.offset width bytes)

window_so : (ins : Instr) (s : Bool) (a : ActorState) (width : ℕ) (p : Option Place) → KeepsExtents a (load_window ins s a width p)
window_so ins s a width None = refl
window_so ins s a width (Some p) = copy_so ins s a width p (copy_at a.memory.copies p.slot)

load_so : (i : Image) (ins : Instr) (s : Bool) (a : ActorState) (address width : ℕ) (t u : Bool) (r : Option MemoryRange)
    → KeepsExtents a (if not t then ends a end_.Misaligned else if u then has_loaded ins s a width (number_of (read_text i address width)) else load_range ins s a address width r)
load_so i ins s a address width false u r = refl
load_so i ins s a address width true true r = refl
load_so i ins s a address width true false (Some r) = refl
load_so i ins s a address width true false None = window_so ins s a width (slot_of address)

copied_so : (a : ActorState) (width value : ℕ) (p : Place) (bytes : List ℕ) (t : Bool)
    → KeepsExtents a (if t then has_stored (with_bytes a p.slot (overwrite bytes p.offset (bytes_of width value))) else ends a end_.Unmapped)
copied_so a width value p bytes true = refl
copied_so a width value p bytes false = refl

store_copy_so : (a : ActorState) (width value : ℕ) (p : Place) (o : Option (List ℕ)) → KeepsExtents a (store_copy a width value p o)
store_copy_so a width value p None = refl
store_copy_so a width value p (Some bytes) = copied_so a width value p bytes (holds_copy p.offset width bytes)

store_window_so : (a : ActorState) (width value : ℕ) (p : Option Place) → KeepsExtents a (store_window a width value p)
store_window_so a width value None = refl
store_window_so a width value (Some p) = store_copy_so a width value p (copy_at a.memory.copies p.slot)

store_so : (a : ActorState) (address width value : ℕ) (t u : Bool) (r : Option MemoryRange)
    → KeepsExtents a (if not t then ends a end_.Misaligned else if u then ends a end_.TextStore else store_range a address width value r)
store_so a address width value false u r = refl
store_so a address width value true true r = refl
store_so a address width value true false (Some r) = written_extents a.memory.ranges address (bytes_of width value)
store_so a address width value true false None = store_window_so a width value (slot_of address)

need_so : (i : Image) (ins : Instr) (a : ActorState) (h : Hart) (n : Need) → KeepsExtents a (step_with_need i ins a h n)
need_so i ins a h need.Done = refl
need_so i ins a h (need.Load address width s) = load_so i ins s a address width (address % width == 0) (in_text i address width) (range_at a.memory.ranges address width)
need_so i ins a h (need.Store address width value) = store_so a address width value (address % width == 0) (in_text i address width) (range_at a.memory.ranges address width)
need_so i ins a h need.Call = ap extents (call_keeps i a (a7 a))
need_so i ins a h need.Break = refl
need_so i ins a h need.JumpMisaligned = refl

instr_so : (i : Image) (a : ActorState) (o : Option Instr) → KeepsExtents a (step_with_instr i a o)
instr_so i a None = refl
instr_so i a (Some ins) = need_so i ins a (local ins a.hart).hart (local ins a.hart).need

fuel_so : (i : Image) (a : ActorState) (word n : ℕ) → KeepsExtents a (step_with_fuel i a word n)
fuel_so i a word zero = refl
fuel_so i a word (suc n) = instr_so i (spends a 1) (decode word)

word_so : (i : Image) (a : ActorState) (o : Option ℕ) → KeepsExtents a (step_with_word i a o)
word_so i a None = refl
word_so i a (Some word) = fuel_so i a word a.fuel

step_so : (i : Image) (a : ActorState) → KeepsExtents a (step i a)
unfolding step
step_so i a = word_so i a (fetch i a.hart.pc)

run_so : (i : Image) (n : ℕ) (a : ActorState) (t : Bool) → is_running a.phase ≡ t → KeepsExtents a (run_local i n a)
run_so i n a false e = ap (λ (x : ActorState). extents x.memory) (stays i n a e)
run_so i zero a true e = unfold run_local in refl
run_so i (suc n) a true e = ap (λ (x : ActorState). extents x.memory) (goes_on i n a e) ∙ (run_so i n (step i a) _ refl ∙ step_so i a)

pub rest_extents : (i : Image) (a : ActorState) → KeepsExtents a (rest i a)
unfolding rest
rest_extents i a = run_so i (a.fuel + 1) a _ refl

-- ---- an event

slot_so : (m : PrivateMemory) (slot : ℕ) (r : SlotReply) (q : SlotAsk) → extents (memory_in m slot r q) ≡ extents m
slot_so m slot slot_reply.Opened (slot_ask.Open tag pages) = refl
slot_so m slot slot_reply.Opened (slot_ask.Close tag) = refl
slot_so m slot slot_reply.Opened (slot_ask.Load width offset live) = refl
slot_so m slot slot_reply.Opened (slot_ask.Store width offset value live) = refl
slot_so m slot slot_reply.Opened (slot_ask.Smalloc tag size) = refl
slot_so m slot slot_reply.Opened (slot_ask.Sfree offset live) = refl
slot_so m slot slot_reply.Opened (slot_ask.Snap tag) = refl
slot_so m slot r q = refl

after_so : (m : PrivateMemory) (e : Event) → is_end_event (Some e) ≡ false → extents (memory_after m e) ≡ extents m
after_so m (event.Lives (lives_ask.Release x) r) live = absurd cc
after_so m (event.Leave x) live = absurd cc
after_so m (event.Gate id (gate_ask.Leave x left) r) live = absurd cc
after_so m (event.Slot slot q r) live = slot_so m slot r q
after_so m e live = refl

no_gift_so : (i : Image) (a : ActorState) (e : Event) → is_end_event (Some e) ≡ false → IsNoGift e → KeepsExtents a (takes i a e)
no_gift_so i a e live none = ap extents (memory_is i a e none) ∙ after_so a.memory e live

pub event_extents : (i : Image) (a : ActorState) (e : Event) → is_end_event (Some e) ≡ false → KeepsExtents a (takes i a e)
unfolding takes
event_extents i a (event.Fd fd q (reply.Given bytes)) live = written_extents a.memory.ranges (a1 a) bytes
event_extents i a (event.Fd fd q reply.Opened) live = no_gift_so i a (event.Fd fd q reply.Opened) live tt
event_extents i a (event.Fd fd q reply.Appended) live = no_gift_so i a (event.Fd fd q reply.Appended) live tt
event_extents i a (event.Fd fd q reply.Closed) live = no_gift_so i a (event.Fd fd q reply.Closed) live tt
event_extents i a (event.Fd fd q reply.NoSuch) live = no_gift_so i a (event.Fd fd q reply.NoSuch) live tt
event_extents i a (event.Fd fd q (reply.Denied wants)) live = no_gift_so i a (event.Fd fd q (reply.Denied wants)) live tt
event_extents i a (event.Fd fd q reply.Bad) live = no_gift_so i a (event.Fd fd q reply.Bad) live tt
event_extents i a e live = no_gift_so i a e live tt
