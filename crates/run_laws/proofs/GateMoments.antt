-- What each moment makes of its actor's gates: a gate is made by its own call alone, as the draft and the registers say.
use Rattle.std.proofs.Common.{◌≡◌, ℕ, zero, suc, ◌-◌, Bool, true, false, List, [], ◌∷◌, ◌+◌, refl, sym, ap, subst, ◌∙◌, arith, inl, inr}
use Rattle.std.proofs.lemmas.Bool.{eqb-true}
use Rattle.std.specs.Prelude.{Option, Some, None, is_none, not, nat_le, ◌==◌, ◌&&◌, option_map, option_and_then, slice_get, unwrap_or, if◌then◌else◌}
use Rattle.wedge_events.specs.declared.cells.GateReply.TheVariants as gate_reply
use Rattle.wedge_events.specs.declared.cells.GateAsk.TheVariants as gate_ask
use Rattle.cow_pages.specs.Listed.{bytes_listed}
use Rattle.cow_pages.specs.PrivateMemory.{PrivateMemory}
use Rattle.wedge_base.specs.Images.{Image, fetch}
use Rattle.wedge_base.specs.Maps.{Map}
use Rattle.wedge_base.specs.Pages.{pages_of}
use Rattle.wedge_base.specs.Sheets.{Draft, empty_draft, sheet_of_draft, first_excess}
use Rattle.wedge_events.specs.Slots.{Segment, slot_reply as slot_reply_of}
use Rattle.wedge_base.specs.declared.grants.GateId.{GateId}
use Rattle.wedge_base.specs.declared.rights.Code.TheVariants as code
use Rattle.wedge_base.specs.declared.rights.Denial.{Denial}
use Rattle.wedge_events.specs.declared.events.Event.{Event}
use Rattle.wedge_events.specs.declared.events.Event.TheVariants as event
use Rattle.wedge_events.specs.declared.cells.DirectoryAsk.TheVariants as directory_ask
use Rattle.wedge_events.specs.declared.cells.DirectoryReply.TheVariants as directory_reply
use Rattle.wedge_events.specs.declared.cells.LivesAsk.TheVariants as lives_ask
use Rattle.wedge_events.specs.declared.cells.LivesReply.TheVariants as lives_reply
use Rattle.wedge_events.specs.declared.cells.SlotAsk.TheVariants as slot_ask
use Rattle.wedge_events.specs.declared.cells.SlotReply.TheVariants as slot_reply
use Rattle.wedge_events.specs.declared.cells.StreamReply.TheVariants as reply
use Rattle.callgate.specs.declared.gate.Gate.{Gate}
use Rattle.rv_isa.specs.declared.Instr.{Instr}
use Rattle.rv_isa.specs.Table.{decode}
use Rattle.rv_hart.specs.declared.Hart.{Hart}
use Rattle.rv_hart.specs.declared.Need.{Need}
use Rattle.rv_hart.specs.declared.Need.TheVariants as need
use Rattle.rv_hart.specs.Local.{local, HasWidth}
use Rattle.machine.specs.declared.copy_grant.CopyGrant.{CopyGrant}
use Rattle.machine.specs.declared.phase.Phase.{Phase}
use Rattle.machine.specs.declared.phase.Phase.TheVariants as phase
use Rattle.machine.specs.Actors.{ActorState, pristine, refuses}
use Rattle.run_laws.specs.Allowed.{lacks, HasBegunGate}
use Rattle.machine.specs.Calls.{a0, a1, a4, a7, is_procedure, draft_at, new_gate, makes_or_waits, continue_gate, make_checked, make_with, serves}
use Rattle.machine.specs.Cells.{Cells, slot_in}
use Rattle.run_laws.specs.ChildCopies.{IsPrepared, pages_living, snap_reply}
use Rattle.machine.specs.Children.{without_child}
use Rattle.machine.specs.CopyGrant.{copy_grants}
use Rattle.machine.specs.Preparation.{Preparation, copied_from, prepare_copies, behind_first}
use Rattle.machine.specs.Resting.{NotMaking}
use Rattle.run_laws.specs.GateCalls.{KeepsGates, MakesWith, PreparesGate, BeginsUnless, GatesByRequest, InstrMakesGates, SnapsForGate, EventMakesGates}
use Rattle.machine.specs.Local.{step_with_need, step_with_instr, step_with_fuel, step_with_word, step}
use Rattle.run_laws.specs.Requests.{Request, Loads, Stores, Reads, Appends, Closes, Opens, Creates, Makes, Deletes, Allots, Frees, make_of, call_request, needed_request, instr_request, word_request, Enters}
use Rattle.machine.specs.Take.{runs, loads_by, loads_at, has_snapped, copied_on, takes}
use Rattle.machine.specs.Worlds.{WorldState, with_actor}
use Rattle.run_laws.proofs.Between.{IsMaking, joined_is, numbered_is, opened_is, entered_is}
use Rattle.run_laws.proofs.Happening.{Happens, AtGateSnap, Requested, Joined, Snaps, GateSnaps, Started, Opens as OpensTag, Releases, Numbers, OpensFile, LastJoined, Ended, EntersGate, LeavesGate, EntersRecycled, LeavesRecycled}
use Rattle.run_laws.proofs.MakingGates.{MayGrant, was_making, longer}
use Rattle.run_laws.proofs.Meeting.{stuck, suits_so, gate_of_draft, unset, needed_comes, needs_width}
use Rattle.run_laws.proofs.Preparing.{copies_are, prepared_so}
use Rattle.machine.proofs.Resting.{Goes, Things, need_makes, goes_needed}

-- a gate is made, or waits for copies, with the memory that is prepared
prepares_gate : (a : ActorState) (d : Draft) (m : PrivateMemory) (gs : List CopyGrant) (p : Preparation) → IsPrepared a m gs p → slice_get a.drafts (a0 a) ≡ Some d → MayGrant a → PreparesGate a d m gs (continue_gate a d p)
prepares_gate a d m gs p so drafted g = record { preparation = p; prepared = so; after = by_left p.left }
  where
    by_left : (l : List CopyGrant) → MakesWith a d p l (makes_or_waits a d p l)
    by_left [] = (new_gate a d p.memory, gate_of_draft a d p.memory drafted g, refl, refl)
    by_left (x ∷ xs) = refl

-- ---- the call that makes one

checked_gates : (i : Image) (a : ActorState) (d : Draft) (o : Option Denial) → slice_get a.drafts (a0 a) ≡ Some d → first_excess a.sheet a.made d ≡ o → d.user ≡ None → d.root ≡ None
    → GatesByRequest i a (Some (Makes d)) (make_checked i a d o)
checked_gates i a d (Some y) drafted excess user root = subst (λ o. BeginsUnless i a d o (make_checked i a d (Some y))) (sym excess) (record { known = refl; held = refl; count = refl; calm = tt })
checked_gates i a d None drafted excess user root =
    let gs = (sheet_of_draft a.sheet a.made d).tags in
    let may : MayGrant a = record { draft = d; drafted = drafted; allowed = excess; user = user; root = root } in
    subst (λ o. BeginsUnless i a d o (make_checked i a d None)) (sym excess) (subst (λ l. PreparesGate a d (pristine i) l (continue_gate a d (prepare_copies a.sheet a.made a.memory.copies (pristine i) (copy_grants gs)))) (copies_are gs)
    (prepares_gate a d (pristine i) (copy_grants gs) (prepare_copies a.sheet a.made a.memory.copies (pristine i) (copy_grants gs)) (prepared_so a (pristine i) (copy_grants gs)) drafted may))

drafted_gates : (i : Image) (a : ActorState) (d : Draft) (p k u r : Bool) → slice_get a.drafts (a0 a) ≡ Some d → is_none d.user ≡ u → is_none d.root ≡ r
    → GatesByRequest i a (if p && (k && (u && r)) then Some (Makes d) else None) (if not (p && (k && (u && r))) then refuses a code.Bad else make_checked i a d (first_excess a.sheet a.made d))
drafted_gates i a d false k u r drafted user root = record { known = refl; held = refl; count = refl; calm = tt }
drafted_gates i a d true false u r drafted user root = record { known = refl; held = refl; count = refl; calm = tt }
drafted_gates i a d true true false r drafted user root = record { known = refl; held = refl; count = refl; calm = tt }
drafted_gates i a d true true true false drafted user root = record { known = refl; held = refl; count = refl; calm = tt }
drafted_gates i a d true true true true drafted user root = checked_gates i a d (first_excess a.sheet a.made d) drafted refl (unset d.user user) (unset d.root root)

make_gates : (i : Image) (a : ActorState) (o : Option Draft) → slice_get a.drafts (a0 a) ≡ o → GatesByRequest i a (make_of i (a1 a) (a4 a) o) (make_with i a o)
make_gates i a None drafted = record { known = refl; held = refl; count = refl; calm = tt }
make_gates i a (Some d) drafted =
    subst (λ t. GatesByRequest i a (if t then Some (Makes d) else None) (make_with i a (Some d))) (sym (suits_so i a d))
    (drafted_gates i a d (is_procedure i (a1 a)) (nat_le (a4 a) 1) (is_none d.user) (is_none d.root) drafted refl refl)

-- ---- any other instruction

-- whoever has begun a gate has not kept its gates as they were
begun_changes : (a x : ActorState) (d : Draft) → HasBegunGate a d x → KeepsGates a x → ⊥
begun_changes a x d (inl (g, of, is)) keeps = longer a.gates g (sym (ap (λ (y : ActorState). y.gates) is) ∙ keeps.known)
begun_changes a x d (inr (p, is)) keeps = subst (λ (y : ActorState). NotMaking y.phase) is keeps.calm

-- so no gate is made by whoever keeps its gates
none_begun : (i : Image) (a x : ActorState) (d : Draft) (o : Option Denial) → KeepsGates a x → (o ≡ None → ⊥) → BeginsUnless i a d o x
none_begun i a x d None keeps not_none = absurd (not_none refl)
none_begun i a x d (Some y) keeps not_none = keeps

keeps_by : (i : Image) (a x : ActorState) (r : Option Request) → KeepsGates a x → ((d : Draft) → r ≡ Some (Makes d) → lacks a (Makes d) ≡ None → ⊥) → GatesByRequest i a r x
keeps_by i a x None keeps other = keeps
keeps_by i a x (Some (Makes d)) keeps other = none_begun i a x d (first_excess a.sheet a.made d) keeps (other d refl)
keeps_by i a x (Some (Loads y rd s)) keeps other = keeps
keeps_by i a x (Some (Stores y value)) keeps other = keeps
keeps_by i a x (Some (Reads fd s n)) keeps other = keeps
keeps_by i a x (Some (Appends fd s bytes)) keeps other = keeps
keeps_by i a x (Some (Closes fd s)) keeps other = keeps
keeps_by i a x (Some (Opens path f b)) keeps other = keeps
keeps_by i a x (Some (Creates d)) keeps other = keeps
keeps_by i a x (Some (Enters entry lent)) keeps other = keeps
keeps_by i a x (Some (Deletes tag)) keeps other = keeps
keeps_by i a x (Some (Allots tag size)) keeps other = keeps
keeps_by i a x (Some (Frees p g)) keeps other = keeps

call_gates : (i : Image) (c : Cells) (a : ActorState) (n : ℕ) → (n == 13) ≡ true → GatesByRequest i a (call_request i c a a.hart.regs n) (serves i a n)
unfolding serves
call_gates i c a n is = subst (λ m. GatesByRequest i a (call_request i c a a.hart.regs m) (serves i a m)) (sym (eqb-true n 13 is)) (make_gates i a (slice_get a.drafts (a0 a)) refl)

-- the work of an instruction leaves its actor's gates, where none may be made
goes_keeping : (cost : ℕ) (t : Bool) (a b : ActorState) → t ≡ false → NotMaking a.phase → Goes cost t a b → KeepsGates a b
goes_keeping cost true a b e calm g = absurd cc
goes_keeping cost false a b e calm g = record {
  known = ap (λ (x : Things). x.gates) g.made;
  held = ap (λ (x : Things). x.made.gates) g.made;
  count = ap (λ (x : Things). x.made.count) g.made;
  calm = g.unmade calm;
}

need_gates : (i : Image) (c : Cells) (ins : Instr) (a : ActorState) (h : Hart) (n : Need) (t : Bool) → need_makes a n ≡ t → HasWidth n → a.phase ≡ phase.Running → GatesByRequest i a (needed_request i c a ins.rd n) (step_with_need i ins a h n)
need_gates i c ins a h n false same fits run =
    let keeps = goes_keeping _ _ a (step_with_need i ins a h n) same (subst NotMaking (sym run) tt) (goes_needed i ins a h n) in
    keeps_by i a (step_with_need i ins a h n) (needed_request i c a ins.rd n) keeps (λ d asked none. begun_changes a (step_with_need i ins a h n) d (((needed_comes i ins a h n fits run).met c (Makes d) asked).done none refl) keeps)
need_gates i c ins a h need.Call true same fits run = call_gates i c a (a7 a) same
need_gates i c ins a h need.Done true same fits run = absurd cc
need_gates i c ins a h (need.Load address width s) true same fits run = absurd cc
need_gates i c ins a h (need.Store address width value) true same fits run = absurd cc
need_gates i c ins a h need.Break true same fits run = absurd cc
need_gates i c ins a h need.JumpMisaligned true same fits run = absurd cc

executed_gates : (i : Image) (c : Cells) (a : ActorState) (ins : Option Instr) → a.phase ≡ phase.Running → GatesByRequest i a (instr_request i c a ins) (step_with_instr i a ins)
executed_gates i c a None run = record { known = refl; held = refl; count = refl; calm = tt }
executed_gates i c a (Some ins) run = need_gates i c ins a (local ins a.hart).hart (local ins a.hart).need _ refl (needs_width ins a.hart) run

fetched_gates : (i : Image) (c : Cells) (a : ActorState) (n : ℕ) (w : Option ℕ) → a.phase ≡ phase.Running → a.fuel ≡ suc n → GatesByRequest i (record a { fuel = n }) (word_request i c (record a { fuel = n }) w) (step_with_word i a w)
fetched_gates i c a n None run has = record { known = refl; held = refl; count = refl; calm = tt }
fetched_gates i c a n (Some word) run has =
    let p = record a { fuel = n } in
    let left : n ≡ a.fuel - 1 = omega (arith, has) in
    let paid = subst (λ m. GatesByRequest i p (instr_request i c p (decode word)) (step_with_instr i (record a { fuel = m }) (decode word))) left (executed_gates i c p (decode word) run) in
    subst (λ m. GatesByRequest i p (instr_request i c p (decode word)) (step_with_fuel i a word m)) (sym has) paid

instr_gates : (w : WorldState) (a : ActorState) (n : ℕ) → a.fuel ≡ n → a.phase ≡ phase.Running → InstrMakesGates w a n (step w.image a)
unfolding step
instr_gates w a zero has run = let s = stuck w.image a has in subst (KeepsGates a) (sym s.1) (record { known = refl; held = refl; count = refl; calm = tt })
instr_gates w a (suc n) has run = fetched_gates w.image w.cells a n (fetch w.image a.hart.pc) run has

pub step_makes_gates : (w : WorldState) (a : ActorState) → a.phase ≡ phase.Running → InstrMakesGates w a a.fuel (step w.image a)
step_makes_gates w a run = instr_gates w a a.fuel refl run

-- ---- events

-- the gates that an actor knows, those that it made, and how many it made
record Gates : Type 0 where
  known : List Gate
  held : Map GateId
  count : ℕ

abbrev gates_of : ActorState → Gates
gates_of a = record { known = a.gates; held = a.made.gates; count = a.made.count }

loaded_gates : (ins : Instr) (n : Need) (a : ActorState) (value : ℕ) → gates_of (loads_by ins n a value) ≡ gates_of a
loaded_gates ins need.Done a value = refl
loaded_gates ins (need.Load address width s) a value = refl
loaded_gates ins (need.Store address width v) a value = refl
loaded_gates ins need.Call a value = refl
loaded_gates ins need.Break a value = refl
loaded_gates ins need.JumpMisaligned a value = refl

loads_gates : (a : ActorState) (ins : Option Instr) (value : ℕ) → gates_of (loads_at a ins value) ≡ gates_of a
loads_gates a None value = refl
loads_gates a (Some ins) value = loaded_gates ins (local ins a.hart).need a value

snapped_gates : (a : ActorState) (p : Phase) (slot : ℕ) (bytes : Option (List ℕ)) → (IsMaking p → ⊥) → gates_of (has_snapped a p slot bytes) ≡ gates_of a
snapped_gates a phase.Running slot bytes other = refl
snapped_gates a (phase.Within q) slot bytes other = refl
snapped_gates a (phase.Starting pre) slot bytes other = refl
snapped_gates a (phase.MakingGate pre) slot bytes other = absurd (other tt)
snapped_gates a (phase.Opening s tag) slot bytes other = refl
snapped_gates a (phase.Releasing s) slot bytes other = refl
snapped_gates a (phase.Entering entrance) slot bytes other = refl
snapped_gates a (phase.Waiting number) slot bytes other = refl
snapped_gates a (phase.OpeningFile o) slot bytes other = refl
snapped_gates a (phase.Ending x) slot bytes other = refl
snapped_gates a (phase.Ended x) slot bytes other = refl

event_gates : (i : Image) (a : ActorState) (e : Event) → (IsMaking a.phase → ⊥) → gates_of (takes i a e) ≡ gates_of a
unfolding takes
event_gates i a (event.Slot slot q (slot_reply.Loaded value)) other = loads_gates (runs a) (option_and_then decode (fetch i a.hart.pc)) value
event_gates i a (event.Slots (directory_ask.Release place) r) other = refl
event_gates i a (event.Slots directory_ask.Claim (directory_reply.Claimed place number)) other = refl
event_gates i a (event.Slots directory_ask.Claim directory_reply.Full) other = refl
event_gates i a (event.Slots directory_ask.Claim directory_reply.Released) other = refl
event_gates i a (event.Slot slot q (slot_reply.Snapped pages)) other = snapped_gates a a.phase slot (Some (bytes_listed pages)) other
event_gates i a (event.Slot slot q slot_reply.Gone) other = snapped_gates a a.phase slot None other
event_gates i a (event.Slot slot (slot_ask.Sfree offset live) (slot_reply.Denied tag wants)) other = refl
event_gates i a (event.Slot slot (slot_ask.Open tag pages) slot_reply.Opened) other = refl
event_gates i a (event.Slot slot q r) other = refl
event_gates i a (event.Fds (directory_ask.Release place) r) other = refl
event_gates i a (event.Fds directory_ask.Claim (directory_reply.Claimed fd number)) other = numbered_is (λ x. gates_of x ≡ gates_of a) a a.phase fd refl (λ o. refl)
event_gates i a (event.Fds directory_ask.Claim directory_reply.Full) other = refl
event_gates i a (event.Fds directory_ask.Claim directory_reply.Released) other = refl
event_gates i a (event.Fd fd q reply.Opened) other = opened_is (λ x. gates_of x ≡ gates_of a) a a.phase fd refl (λ o. refl)
event_gates i a (event.Fd fd q (reply.Given given)) other = refl
event_gates i a (event.Fd fd q reply.Appended) other = refl
event_gates i a (event.Fd fd q reply.Closed) other = refl
event_gates i a (event.Fd fd q reply.NoSuch) other = refl
event_gates i a (event.Fd fd q (reply.Denied wants)) other = refl
event_gates i a (event.Fd fd q reply.Bad) other = refl
event_gates i a (event.Lives lives_ask.Claim lives_reply.Claimed) other = refl
event_gates i a (event.Lives lives_ask.Claim lives_reply.Full) other = refl
event_gates i a (event.Lives lives_ask.Claim lives_reply.Released) other = refl
event_gates i a (event.Lives (lives_ask.Release x) r) other = refl
event_gates i a (event.Join k e fuel) other = joined_is (λ x. gates_of x ≡ gates_of a) (record a { fuel = a.fuel + fuel; unjoined = without_child a.unjoined k }) a.phase e refl refl
event_gates i a (event.Enter run) other = entered_is (λ x. gates_of x ≡ gates_of a) a a.phase refl (λ x. refl)
event_gates i a (event.Gate id (gate_ask.Enter run first) (gate_reply.Entered memory)) other = entered_is (λ x. gates_of x ≡ gates_of a) a a.phase refl (λ x. refl)
event_gates i a e other = refl

not_making : (p : Phase) → (IsMaking p → ⊥) → NotMaking p
not_making phase.Running h = tt
not_making (phase.Within q) h = tt
not_making (phase.Starting pre) h = tt
not_making (phase.MakingGate pre) h = absurd (h tt)
not_making (phase.Opening slot tag) h = tt
not_making (phase.Releasing slot) h = tt
not_making (phase.Entering entrance) h = tt
not_making (phase.Waiting number) h = tt
not_making (phase.OpeningFile o) h = tt
not_making (phase.Ending e) h = tt
not_making (phase.Ended e) h = tt

event_keeps_gates : (i : Image) (b : ActorState) (e : Event) → (IsMaking b.phase → ⊥) → KeepsGates b (takes i b e)
event_keeps_gates i b e other =
    let same = event_gates i b e other in
    record {
      known = ap (λ (x : Gates). x.known) same;
      held = ap (λ (x : Gates). x.held) same;
      count = ap (λ (x : Gates). x.count) same;
      calm = not_making (takes i b e).phase (λ k. other (was_making i b e k));
    }

keeps_at : (w : WorldState) (b : ActorState) (e : Event) (p : Phase) → b.phase ≡ p → (IsMaking p → ⊥) → EventMakesGates w b b.phase e (takes w.image b e)
keeps_at w b e p at other =
    let keeps = event_keeps_gates w.image b e (λ k. other (subst IsMaking at k)) in
    subst (λ ph. EventMakesGates w b ph e (takes w.image b e)) (sym at) (by_phase p other keeps)
  where
    by_phase : (p : Phase) → (IsMaking p → ⊥) → KeepsGates b (takes w.image b e) → EventMakesGates w b p e (takes w.image b e)
    by_phase phase.Running h keeps = keeps
    by_phase (phase.Within q) h keeps = keeps
    by_phase (phase.Starting pre) h keeps = keeps
    by_phase (phase.MakingGate pre) h keeps = absurd (h tt)
    by_phase (phase.Opening slot tag) h keeps = keeps
    by_phase (phase.Releasing slot) h keeps = keeps
    by_phase (phase.Entering entrance) h keeps = keeps
    by_phase (phase.Waiting number) h keeps = keeps
    by_phase (phase.OpeningFile o) h keeps = keeps
    by_phase (phase.Ending x) h keeps = keeps
    by_phase (phase.Ended x) h keeps = keeps

-- the copy of a tag
copies_for_gate : (b : ActorState) (p : Preparation) (slot : ℕ) (gs : List CopyGrant) (o : Option (List ℕ)) → b.phase ≡ phase.MakingGate p → behind_first p.left ≡ gs → MayGrant b
    → PreparesGate b (draft_at b.drafts (a0 b)) (copied_from o slot p.memory) gs (has_snapped b b.phase slot o)
copies_for_gate b p slot gs o at behind may =
    let d = draft_at b.drafts (a0 b) in
    let there : slice_get b.drafts (a0 b) ≡ Some d = may.drafted ∙ sym (ap (λ x. Some (unwrap_or x empty_draft)) may.drafted) in
    subst (λ ph. PreparesGate b d (copied_from o slot p.memory) gs (has_snapped b ph slot o)) (sym at)
    (subst (λ l. PreparesGate b d (copied_from o slot p.memory) l (has_snapped b (phase.MakingGate p) slot o)) behind
    (prepares_gate b d (copied_from o slot p.memory) (behind_first p.left) (copied_on b p slot o) (prepared_so b (copied_from o slot p.memory) (behind_first p.left)) there may))

snap_for_gate : (i : Image) (b : ActorState) (p : Preparation) (slot tag : ℕ) (gs : List CopyGrant) (g : Option Segment) → b.phase ≡ phase.MakingGate p → behind_first p.left ≡ gs → MayGrant b
    → (slot_reply_of g (slot_ask.Snap tag) ≡ snap_reply (pages_living g tag))
    × PreparesGate b (draft_at b.drafts (a0 b)) (copied_from (option_map bytes_listed (pages_living g tag)) slot p.memory) gs (takes i b (event.Slot slot (slot_ask.Snap tag) (slot_reply_of g (slot_ask.Snap tag))))
unfolding takes
snap_for_gate i b p slot tag gs None at behind may = (refl, copies_for_gate b p slot gs None at behind may)
snap_for_gate i b p slot tag gs (Some g) at behind may = by_tag (g.tag == tag)
  where
    by_tag : (t : Bool)
        → ((if t then slot_reply.Snapped (pages_of g.bytes) else slot_reply.Gone) ≡ snap_reply (if t then Some (pages_of g.bytes) else None))
        × PreparesGate b (draft_at b.drafts (a0 b)) (copied_from (option_map bytes_listed (if t then Some (pages_of g.bytes) else None)) slot p.memory) gs
        (takes i b (event.Slot slot (slot_ask.Snap tag) (if t then slot_reply.Snapped (pages_of g.bytes) else slot_reply.Gone)))
    by_tag true = (refl, copies_for_gate b p slot gs (Some (bytes_listed (pages_of g.bytes))) at behind may)
    by_tag false = (refl, copies_for_gate b p slot gs None at behind may)

snaps_for_gate : (w : WorldState) (b : ActorState) (e : Event) (s : AtGateSnap w b e) → SnapsForGate (with_actor w b) b s.preparation s.preparation.left e (takes w.image b e)
snaps_for_gate w b e s =
    let so = snap_for_gate w.image b s.preparation s.grant.slot s.grant.tag s.others (slot_in w.cells s.grant.slot) s.at (ap behind_first s.left) s.granting.may in
    subst (λ l. SnapsForGate (with_actor w b) b s.preparation l e (takes w.image b e)) (sym s.left) (
      s.is ∙ ap (event.Slot s.grant.slot (slot_ask.Snap s.grant.tag)) so.0,
      subst (λ y. PreparesGate b (draft_at b.drafts (a0 b)) (copied_from (option_map bytes_listed (pages_living (slot_in w.cells s.grant.slot) s.grant.tag)) s.grant.slot s.preparation.memory) s.others (takes w.image b y)) (sym s.is) so.1,
    )

pub event_makes_gates : (w : WorldState) (b : ActorState) (e : Event) → Happens w b e → EventMakesGates (with_actor w b) b b.phase e (takes w.image b e)
event_makes_gates w b e (GateSnaps s) = subst (λ ph. EventMakesGates (with_actor w b) b ph e (takes w.image b e)) (sym s.at) (snaps_for_gate w b e s)
event_makes_gates w b e (Requested r) = keeps_at (with_actor w b) b e _ r.at (λ k. k)
event_makes_gates w b e (Joined j) = keeps_at (with_actor w b) b e _ j.at (λ k. k)
event_makes_gates w b e (Snaps s) = keeps_at (with_actor w b) b e _ s.at (λ k. k)
event_makes_gates w b e (Started s) = keeps_at (with_actor w b) b e _ s.at (λ k. k)
event_makes_gates w b e (OpensTag o) = keeps_at (with_actor w b) b e _ o.at (λ k. k)
event_makes_gates w b e (Releases r) = keeps_at (with_actor w b) b e _ r.at (λ k. k)
event_makes_gates w b e (Numbers n) = keeps_at (with_actor w b) b e _ n.at (λ k. k)
event_makes_gates w b e (OpensFile f) = keeps_at (with_actor w b) b e _ f.at (λ k. k)
event_makes_gates w b e (LastJoined j) = keeps_at (with_actor w b) b e _ j.at (λ k. k)
event_makes_gates w b e (Ended f) = keeps_at (with_actor w b) b e _ f.at (λ k. k)
event_makes_gates w b e (EntersGate x) = keeps_at (with_actor w b) b e _ x.at (λ k. k)
event_makes_gates w b e (EntersRecycled x) = keeps_at (with_actor w b) b e _ x.at (λ k. k)
event_makes_gates w b e (LeavesGate l) = keeps_at (with_actor w b) b e _ l.at (λ k. k)
event_makes_gates w b e (LeavesRecycled l) = keeps_at (with_actor w b) b e _ l.at (λ k. k)
