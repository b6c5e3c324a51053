-- In every run the private copies of an actor, and of a child that it prepares, are at the slots of the grants of copies on their sheets.
use Rattle.std.proofs.Common.{◌≡◌, ◌⊎◌, inl, inr, ℕ, zero, suc, ◌+◌, Bool, true, false, List, [], ◌∷◌, refl, sym, ap, subst, ◌∙◌}
use Rattle.std.specs.Prelude.{Option, Some, None, not, is_some, option_and_then, ◌&&◌, ◌||◌, ◌==◌, ◌%◌, if◌then◌else◌, unwrap_or}
use Rattle.std.proofs.lemmas.Bool.{eq-eqb}
use Rattle.callgate.specs.Gate.{gate_named}
use Rattle.callgate.specs.declared.gate.Gate.{Gate}
use Rattle.wedge_events.specs.declared.cells.GateAsk.TheVariants as gate_ask
use Rattle.cow_pages.specs.Copies.{Copies, is_slot, copy_at, with_copy, read_copy}
use Rattle.cow_pages.specs.Listed.{bytes_listed}
use Rattle.cow_pages.specs.PrivateMemory.{PrivateMemory}
use Rattle.wedge_base.specs.Bytes.{bytes_of}
use Rattle.wedge_base.specs.Images.{Image, fetch, in_text, slot_of}
use Rattle.wedge_base.specs.Maps.{Map}
use Rattle.wedge_base.specs.Memory.{range_at}
use Rattle.wedge_base.specs.Names.{same, root_name}
use Rattle.wedge_base.specs.Sheets.{Sheet, with_grant, root_tags}
use Rattle.wedge_events.specs.Slots.{Segment, declared_segment, slot_reply as slot_reply_of}
use Rattle.wedge_base.specs.declared.address.Place.{Place}
use Rattle.wedge_events.specs.declared.cells.LivesAsk.TheVariants as lives_ask
use Rattle.wedge_events.specs.declared.cells.LivesReply.TheVariants as lives_reply
use Rattle.wedge_events.specs.declared.cells.SlotAsk.{SlotAsk}
use Rattle.wedge_events.specs.declared.cells.SlotAsk.TheVariants as slot_ask
use Rattle.wedge_events.specs.declared.cells.SlotReply.{SlotReply}
use Rattle.wedge_events.specs.declared.cells.SlotReply.TheVariants as slot_reply
use Rattle.wedge_events.specs.declared.events.Event.{Event}
use Rattle.wedge_events.specs.declared.events.Event.TheVariants as event
use Rattle.wedge_events.specs.declared.events.Turn.{Turn}
use Rattle.wedge_base.specs.declared.image.MemoryRange.{MemoryRange}
use Rattle.wedge_base.specs.declared.image.TagEntry.{TagEntry}
use Rattle.wedge_base.specs.declared.rights.Grant.{Grant}
use Rattle.wedge_base.specs.declared.rights.Right.{Right}
use Rattle.wedge_base.specs.declared.rights.Right.TheVariants as right
use Rattle.rv_isa.specs.declared.Instr.{Instr}
use Rattle.rv_isa.specs.Table.{decode}
use Rattle.rv_hart.specs.declared.Need.{Need}
use Rattle.rv_hart.specs.declared.Need.TheVariants as need
use Rattle.rv_hart.specs.Local.{local}
use Rattle.machine.specs.declared.copy_grant.CopyGrant.{CopyGrant}
use Rattle.machine.specs.declared.phase.Phase.TheVariants as phase
use Rattle.machine.specs.Actors.{ActorState, pristine, root}
use Rattle.machine.specs.Calls.{a0}
use Rattle.machine.specs.Cells.{slot_in, kept_in}
use Rattle.machine.specs.Children.{child_name}
use Rattle.run_laws.specs.CopiesGranted.{grants_copy, AreGranted, AreOwnCopiesGranted, AreGateCopiesGranted}
use Rattle.machine.specs.CopyGrant.{is_copy_alone}
use Rattle.machine.specs.Preparation.{Preparation, with_declared, copied_from, prepare_copies, behind_first}
use Rattle.run_laws.specs.FamilyTrees.{Family}
use Rattle.run_laws.specs.Laws.{CopiesAreGranted, RunsAreAlone}
use Rattle.run_laws.specs.RecycledGates.{AreRunsAlone}
use Rattle.run_laws.proofs.RecycledRuns.{entered_known, turn_alone, resumed_alone, rested_alone, opening_alone}
use Rattle.run_laws.proofs.FamilyRuns.{turn_family, opening_family}
use Rattle.run_laws.proofs.KnownGates.{AreHeld, rest_held, resumed_held, turn_held, opening_held, one_gate}
use Rattle.machine.specs.Local.{is_running, step, run_local, rest}
use Rattle.run_laws.specs.Remembering.{copied_bytes, Elsewhere, copy_target, target_among, LoadGives, StoreWrites, NeedRemembers, InstrRemembers, WordRemembers, memory_in, memory_after}
use Rattle.machine.specs.Entering.{sheet_lent}
use Rattle.machine.specs.Take.{copies_asked, has_snapped, next_start, takes, memory_made, child_of, run_by, actor_begun}
use Rattle.machine.specs.Worlds.{WorldState, initial_state, actor_named, put_actor, with_begun, turn_of, ready, resumed, Runs}
use Rattle.run_laws.proofs.Between.{IsPreparing, takes_name}
use Rattle.machine.proofs.ByNumber.{same_number, number_itself}
use Rattle.run_laws.proofs.Families.{takes_sheet}
use Rattle.run_laws.proofs.FamilyRuns.{Acts, ActsAlone, Starts, Enters, Joins, acts, one_begins}
use Rattle.run_laws.proofs.Happening.{Happens, snap_cases, Requested, Joined, Snaps, GateSnaps, Started, Opens, Releases, Numbers, OpensFile, LastJoined, Ended, EntersGate, LeavesGate, EntersRecycled, LeavesRecycled, memory_for}
use Rattle.run_laws.proofs.Keeping.{step_remembers, event_copies}
use Rattle.run_laws.proofs.Preparing.{was_preparing}
use Rattle.machine.proofs.Resting.{IsCalm, steps_step, rests, stays, goes_on, rest-stays, rest-name}
use Rattle.run_laws.proofs.Settling.{AllReady, turn_happens, turn_ready, opening_ready, turned_there}
use Rattle.run_laws.proofs.Trees.{IsPut, IsDoer, IsOther, FoundPut, find_put, found_or_last, found_put}
use Rattle.run_laws.proofs.GrantedPreparing.{or_true, copied_granted, without_granted, AreAllGranted, IsGranted, grants_granted, prepared_granted, child_grants}
use Rattle.run_laws.proofs.GateRuns.{each_entered, IsEntry}
use Rattle.run_laws.proofs.GrantedRuns.{grants_lent}
use Rattle.run_laws.proofs.Turns.{ready_is, ready_name, turn_from, Turned}
use Rattle.run_laws.proofs.GrantedGates.{AreGatesGranted, gates_at_rest, event_gates_granted}

-- ---- the root's copies

grants_first : (n : ℕ) (gs : Map Grant) → grants_copy ((n, record { right = right.Cow; slot = n }) ∷ gs) n ≡ true
grants_first n gs = ap (λ t. t || grants_copy gs n) (eq-eqb n n refl)

declared_granted : (gs : Map Grant) (copies : Copies) (n : ℕ) (ts : List TagEntry) → AreGranted gs copies
    → ((slot : ℕ) → grants_copy (root_tags n ts) slot ≡ true → grants_copy gs slot ≡ true) → AreGranted gs (with_declared copies n ts)
declared_granted gs copies n [] all more = all
declared_granted gs copies n (t ∷ ts) all more = by_right t.right more (λ cs. declared_granted gs cs (n + 1) ts)
  where
    by_right : (o : Option Right) → ((slot : ℕ) → grants_copy (with_grant n o (root_tags (n + 1) ts)) slot ≡ true → grants_copy gs slot ≡ true)
        → ((cs : Copies) → AreGranted gs cs → ((slot : ℕ) → grants_copy (root_tags (n + 1) ts) slot ≡ true → grants_copy gs slot ≡ true) → AreGranted gs (with_declared cs (n + 1) ts))
        → AreGranted gs (with_declared (if is_copy_alone o then with_copy copies n (declared_segment n t).bytes else copies) (n + 1) ts)
    by_right None h later = later copies all h
    by_right (Some right.Cow) h later =
        later (with_copy copies n (declared_segment n t).bytes)
        (copied_granted gs (Some (declared_segment n t).bytes) n (record { ranges = []; copies = copies }) all (h n (grants_first n (root_tags (n + 1) ts))))
        (λ slot e. h slot (or_true _ (grants_copy (root_tags (n + 1) ts) slot) e))
    by_right (Some right.Read) h later = later copies all (λ slot e. h slot e)
    by_right (Some right.ReadWrite) h later = later copies all (λ slot e. h slot e)

-- ---- an actor

pub record HasGranted (a : ActorState) : Type 0 where
  pub own : AreOwnCopiesGranted a
  pub child : (p : Preparation) → a.phase ≡ phase.Starting p → IsGranted (child_grants a) p
  pub making : (p : Preparation) → a.phase ≡ phase.MakingGate p → IsGranted (child_grants a) p
  pub gates : AreGatesGranted a.gates

-- an instruction gives an actor no copy at a slot at which it has none
abbrev KeepsSlots : ActorState → ActorState → Type 0
KeepsSlots a b = (slot : ℕ) → is_some (copy_at b.memory.copies slot) ≡ true → is_some (copy_at a.memory.copies slot) ≡ true

same_slots : (a b : ActorState) → b.memory ≡ a.memory → KeepsSlots a b
same_slots a b is slot there = ap (λ (m : PrivateMemory). is_some (copy_at m.copies slot)) (sym is) ∙ there

copy_slots : (a b : ActorState) (address width : ℕ) (new : List ℕ) (p : Place) (o : Option (List ℕ)) → copied_bytes a.memory.copies width (Some p) ≡ o
    → StoreWrites a address new (copy_target (Some p) o) b → KeepsSlots a b
copy_slots a b address width new p None is h = same_slots a b h
copy_slots a b address width new p (Some bytes) is h = λ slot there. by_slot slot there (is_slot slot p.slot) refl
  where
    was_there : (c : Option (List ℕ)) → option_and_then (read_copy p.offset width) c ≡ Some bytes → is_some c ≡ true
    was_there None e = absurd cc
    was_there (Some old) e = refl

    by_slot : (slot : ℕ) → is_some (copy_at b.memory.copies slot) ≡ true → (t : Bool) → is_slot slot p.slot ≡ t → is_some (copy_at a.memory.copies slot) ≡ true
    by_slot slot there true e = ap (λ n. is_some (copy_at a.memory.copies n)) (same_number slot p.slot e) ∙ was_there (copy_at a.memory.copies p.slot) is
    by_slot slot there false e =
        ap is_some (sym (h.0.beside slot (λ same. let both : true ≡ false = sym (number_itself p.slot) ∙ (ap (λ n. is_slot n p.slot) (sym same) ∙ e) in absurd cc))) ∙ there

place_slots : (a b : ActorState) (address width : ℕ) (new : List ℕ) (p : Option Place) → StoreWrites a address new (copy_target p (copied_bytes a.memory.copies width p)) b → KeepsSlots a b
place_slots a b address width new None h = same_slots a b h
place_slots a b address width new (Some p) h = copy_slots a b address width new p (copied_bytes a.memory.copies width (Some p)) refl h

range_slots : (a b : ActorState) (address width : ℕ) (new : List ℕ) (r : Option MemoryRange) → StoreWrites a address new (target_among a address width r) b → KeepsSlots a b
range_slots a b address width new (Some r) h = λ slot there. ap (λ cs. is_some (copy_at cs slot)) (sym h.1) ∙ there
range_slots a b address width new None h = place_slots a b address width new (slot_of address) h

store_slots : (a b : ActorState) (address width : ℕ) (new : List ℕ) (t : Bool) → StoreWrites a address new (if t then target_among a address width (range_at a.memory.ranges address width) else Elsewhere) b → KeepsSlots a b
store_slots a b address width new true h = range_slots a b address width new (range_at a.memory.ranges address width) h
store_slots a b address width new false h = same_slots a b h

load_slots : (a b : ActorState) (rd : ℕ) (s : Bool) (width : ℕ) (o : Option (List ℕ)) → LoadGives a rd s width o b → KeepsSlots a b
load_slots a b rd s width None h = same_slots a b h
load_slots a b rd s width (Some bytes) h = same_slots a b (ap (λ (x : ActorState). x.memory) h)

need_slots : (i : Image) (rd : ℕ) (a b : ActorState) (n : Need) → NeedRemembers i rd a n b → KeepsSlots a b
need_slots i rd a b (need.Load address width s) h = load_slots a b rd s width _ h
need_slots i rd a b (need.Store address width value) h = store_slots a b address width (bytes_of width value) ((address % width == 0) && not (in_text i address width)) h
need_slots i rd a b need.Done h = same_slots a b h
need_slots i rd a b need.Call h = same_slots a b h
need_slots i rd a b need.Break h = same_slots a b h
need_slots i rd a b need.JumpMisaligned h = same_slots a b h

instr_slots : (i : Image) (a b : ActorState) (o : Option Instr) → InstrRemembers i a o b → KeepsSlots a b
instr_slots i a b None h = same_slots a b h
instr_slots i a b (Some ins) h = need_slots i ins.rd a b (local ins a.hart).need h

word_slots : (i : Image) (a b : ActorState) (o : Option Instr) (n : ℕ) → WordRemembers i a o n b → KeepsSlots a b
word_slots i a b o zero h = same_slots a b h
word_slots i a b o (suc n) h = instr_slots i (record a { fuel = n }) b o h

step_granted : (i : Image) (a : ActorState) → AreOwnCopiesGranted a → AreOwnCopiesGranted (step i a)
step_granted i a own slot there =
    ap (λ (s : Sheet). grants_copy s.tags slot) (steps_step i a).sheet
    ∙ own slot (word_slots i a (step i a) (option_and_then decode (fetch i a.hart.pc)) a.fuel (step_remembers i a) slot there)

run_granted : (i : Image) (n : ℕ) (a : ActorState) (t : Bool) → is_running a.phase ≡ t → AreOwnCopiesGranted a → AreOwnCopiesGranted (run_local i n a)
run_granted i n a false e own = subst AreOwnCopiesGranted (sym (stays i n a e)) own
run_granted i zero a true e own = unfold run_local in own
run_granted i (suc n) a true e own = subst AreOwnCopiesGranted (sym (goes_on i n a e)) (run_granted i n (step i a) _ refl (step_granted i a own))

own_at_rest : (i : Image) (a : ActorState) → is_running a.phase ≡ true → AreOwnCopiesGranted a → AreOwnCopiesGranted (rest i a)
unfolding rest
own_at_rest i a e own = run_granted i (a.fuel + 1) a true e own

rest_granted : (i : Image) (a : ActorState) (t : Bool) → is_running a.phase ≡ t → HasGranted a → HasGranted (rest i a)
rest_granted i a false e h = subst HasGranted (sym (rest-stays i a e)) h
rest_granted i a true e h =
    let g = gates_at_rest i a e h.gates in
    record { own = own_at_rest i a e h.own; child = λ p is. absurd (subst IsCalm is (rests i a e).calm); making = g.making; gates = g.gates }

-- ---- an event

slot_granted : (gs : Map Grant) (m : PrivateMemory) (slot : ℕ) (r : SlotReply) (q : SlotAsk) → AreGranted gs m.copies → AreGranted gs (memory_in m slot r q).copies
slot_granted gs m slot slot_reply.Opened (slot_ask.Open tag pages) all = without_granted gs m.copies slot all
slot_granted gs m slot slot_reply.Opened (slot_ask.Close tag) all = all
slot_granted gs m slot slot_reply.Opened (slot_ask.Load width offset live) all = all
slot_granted gs m slot slot_reply.Opened (slot_ask.Store width offset value live) all = all
slot_granted gs m slot slot_reply.Opened (slot_ask.Smalloc tag size) all = all
slot_granted gs m slot slot_reply.Opened (slot_ask.Sfree offset live) all = all
slot_granted gs m slot slot_reply.Opened (slot_ask.Snap tag) all = all
slot_granted gs m slot r q all = all

memory_granted : (gs : Map Grant) (m : PrivateMemory) (e : Event) → AreGranted gs m.copies → AreGranted gs (memory_after m e).copies
memory_granted gs m (event.Lives (lives_ask.Release x) r) all = λ slot there. absurd cc
memory_granted gs m (event.Leave x) all = λ slot there. absurd cc
memory_granted gs m (event.Gate id (gate_ask.Leave x left) r) all = λ slot there. absurd cc
memory_granted gs m (event.Slot slot q r) all = slot_granted gs m slot r q all
memory_granted gs m e all = all

own_granted : (i : Image) (b : ActorState) (e : Event) → AreOwnCopiesGranted b → AreOwnCopiesGranted (takes i b e)
own_granted i b e own slot there =
    ap (λ (s : Sheet). grants_copy s.tags slot) (takes_sheet i b e)
    ∙ memory_granted b.sheet.tags b.memory e own slot (ap (λ copies. is_some (copy_at copies slot)) (sym (event_copies i b e)) ∙ there)

-- a life is claimed
claim_granted : (i : Image) (b : ActorState) (p : Preparation) → (takes i b (event.Lives lives_ask.Claim lives_reply.Claimed)).phase ≡ phase.Starting p
    → IsGranted (child_grants (takes i b (event.Lives lives_ask.Claim lives_reply.Claimed))) p
unfolding takes
claim_granted i b p is =
    let begins = prepare_copies b.sheet b.made b.memory.copies (pristine i) (copies_asked b) in
    let same : begins ≡ p = cc in
    subst (IsGranted (child_grants b)) same (prepared_granted (child_grants b) b.sheet b.made b.memory.copies (pristine i) (copies_asked b) (λ slot there. absurd cc) (grants_granted (child_grants b)))

-- a copy of a tag is made
snapped_granted : (b : ActorState) (old p : Preparation) (slot : ℕ) (o : Option (List ℕ)) → b.phase ≡ phase.Starting old → IsGranted (child_grants b) old → grants_copy (child_grants b) slot ≡ true
    → (has_snapped b b.phase slot o).phase ≡ phase.Starting p → IsGranted (child_grants b) p
snapped_granted b old p slot o at h here is =
    let goes = prepare_copies b.sheet b.made b.memory.copies (copied_from o slot old.memory) (behind_first old.left) in
    let goes_on_so : phase.Starting goes ≡ phase.Starting p = sym (ap (λ ph. (has_snapped b ph slot o).phase) at) ∙ is in
    let same : goes ≡ p = cc in
    subst (IsGranted (child_grants b)) same
    (prepared_granted (child_grants b) b.sheet b.made b.memory.copies (copied_from o slot old.memory) (behind_first old.left) (copied_granted (child_grants b) o slot old.memory h.copies here) (behind old.left h.left))
  where
    behind : (left : List CopyGrant) → AreAllGranted (child_grants b) left → AreAllGranted (child_grants b) (behind_first left)
    behind [] all = tt
    behind (g ∷ left) all = all.1

same_child : (b : ActorState) (p : Preparation) (slot : ℕ) (o : Option (List ℕ)) → b.phase ≡ phase.Starting p → child_grants (has_snapped b b.phase slot o) ≡ child_grants b
same_child b p slot o at = ap (λ ph. child_grants (has_snapped b ph slot o)) at

-- a child is prepared by the claim of a life, where none was before
by_cause : (w : WorldState) (b : ActorState) (e : Event) (p : Preparation) → (takes w.image b e).phase ≡ phase.Starting p → (e ≡ event.Lives lives_ask.Claim lives_reply.Claimed) ⊎ IsPreparing b.phase
    → (IsPreparing b.phase → ⊥) → IsGranted (child_grants (takes w.image b e)) p
by_cause w b e p is (inl claimed) before =
    subst (λ y. IsGranted (child_grants (takes w.image b y)) p) (sym claimed) (claim_granted w.image b p (ap (λ y. (takes w.image b y).phase) (sym claimed) ∙ is))
by_cause w b e p is (inr k) before = absurd (before k)

-- the copy of a tag is asked for, at the slot of a grant
snap_granted : (i : Image) (b : ActorState) (old : Preparation) (slot tag : ℕ) (g : Option Segment) → b.phase ≡ phase.Starting old → IsGranted (child_grants b) old → grants_copy (child_grants b) slot ≡ true
    → (p : Preparation) → (takes i b (event.Slot slot (slot_ask.Snap tag) (slot_reply_of g (slot_ask.Snap tag)))).phase ≡ phase.Starting p
    → IsGranted (child_grants (takes i b (event.Slot slot (slot_ask.Snap tag) (slot_reply_of g (slot_ask.Snap tag))))) p
unfolding takes
snap_granted i b old slot tag g at h here p =
    snap_cases (λ r. (takes i b (event.Slot slot (slot_ask.Snap tag) r)).phase ≡ phase.Starting p → IsGranted (child_grants (takes i b (event.Slot slot (slot_ask.Snap tag) r))) p) g tag
    (λ pages. by_pages (Some (bytes_listed pages))) (by_pages None)
  where
    by_pages : (o : Option (List ℕ)) → (has_snapped b b.phase slot o).phase ≡ phase.Starting p → IsGranted (child_grants (has_snapped b b.phase slot o)) p
    by_pages o is = subst (λ gs. IsGranted gs p) (sym (same_child b old slot o at)) (snapped_granted b old p slot o at h here is)

-- a child starts: none is prepared then
started_calm : (i : Image) (b : ActorState) (name : List ℕ) (p : Preparation) → (takes i b (event.Start name)).phase ≡ phase.Starting p → ⊥
unfolding takes
started_calm i b name p is = cc

-- whatever happens, a child that is prepared then has its copies granted
event_granted : (w : WorldState) (b : ActorState) (e : Event) → Happens w b e → HasGranted b → (p : Preparation) → (takes w.image b e).phase ≡ phase.Starting p → IsGranted (child_grants (takes w.image b e)) p
event_granted w b e (Snaps s) h p is =
    let child = h.child s.preparation s.at in
    let here = (subst (AreAllGranted (child_grants b)) s.left child.left).0 in
    subst (λ y. (takes w.image b y).phase ≡ phase.Starting p → IsGranted (child_grants (takes w.image b y)) p) (sym s.is)
    (snap_granted w.image b s.preparation s.grant.slot s.grant.tag (slot_in w.cells s.grant.slot) s.at child here p) is
event_granted w b e (Started s) h p is = absurd (started_calm w.image b (child_name b.name (next_start b)) p (ap (λ y. (takes w.image b y).phase) (sym s.is) ∙ is))
event_granted w b e (Requested r) h p is = by_cause w b e p is (was_preparing w.image b e (subst IsPreparing (sym is) tt)) (λ k. subst IsPreparing r.at k)
event_granted w b e (Joined j) h p is = by_cause w b e p is (was_preparing w.image b e (subst IsPreparing (sym is) tt)) (λ k. subst IsPreparing j.at k)
event_granted w b e (GateSnaps s) h p is = by_cause w b e p is (was_preparing w.image b e (subst IsPreparing (sym is) tt)) (λ k. subst IsPreparing s.at k)
event_granted w b e (Opens o) h p is = by_cause w b e p is (was_preparing w.image b e (subst IsPreparing (sym is) tt)) (λ k. subst IsPreparing o.at k)
event_granted w b e (Releases r) h p is = by_cause w b e p is (was_preparing w.image b e (subst IsPreparing (sym is) tt)) (λ k. subst IsPreparing r.at k)
event_granted w b e (Numbers n) h p is = by_cause w b e p is (was_preparing w.image b e (subst IsPreparing (sym is) tt)) (λ k. subst IsPreparing n.at k)
event_granted w b e (OpensFile f) h p is = by_cause w b e p is (was_preparing w.image b e (subst IsPreparing (sym is) tt)) (λ k. subst IsPreparing f.at k)
event_granted w b e (LastJoined j) h p is = by_cause w b e p is (was_preparing w.image b e (subst IsPreparing (sym is) tt)) (λ k. subst IsPreparing j.at k)
event_granted w b e (Ended f) h p is = by_cause w b e p is (was_preparing w.image b e (subst IsPreparing (sym is) tt)) (λ k. subst IsPreparing f.at k)
event_granted w b e (EntersGate x) h p is = by_cause w b e p is (was_preparing w.image b e (subst IsPreparing (sym is) tt)) (λ k. subst IsPreparing x.at k)
event_granted w b e (EntersRecycled x) h p is = by_cause w b e p is (was_preparing w.image b e (subst IsPreparing (sym is) tt)) (λ k. subst IsPreparing x.at k)
event_granted w b e (LeavesGate l) h p is = by_cause w b e p is (was_preparing w.image b e (subst IsPreparing (sym is) tt)) (λ k. subst IsPreparing l.at k)
event_granted w b e (LeavesRecycled l) h p is = by_cause w b e p is (was_preparing w.image b e (subst IsPreparing (sym is) tt)) (λ k. subst IsPreparing l.at k)

doer_granted : (w : WorldState) (b : ActorState) (e : Event) → Happens w b e → HasGranted b → HasGranted (takes w.image b e)
doer_granted w b e happens h =
    let g = event_gates_granted w b e happens (record { making = h.making; gates = h.gates }) in
    record { own = own_granted w.image b e h.own; child = event_granted w b e happens h; making = g.making; gates = g.gates }

-- a child begins with the memory that was made for it
child_granted : (i : Image) (b : ActorState) (name : List ℕ) (p : Preparation) → b.phase ≡ phase.Starting p → HasGranted b → HasGranted (child_of i b name)
child_granted i b name p at h = record {
  own = λ slot there. (h.child p at).copies slot (ap (λ ph. is_some (copy_at (memory_made i ph).copies slot)) (sym at) ∙ there);
  child = λ q is. absurd cc;
  making = λ q is. absurd cc;
  gates = h.gates;
}

-- the memory with which the run of a gate begins has the copies alone that the gate's sheet grants
memory_so : (w : WorldState) (b : ActorState) (g : Gate) → AreGateCopiesGranted g → gate_named b.gates g.id ≡ Some g → actor_named (put_actor w.actors b) b.name ≡ Some b
    → AreHeld (put_actor w.actors b) → AreRunsAlone w.cells (put_actor w.actors b) → AreGranted g.sheet.tags (memory_for w.cells g).copies
memory_so w b g own known there held alone = by_kept (kept_in w.cells g.id).kept refl
  where
    by_kept : (o : Option PrivateMemory) → (kept_in w.cells g.id).kept ≡ o → AreGranted g.sheet.tags (unwrap_or o g.memory).copies
    by_kept None is = own
    by_kept (Some m) is =
        let k = alone.kept g.id m is in
        let one : k.gate ≡ g = one_gate (put_actor w.actors b) held k.name b.name k.actor b g.id k.gate g k.there there k.known known in
        subst (λ (x : Gate). AreGranted x.sheet.tags m.copies) one k.granted

-- so the run of a gate begins with copies that its sheet grants
run_of_granted : (w : WorldState) (b : ActorState) (e : Event) (x : IsEntry w b e) (name : List ℕ) → actor_named (put_actor w.actors b) b.name ≡ Some b → AreHeld (put_actor w.actors b) → AreRunsAlone w.cells (put_actor w.actors b)
    → HasGranted b → HasGranted (run_by b name x.kept x.entrance)
run_of_granted w b e x name there held alone h = record {
  own = λ slot here.
      ap (λ (s : Sheet). grants_copy s.tags slot) x.may.sheet
      ∙ grants_lent x.entrance.gate.sheet (sheet_lent b x.may.lent) slot (elim x.brought [
        | inl none ↦ gates_own slot (ap (λ o. is_some (copy_at (unwrap_or o x.entrance.gate.memory).copies slot)) (sym none) ∙ here)
        | inr some ↦ memory_so w b x.entrance.gate gates_own (entered_known w b e x) there held alone slot (ap (λ o. is_some (copy_at (unwrap_or o x.entrance.gate.memory).copies slot)) (sym some) ∙ here)
      ]);
  child = λ p is. absurd cc;
  making = λ p is. absurd cc;
  gates = h.gates;
}
  where
    gates_own : AreGateCopiesGranted x.entrance.gate
    gates_own = each_entered AreGateCopiesGranted b (a0 b) x.entrance.gate h.gates x.may.held

begins_granted : (w : WorldState) (b : ActorState) (e : Event) → Acts w b e → actor_named (put_actor w.actors b) b.name ≡ Some b → AreHeld (put_actor w.actors b) → AreRunsAlone w.cells (put_actor w.actors b) → HasGranted b → (c : ActorState) → actor_begun w.image b e ≡ Some c → HasGranted c
begins_granted w b e (ActsAlone one) there held alone h c is = let f : None ≡ Some c = sym (one_begins w.image b e one) ∙ is in absurd cc
begins_granted w b e (Starts s) there held alone h c is =
    let both : Some (child_of w.image b (child_name b.name (next_start b))) ≡ Some c = sym (ap (actor_begun w.image b) s.is) ∙ is in
    let same_one : child_of w.image b (child_name b.name (next_start b)) ≡ c = cc in
    subst HasGranted same_one (child_granted w.image b (child_name b.name (next_start b)) s.preparation s.at h)
begins_granted w b e (Enters x) there held alone h c is =
    let run = run_by b (child_name b.name (next_start b)) x.kept x.entrance in
    let both : Some run ≡ Some c = sym x.begins ∙ is in
    let same_one : run ≡ c = cc in
    subst HasGranted same_one (run_of_granted w b e x (child_name b.name (next_start b)) there held alone h)
begins_granted w b e (Joins k listed j) there held alone h c is = let f : None ≡ Some c = sym (ap (actor_begun w.image b) j.is) ∙ is in absurd cc

-- ---- runs

abbrev pub AllGranted : WorldState → Type 0
AllGranted w = (m : List ℕ) (a : ActorState) → actor_named w.actors m ≡ Some a → HasGranted a

put_granted : (w : WorldState) (a x : ActorState) → AllGranted w → IsPut w.actors a x → HasGranted x → (m : List ℕ) (y : ActorState) → FoundPut w.actors a x m y → HasGranted y
put_granted w a x all put doer m y (IsDoer is f) = subst HasGranted (sym f) doer
put_granted w a x all put doer m y (IsOther apart f) = all m y f

begun_granted : (w : WorldState) (a x : ActorState) → AllGranted w → IsPut w.actors a x → HasGranted x → (o : Option ActorState) → ((c : ActorState) → o ≡ Some c → HasGranted c) → (m : List ℕ) (y : ActorState)
    → actor_named (with_begun (put_actor w.actors x) o) m ≡ Some y → HasGranted y
begun_granted w a x all put doer None child m y found = put_granted w a x all put doer m y (find_put w.actors a x m y put found)
begun_granted w a x all put doer (Some c) child m y found = elim (found_or_last (put_actor w.actors x) c m y found) [
  | inl f ↦ put_granted w a x all put doer m y (find_put w.actors a x m y put f)
  | inr is ↦ subst HasGranted (sym is) (child c refl)
]

-- an actor that goes on has the copies that it had
resumed_granted : (w : WorldState) (a : ActorState) → AllGranted w → actor_named w.actors a.name ≡ Some a → AllGranted (resumed w a)
resumed_granted w a all there m y found =
    let h = all a.name a there in
    let put : IsPut w.actors a (ready w.actors a) = record { name = ready_name w.actors a; there = there } in
    let goes = ready_is HasGranted w.actors a h (λ k e fuel. record { own = h.own; child = λ p is. absurd cc; making = λ p is. absurd cc; gates = h.gates }) in
    put_granted w a (ready w.actors a) all put goes m y (find_put w.actors a (ready w.actors a) m y put found)

pub rested_granted : (w : WorldState) (name : List ℕ) (e : Event) (new : WorldState) (p : Turned w name e new) → AllGranted w → HasGranted (rest w.image p.parts.actor)
rested_granted w name e new p all =
    let v = resumed w p.actor in
    let a = p.parts.actor in
    let goes = resumed_granted w p.actor all (turned_there w name p.actor p.named) in
    rest_granted w.image a _ refl (goes a.name a (turned_there v name a p.parts.named))

turn_granted : (w : WorldState) (name : List ℕ) (e : Event) (new : WorldState) → AllReady w → AllGranted w → AreHeld w.actors → AreRunsAlone w.cells w.actors → (p : Turned w name e new) → AllGranted new
turn_granted w name e new all_ready all held alone p =
    let v = resumed w p.actor in
    let a = p.parts.actor in
    let b = rest w.image a in
    let h = turn_happens w name e new all_ready p in
    let goes = resumed_granted w p.actor all (turned_there w name p.actor p.named) in
    let there = turned_there v name a p.parts.named in
    let put : IsPut v.actors a (takes w.image b e) = record { name = takes_name w.image b e ∙ rest-name w.image a; there = there } in
    let rested = rested_granted w name e new p all in
    let rests_so : IsPut v.actors a b = record { name = rest-name w.image a; there = there } in
    let found : actor_named (put_actor v.actors b) b.name ≡ Some b = ap (actor_named (put_actor v.actors b)) (rest-name w.image a) ∙ found_put v.actors a b rests_so in
    let held_so = rest_held v a there (resumed_held w p.actor (turned_there w name p.actor p.named) held) in
    let alone_so = rested_alone v a there (resumed_alone w p.actor (turned_there w name p.actor p.named) alone) in
    subst AllGranted (sym p.parts.new_is) (begun_granted v a (takes w.image b e) goes put (doer_granted v b e h rested) (actor_begun w.image b e) (begins_granted v b e (acts v b e h) found held_so alone_so rested))

opening_granted : (i : Image) → AllGranted (initial_state i)
opening_granted i m y found = by_name (same root_name m) (opening_found m y found)
  where
    root_granted : HasGranted (root i)
    root_granted = unfold root in record {
      own = declared_granted (root_tags 0 i.tags) [] 0 i.tags (λ slot there. absurd cc) (λ slot e. e);
      child = λ p is. absurd cc;
      making = λ p is. absurd cc;
      gates = tt;
    }

    by_name : (t : Bool) {z : ActorState} → (if t then Some (root i) else None) ≡ Some z → HasGranted z
    by_name true e = let is : root i ≡ _ = cc in subst HasGranted is root_granted
    by_name false e = absurd cc

    opening_found : (n : List ℕ) (z : ActorState) → actor_named (initial_state i).actors n ≡ Some z → (if same root_name n then Some (root i) else None) ≡ Some z
    opening_found n z e = unfold root in e

-- what a turn keeps: each actor has its copies granted, knows its gates, and is alone in a recycled gate
pub record AllKept (w : WorldState) : Type 0 where
  pub granted : AllGranted w
  pub family : Family w.actors
  pub held : AreHeld w.actors
  pub alone : AreRunsAlone w.cells w.actors

pub turn_kept : (w : WorldState) (name : List ℕ) (e : Event) (new : WorldState) → AllReady w → AllKept w → turn_of w name ≡ Some (record { event = e; world = new }) → AllKept new
turn_kept w name e new all k t =
    let p = turn_from w name e new t in
    record {
      granted = turn_granted w name e new all k.granted k.held k.alone p;
      family = turn_family w name e new all k.family t;
      held = turn_held w name e new all k.held t;
      alone = turn_alone w name e new all k.family p (rested_granted w name e new p k.granted).own k.alone;
    }

runs_kept : (old : WorldState) (turns : List Turn) (new : WorldState) → AllReady old → AllKept old → Runs old turns new → AllKept new
runs_kept old [] new all k run = subst AllKept (sym run) k
runs_kept old (t ∷ ts) new all k run = runs_kept run.0 ts new (turn_ready old t.actor t.event run.0 all run.1) (turn_kept old t.actor t.event run.0 all k run.1) run.2

pub opening_kept : (i : Image) → AllKept (initial_state i)
opening_kept i = record { granted = opening_granted i; family = opening_family i; held = opening_held i; alone = opening_alone i }

run_kept : (i : Image) (turns : List Turn) (new : WorldState) → Runs (initial_state i) turns new → AllKept new
run_kept i turns new run = runs_kept (initial_state i) turns new (opening_ready i) (opening_kept i) run

pub copies_granted : CopiesAreGranted
copies_granted i turns new run name a named = let h = (run_kept i turns new run).granted name a named in record { own = h.own; gates = h.gates }

pub runs_alone : RunsAreAlone
runs_alone i turns new run = (run_kept i turns new run).alone
