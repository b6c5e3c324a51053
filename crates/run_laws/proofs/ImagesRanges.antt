-- In every run every private memory has the ranges of the image.
use Rattle.std.proofs.Common.{◌≡◌, inl, inr, ℕ, Bool, true, false, List, [], ◌∷◌, refl, sym, ap, subst, ◌∙◌}
use Rattle.std.specs.Prelude.{Option, Some, None, if◌then◌else◌, unwrap_or}
use Rattle.cow_pages.specs.Listed.{bytes_listed}
use Rattle.cow_pages.specs.PrivateMemory.{PrivateMemory}
use Rattle.callgate.specs.declared.gate.Gate.{Gate}
use Rattle.wedge_base.specs.Identities.{same_gate}
use Rattle.wedge_base.specs.Images.{Image}
use Rattle.wedge_base.specs.Names.{same, root_name}
use Rattle.wedge_base.specs.declared.grants.GateId.{GateId}
use Rattle.wedge_events.specs.Gates.{Kept}
use Rattle.wedge_events.specs.Slots.{Segment, slot_reply as slot_reply_of}
use Rattle.wedge_events.specs.declared.cells.GateAsk.TheVariants as gate_ask
use Rattle.wedge_events.specs.declared.cells.GateReply.TheVariants as gate_reply
use Rattle.wedge_events.specs.declared.cells.LivesAsk.TheVariants as lives_ask
use Rattle.wedge_events.specs.declared.cells.LivesReply.TheVariants as lives_reply
use Rattle.wedge_events.specs.declared.cells.SlotAsk.TheVariants as slot_ask
use Rattle.wedge_events.specs.declared.events.Event.{Event}
use Rattle.wedge_events.specs.declared.events.Event.TheVariants as event
use Rattle.wedge_events.specs.declared.events.Turn.{Turn}
use Rattle.machine.specs.declared.phase.Phase.TheVariants as phase
use Rattle.machine.specs.Actors.{ActorState, pristine, root}
use Rattle.machine.specs.Calls.{a0}
use Rattle.machine.specs.Children.{child_name}
use Rattle.machine.specs.Local.{has_ended, is_running, rest}
use Rattle.machine.specs.Preparation.{Preparation, copied_from, prepare_copies, behind_first}
use Rattle.machine.specs.Take.{copies_asked, has_snapped, next_start, takes, memory_made, child_of, run_by, actor_begun}
use Rattle.machine.specs.Cells.{kept_in, cells_after, slot_in}
use Rattle.run_laws.specs.Laws.{RangesAreKept}
use Rattle.run_laws.specs.MemoryRanges.{HasImagesRanges, GateHasRanges, HasRanges, KeepsRanges}
use Rattle.machine.specs.Worlds.{WorldState, initial_state, actor_named, put_actor, with_begun, turn_of, ready, resumed, Runs}
use Rattle.run_laws.proofs.Between.{IsPreparing, takes_name}
use Rattle.run_laws.proofs.Bounding.{run_image}
use Rattle.run_laws.proofs.CellChanging.{gate_changes}
use Rattle.run_laws.proofs.FamilyRuns.{Acts, ActsAlone, Starts, Enters, Joins, acts, one_begins, lives}
use Rattle.run_laws.proofs.GateRanges.{ranges_so, copied_same, prepared_same, rest_gates, event_gates}
use Rattle.run_laws.proofs.GateRuns.{each_entered, IsEntry}
use Rattle.run_laws.proofs.Happening.{Happens, snap_cases, Requested, Joined, Snaps, GateSnaps, Started, Opens, Releases, Numbers, OpensFile, LastJoined, Ended, EntersGate, LeavesGate, EntersRecycled, LeavesRecycled, memory_for}
use Rattle.run_laws.proofs.KeepingRanges.{rest_extents, event_extents}
use Rattle.run_laws.proofs.Mediating.{reached}
use Rattle.run_laws.proofs.Preparing.{was_preparing}
use Rattle.run_laws.proofs.RecycledRuns.{GateStep, Passes, Ends, EntersIt, LeavesIt, gate_step}
use Rattle.run_laws.proofs.Settling.{AllReady, turn_happens, turn_ready, opening_ready, turned_there}
use Rattle.run_laws.proofs.Trees.{IsPut, IsDoer, IsOther, find_put, found_or_last}
use Rattle.run_laws.proofs.Turns.{Readies, Stays, Back, readies, ready_name, turn_from, Turned}
use Rattle.machine.proofs.Resting.{IsCalm, rests, rest-stays, rest-name, rest-ended}

-- ---- an actor comes to rest

child_at_rest : (i : Image) (a : ActorState) (t : Bool) → is_running a.phase ≡ t → HasRanges i a → (p : Preparation) → (rest i a).phase ≡ phase.Starting p → HasImagesRanges i p.memory
child_at_rest i a true e h p is = absurd (subst IsCalm is (rests i a e).calm)
child_at_rest i a false e h p is = h.child p (sym (ap (λ (x : ActorState). x.phase) (rest-stays i a e)) ∙ is)

rest_ranges : (i : Image) (a : ActorState) → HasRanges i a → HasRanges i (rest i a)
rest_ranges i a h =
    let g = rest_gates i a (record { making = h.making; gates = h.gates }) in
    record { own = λ live. rest_extents i a ∙ h.own (sym (rest-ended i a) ∙ live); child = child_at_rest i a _ refl h; making = g.making; gates = g.gates }

-- ---- a child is prepared: from the claim of a life on, with the copy of one tag after another

claim_ranges : (i : Image) (b : ActorState) (p : Preparation) → (takes i b (event.Lives lives_ask.Claim lives_reply.Claimed)).phase ≡ phase.Starting p → HasImagesRanges i p.memory
unfolding takes
claim_ranges i b p is =
    let begins = prepare_copies b.sheet b.made b.memory.copies (pristine i) (copies_asked b) in
    let one : begins ≡ p = cc in
    subst (λ (y : Preparation). HasImagesRanges i y.memory) one (ranges_so i (pristine i) begins.memory (prepared_same b.sheet b.made b.memory.copies (pristine i) (copies_asked b)) refl)

snapped_ranges : (i : Image) (b : ActorState) (old p : Preparation) (slot : ℕ) (o : Option (List ℕ)) → b.phase ≡ phase.Starting old → HasImagesRanges i old.memory
    → (has_snapped b b.phase slot o).phase ≡ phase.Starting p → HasImagesRanges i p.memory
snapped_ranges i b old p slot o at h is =
    let copied = copied_from o slot old.memory in
    let goes = prepare_copies b.sheet b.made b.memory.copies copied (behind_first old.left) in
    let both : phase.Starting goes ≡ phase.Starting p = sym (ap (λ ph. (has_snapped b ph slot o).phase) at) ∙ is in
    let one : goes ≡ p = cc in
    let same_ranges = prepared_same b.sheet b.made b.memory.copies copied (behind_first old.left) ∙ copied_same o slot old.memory in
    subst (λ (y : Preparation). HasImagesRanges i y.memory) one (ranges_so i old.memory goes.memory same_ranges h)

snap_ranges : (i : Image) (b : ActorState) (old : Preparation) (slot tag : ℕ) (g : Option Segment) → b.phase ≡ phase.Starting old → HasImagesRanges i old.memory
    → (p : Preparation) → (takes i b (event.Slot slot (slot_ask.Snap tag) (slot_reply_of g (slot_ask.Snap tag)))).phase ≡ phase.Starting p → HasImagesRanges i p.memory
unfolding takes
snap_ranges i b old slot tag g at h p =
    snap_cases (λ r. (takes i b (event.Slot slot (slot_ask.Snap tag) r)).phase ≡ phase.Starting p → HasImagesRanges i p.memory) g tag
    (λ pages. snapped_ranges i b old p slot (Some (bytes_listed pages)) at h) (snapped_ranges i b old p slot None at h)

-- a child starts: none is prepared then
started_calm : (i : Image) (b : ActorState) (name : List ℕ) (p : Preparation) → (takes i b (event.Start name)).phase ≡ phase.Starting p → ⊥
unfolding takes
started_calm i b name p is = cc

prepares_on : (w : WorldState) (b : ActorState) (e : Event) → Happens w b e → HasRanges w.image b → (p : Preparation) → (takes w.image b e).phase ≡ phase.Starting p → IsPreparing b.phase → HasImagesRanges w.image p.memory
prepares_on w b e (Snaps s) h p is k =
    snap_ranges w.image b s.preparation s.grant.slot s.grant.tag (slot_in w.cells s.grant.slot) s.at (h.child s.preparation s.at) p (ap (λ y. (takes w.image b y).phase) (sym s.is) ∙ is)
prepares_on w b e (Started s) h p is k = absurd (started_calm w.image b (child_name b.name (next_start b)) p (ap (λ y. (takes w.image b y).phase) (sym s.is) ∙ is))
prepares_on w b e (Requested r) h p is k = absurd (subst IsPreparing r.at k)
prepares_on w b e (Joined j) h p is k = absurd (subst IsPreparing j.at k)
prepares_on w b e (GateSnaps s) h p is k = absurd (subst IsPreparing s.at k)
prepares_on w b e (Opens o) h p is k = absurd (subst IsPreparing o.at k)
prepares_on w b e (Releases r) h p is k = absurd (subst IsPreparing r.at k)
prepares_on w b e (Numbers n) h p is k = absurd (subst IsPreparing n.at k)
prepares_on w b e (OpensFile f) h p is k = absurd (subst IsPreparing f.at k)
prepares_on w b e (LastJoined j) h p is k = absurd (subst IsPreparing j.at k)
prepares_on w b e (Ended f) h p is k = absurd (subst IsPreparing f.at k)
prepares_on w b e (EntersGate x) h p is k = absurd (subst IsPreparing x.at k)
prepares_on w b e (EntersRecycled x) h p is k = absurd (subst IsPreparing x.at k)
prepares_on w b e (LeavesGate l) h p is k = absurd (subst IsPreparing l.at k)
prepares_on w b e (LeavesRecycled l) h p is k = absurd (subst IsPreparing l.at k)

child_after : (w : WorldState) (b : ActorState) (e : Event) → Happens w b e → HasRanges w.image b → (p : Preparation) → (takes w.image b e).phase ≡ phase.Starting p → HasImagesRanges w.image p.memory
child_after w b e happens h p is = elim (was_preparing w.image b e (subst IsPreparing (sym is) tt)) [
  | inl claimed ↦ claim_ranges w.image b p (ap (λ y. (takes w.image b y).phase) (sym claimed) ∙ is)
  | inr before ↦ prepares_on w b e happens h p is before
]

-- ---- an event, and the actor that begins by it

doer_ranges : (w : WorldState) (b : ActorState) (e : Event) → Happens w b e → HasRanges w.image b → HasRanges w.image (takes w.image b e)
doer_ranges w b e happens h =
    let g = event_gates w b e happens (record { making = h.making; gates = h.gates }) in
    record {
      own = λ live. event_extents w.image b e (sym (reached w.image b e) ∙ live) ∙ h.own (lives w b e happens);
      child = child_after w b e happens h;
      making = g.making;
      gates = g.gates;
    }

child_ranges : (i : Image) (b : ActorState) (name : List ℕ) (p : Preparation) → b.phase ≡ phase.Starting p → HasRanges i b → HasRanges i (child_of i b name)
child_ranges i b name p at h = record {
  own = λ live. subst (λ ph. HasImagesRanges i (memory_made i ph)) (sym at) (h.child p at);
  child = λ q is. absurd cc;
  making = λ q is. absurd cc;
  gates = h.gates;
}

abbrev KeptSo : WorldState → Type 0
KeptSo w = (id : GateId) (m : PrivateMemory) → (kept_in w.cells id).kept ≡ Some m → HasImagesRanges w.image m

memory_ranges : (w : WorldState) (g : Gate) → KeptSo w → GateHasRanges w.image g → HasImagesRanges w.image (memory_for w.cells g)
memory_ranges w g kept own = by_kept (kept_in w.cells g.id).kept refl
  where
    by_kept : (o : Option PrivateMemory) → (kept_in w.cells g.id).kept ≡ o → HasImagesRanges w.image (unwrap_or o g.memory)
    by_kept None is = own
    by_kept (Some m) is = kept g.id m is

run_ranges : (w : WorldState) (b : ActorState) (e : Event) (x : IsEntry w b e) (name : List ℕ) → KeptSo w → HasRanges w.image b → HasRanges w.image (run_by b name x.kept x.entrance)
run_ranges w b e x name kept h = record {
  own = λ live. elim x.brought [
    | inl none ↦ subst (λ o. HasImagesRanges w.image (unwrap_or o x.entrance.gate.memory)) (sym none) gates_own
    | inr some ↦ subst (λ o. HasImagesRanges w.image (unwrap_or o x.entrance.gate.memory)) (sym some) (memory_ranges w x.entrance.gate kept gates_own)
  ];
  child = λ p is. absurd cc;
  making = λ p is. absurd cc;
  gates = h.gates;
}
  where
    gates_own : GateHasRanges w.image x.entrance.gate
    gates_own = each_entered (GateHasRanges w.image) b (a0 b) x.entrance.gate h.gates x.may.held

begins_ranges : (w : WorldState) (b : ActorState) (e : Event) → Acts w b e → KeptSo w → HasRanges w.image b → (c : ActorState) → actor_begun w.image b e ≡ Some c → HasRanges w.image c
begins_ranges w b e (ActsAlone one) kept h c is = let f : None ≡ Some c = sym (one_begins w.image b e one) ∙ is in absurd cc
begins_ranges w b e (Starts s) kept h c is =
    let both : Some (child_of w.image b (child_name b.name (next_start b))) ≡ Some c = sym (ap (actor_begun w.image b) s.is) ∙ is in
    let same_one : child_of w.image b (child_name b.name (next_start b)) ≡ c = cc in
    subst (HasRanges w.image) same_one (child_ranges w.image b (child_name b.name (next_start b)) s.preparation s.at h)
begins_ranges w b e (Enters x) kept h c is =
    let run = run_by b (child_name b.name (next_start b)) x.kept x.entrance in
    let both : Some run ≡ Some c = sym x.begins ∙ is in
    let same_one : run ≡ c = cc in
    subst (HasRanges w.image) same_one (run_ranges w b e x (child_name b.name (next_start b)) kept h)
begins_ranges w b e (Joins k listed j) kept h c is = let f : None ≡ Some c = sym (ap (actor_begun w.image b) j.is) ∙ is in absurd cc

-- ---- what recycled gates keep: the memory of the run that left is that of an actor that lives

kept_after : (w : WorldState) (b : ActorState) (e : Event) → GateStep w b e → KeptSo w → HasImagesRanges w.image b.memory
    → (id : GateId) (m : PrivateMemory) → (kept_in (cells_after w.cells e) id).kept ≡ Some m → HasImagesRanges w.image m
kept_after w b e (Passes same_kept goes out) kept own id m is = kept id m (ap (λ (k : Kept). k.kept) (sym (same_kept id)) ∙ is)
kept_after w b e (Ends same_kept ends none out) kept own id m is = kept id m (ap (λ (k : Kept). k.kept) (sym (same_kept id)) ∙ is)
kept_after w b e (EntersIt y) kept own id m is =
    let changes = gate_changes w.cells y.entrance.gate.id (gate_ask.Enter (child_name b.name (next_start b)) y.entrance.gate.memory) (gate_reply.Entered (memory_for w.cells y.entrance.gate)) in
    by_id (same_gate y.entrance.gate.id id) (ap (λ (k : Kept). k.kept) (sym (ap (λ z. kept_in (cells_after w.cells z) id) y.is ∙ changes.gates id)) ∙ is)
  where
    by_id : (t : Bool) → (if t then record { entered = true; kept = None } else kept_in w.cells id).kept ≡ Some m → HasImagesRanges w.image m
    by_id true k = absurd cc
    by_id false k = kept id m k
kept_after w b e (LeavesIt l) kept own id m is =
    let changes = gate_changes w.cells l.gate.id (gate_ask.Leave l.end_ b.memory) gate_reply.Left in
    by_id (same_gate l.gate.id id) (ap (λ (k : Kept). k.kept) (sym (ap (λ z. kept_in (cells_after w.cells z) id) l.is ∙ changes.gates id)) ∙ is)
  where
    by_id : (t : Bool) → (if t then record { entered = false; kept = Some b.memory } else kept_in w.cells id).kept ≡ Some m → HasImagesRanges w.image m
    by_id true k = let one : b.memory ≡ m = cc in subst (HasImagesRanges w.image) one own
    by_id false k = kept id m k

-- ---- turns and runs

abbrev pub AllRanges : WorldState → Type 0
AllRanges w = KeepsRanges w.image w.cells w.actors

abbrev EachRanges : Image → List ActorState → Type 0
EachRanges i actors = (m : List ℕ) (a : ActorState) → actor_named actors m ≡ Some a → HasRanges i a

put_ranges : (i : Image) (actors : List ActorState) (a x : ActorState) → EachRanges i actors → IsPut actors a x → HasRanges i x → EachRanges i (put_actor actors x)
put_ranges i actors a x all put doer m y found = elim (find_put actors a x m y put found) [
  | IsDoer is one ↦ subst (HasRanges i) (sym one) doer
  | IsOther apart was ↦ all m y was
]

begun_ranges : (i : Image) (actors : List ActorState) (o : Option ActorState) → EachRanges i actors → ((c : ActorState) → o ≡ Some c → HasRanges i c) → EachRanges i (with_begun actors o)
begun_ranges i actors None all begins m y found = all m y found
begun_ranges i actors (Some c) all begins m y found = elim (found_or_last actors c m y found) [
  | inl was ↦ all m y was
  | inr one ↦ subst (HasRanges i) (sym one) (begins c refl)
]

-- an actor that goes on has the memory that it had
ready_ranges : (i : Image) (actors : List ActorState) (a : ActorState) → HasRanges i a → HasRanges i (ready actors a)
ready_ranges i actors a h = by_case (readies actors a)
  where
    by_case : Readies actors a → HasRanges i (ready actors a)
    by_case (Stays is) = subst (HasRanges i) (sym is) h
    by_case (Back k at r is) = subst (HasRanges i) (sym is) (record { own = λ live. h.own (ap has_ended at); child = λ p was. absurd cc; making = λ p was. absurd cc; gates = h.gates })

resumed_ranges : (w : WorldState) (a : ActorState) → actor_named w.actors a.name ≡ Some a → EachRanges w.image w.actors → EachRanges w.image (resumed w a).actors
resumed_ranges w a there all = put_ranges w.image w.actors a (ready w.actors a) all (record { name = ready_name w.actors a; there = there }) (ready_ranges w.image w.actors a (all a.name a there))

-- whoever has the turn has them as it rests
pub rested_ranges : (w : WorldState) (name : List ℕ) (e : Event) (new : WorldState) (p : Turned w name e new) → AllRanges w → HasRanges w.image (rest w.image p.parts.actor)
rested_ranges w name e new p h =
    let v = resumed w p.actor in
    let a = p.parts.actor in
    rest_ranges w.image a (resumed_ranges w p.actor (turned_there w name p.actor p.named) h.each a.name a (turned_there v name a p.parts.named))

pub turn_ranges : (w : WorldState) (name : List ℕ) (e : Event) (new : WorldState) → AllReady w → AllRanges w → turn_of w name ≡ Some (record { event = e; world = new }) → AllRanges new
turn_ranges w name e new all h t =
    let p = turn_from w name e new t in
    let v = resumed w p.actor in
    let a = p.parts.actor in
    let b = rest w.image a in
    let x = takes w.image b e in
    let happens = turn_happens w name e new all p in
    let goes = resumed_ranges w p.actor (turned_there w name p.actor p.named) h.each in
    let put : IsPut v.actors a x = record { name = takes_name w.image b e ∙ rest-name w.image a; there = turned_there v name a p.parts.named } in
    let rested = rested_ranges w name e new p h in
    let after = put_ranges w.image v.actors a x goes put (doer_ranges v b e happens rested) in
    let begun = begun_ranges w.image (put_actor v.actors x) (actor_begun w.image b e) after (begins_ranges v b e (acts v b e happens) h.kept rested) in
    let kept = kept_after v b e (gate_step v b e happens) h.kept (rested.own (lives v b e happens)) in
    let stays : KeepsRanges w.image (cells_after w.cells e) (with_begun (put_actor v.actors x) (actor_begun w.image b e)) = record { each = begun; kept = kept } in
    subst AllRanges (sym p.parts.new_is) stays

pub opening_ranges : (i : Image) → AllRanges (initial_state i)
unfolding root
opening_ranges i = record { each = λ m y found. by_name m y (same root_name m) found; kept = λ id m is. absurd cc }
  where
    root_ranges : HasRanges i (root i)
    root_ranges = record { own = λ live. refl; child = λ p is. absurd cc; making = λ p is. absurd cc; gates = tt }

    by_name : (m : List ℕ) (y : ActorState) (t : Bool) → (if t then Some (root i) else None) ≡ Some y → HasRanges i y
    by_name m y true is = let one : root i ≡ y = cc in subst (HasRanges i) one root_ranges
    by_name m y false is = absurd cc

runs_ranges : (old : WorldState) (turns : List Turn) (new : WorldState) → AllReady old → AllRanges old → Runs old turns new → AllRanges new
runs_ranges old [] new all h run = subst AllRanges (sym run) h
runs_ranges old (t ∷ ts) new all h run = runs_ranges run.0 ts new (turn_ready old t.actor t.event run.0 all run.1) (turn_ranges old t.actor t.event run.0 all h run.1) run.2

pub ranges_kept : RangesAreKept
ranges_kept i turns new run =
    subst (λ j. KeepsRanges j new.cells new.actors) (run_image (initial_state i) turns new run)
    (runs_ranges (initial_state i) turns new (opening_ready i) (opening_ranges i) run)
