-- In every run the compartment of each actor is a procedure, and so is the entry of each gate that an actor knows.
use Rattle.std.proofs.Common.{◌≡◌, inl, inr, ℕ, zero, suc, ◌+◌, Bool, true, false, List, [], ◌∷◌, ◌++◌, refl, sym, ap, subst, ◌∙◌}
use Rattle.std.specs.List.{AllByRecursion}
use Rattle.std.specs.Prelude.{Option, Some, None, IfSome, option_map, if◌then◌else◌}
use Rattle.callgate.specs.declared.gate.Gate.{Gate}
use Rattle.cow_pages.specs.Listed.{bytes_listed}
use Rattle.cow_pages.specs.PrivateMemory.{PrivateMemory}
use Rattle.wedge_base.specs.Images.{Image}
use Rattle.wedge_base.specs.Names.{same, root_name}
use Rattle.wedge_base.specs.Sheets.{Draft}
use Rattle.wedge_base.specs.declared.rights.Denial.{Denial}
use Rattle.wedge_events.specs.Slots.{Segment, slot_reply as slot_reply_of}
use Rattle.wedge_events.specs.declared.cells.LivesAsk.TheVariants as lives_ask
use Rattle.wedge_events.specs.declared.cells.LivesReply.TheVariants as lives_reply
use Rattle.wedge_events.specs.declared.cells.SlotAsk.TheVariants as slot_ask
use Rattle.wedge_events.specs.declared.events.Event.{Event}
use Rattle.wedge_events.specs.declared.events.Event.TheVariants as event
use Rattle.wedge_events.specs.declared.events.Want.{Want}
use Rattle.wedge_events.specs.declared.events.Want.TheVariants as want
use Rattle.image_form.specs.Rules.{IsImage}
use Rattle.machine.specs.declared.copy_grant.CopyGrant.{CopyGrant}
use Rattle.machine.specs.declared.phase.Phase.{Phase}
use Rattle.machine.specs.declared.phase.Phase.TheVariants as phase
use Rattle.machine.specs.Actors.{ActorState, root}
use Rattle.machine.specs.Calls.{a0, a1}
use Rattle.machine.specs.Cells.{Cells, slot_in}
use Rattle.machine.specs.Children.{child_name}
use Rattle.machine.specs.Local.{is_running, step, run_local, rest}
use Rattle.machine.specs.Preparation.{Preparation, copied_from}
use Rattle.machine.specs.Resting.{NotMaking}
use Rattle.machine.specs.Take.{has_snapped, next_start, takes, child_of, run_by, actor_begun}
use Rattle.machine.specs.Worlds.{WorldState, initial_state, actor_named, put_actor, with_begun, with_actor, ready, resumed}
use Rattle.machine.proofs.Resting.{IsCalm, rests, rest-stays, rest-name, running_is, stays, goes_on}
use Rattle.run_laws.specs.Allowed.{lacks}
use Rattle.run_laws.specs.ChildCopies.{memory_of_image, pages_living}
use Rattle.run_laws.specs.GateCalls.{KeepsGates, MakesWith, PreparesGate, BeginsUnless, GatesByRequest, InstrMakesGates, SnapsForGate, EventMakesGates}
use Rattle.run_laws.specs.Requests.{Request, Loads, Stores, Reads, Appends, Closes, Opens, Creates, Makes, Enters, Deletes, Allots, Frees, request_at}
use Rattle.run_laws.proofs.Between.{IsPreparing, event_for, takes_name}
use Rattle.run_laws.proofs.FamilyRuns.{Acts, ActsAlone, Starts, Enters as EntersGates, Joins, acts, one_begins}
use Rattle.run_laws.proofs.GateMoments.{step_makes_gates, event_makes_gates}
use Rattle.run_laws.proofs.GateRuns.{each_entered}
use Rattle.run_laws.proofs.Happening.{Happens, snap_cases, Requested, Joined, Snaps, GateSnaps, Started, Opens as OpensTag, Releases, Numbers, OpensFile, LastJoined, Ended, EntersGate, LeavesGate, EntersRecycled, LeavesRecycled}
use Rattle.run_laws.proofs.Meeting.{IsRequest, request_for}
use Rattle.run_laws.proofs.Preparing.{was_preparing}
use Rattle.run_laws.proofs.Settling.{AllReady, turn_happens, turned_there}
use Rattle.run_laws.proofs.Trees.{IsPut, IsDoer, IsOther, find_put, found_or_last}
use Rattle.run_laws.proofs.Turns.{Readies, Stays, Back, readies, ready_name, Turned}
use Rattle.run_log.specs.NamedNotes.{BeginsAt}
use Rattle.run_log.proofs.Kept.{takes_compartment, rest_compartment}
use Rattle.run_log.proofs.Suiting.{Suits, request_suits, asked_suits}

-- ---- the gates that an actor knows, and the one that it makes

abbrev pub AreEntries : Image → List Gate → Type 0
AreEntries i gs = AllByRecursion (λ (g : Gate). BeginsAt i g.entry) gs

record GatesBegin (i : Image) (a : ActorState) : Type 0 where
  making : (p : Preparation) → a.phase ≡ phase.MakingGate p → BeginsAt i (a1 a)
  gates : AreEntries i a.gates

keeps_entries : (i : Image) (a b : ActorState) → KeepsGates a b → AreEntries i a.gates → GatesBegin i b
keeps_entries i a b k all = record { making = λ p is. absurd (subst NotMaking is k.calm); gates = subst (AreEntries i) (sym k.known) all }

one_more : (i : Image) (gs : List Gate) (g : Gate) → AreEntries i gs → BeginsAt i g.entry → AreEntries i (gs ++ g ∷ [])
one_more i [] g all own = (own, tt)
one_more i (x ∷ xs) g all own = (all.0, one_more i xs g all.1 own)

makes_entries : (i : Image) (a b : ActorState) (d : Draft) (p : Preparation) (gs : List CopyGrant) → BeginsAt i (a1 a) → AreEntries i a.gates → MakesWith a d p gs b → GatesBegin i b
makes_entries i a b d p [] h all (g, of, memory, is) = record {
  making = λ q at. absurd (subst NotMaking (sym (ap (λ (x : ActorState). x.phase) is) ∙ at) tt);
  gates = subst (AreEntries i) (sym (ap (λ (x : ActorState). x.gates) is)) (one_more i a.gates g all (subst (BeginsAt i) (sym of.entry) h));
}
makes_entries i a b d p (x ∷ xs) h all is = record {
  making = λ q at. subst (λ (y : ActorState). BeginsAt i (a1 y)) (sym is) h;
  gates = subst (AreEntries i) (sym (ap (λ (y : ActorState). y.gates) is)) all;
}

gate_begins : (i : Image) (a b : ActorState) (d : Draft) (m : PrivateMemory) (gs : List CopyGrant) → BeginsAt i (a1 a) → AreEntries i a.gates → PreparesGate a d m gs b → GatesBegin i b
gate_begins i a b d m gs h all p = makes_entries i a b d p.preparation p.preparation.left h all p.after

-- ---- an instruction

begins_gate : (i : Image) (a b : ActorState) (d : Draft) (o : Option Denial) → BeginsAt i (a1 a) → AreEntries i a.gates → BeginsUnless i a d o b → GatesBegin i b
begins_gate i a b d None h all k = gate_begins i a b d (memory_of_image i) _ h all k
begins_gate i a b d (Some x) h all k = keeps_entries i a b k all

request_entries : (i : Image) (a b : ActorState) (r : Option Request) → IfSome r (Suits i (a1 a)) → AreEntries i a.gates → GatesByRequest i a r b → GatesBegin i b
request_entries i a b None suits all h = keeps_entries i a b h all
request_entries i a b (Some (Makes d)) suits all h = begins_gate i a b d (lacks a (Makes d)) suits all h
request_entries i a b (Some (Loads y rd s)) suits all h = keeps_entries i a b h all
request_entries i a b (Some (Stores y value)) suits all h = keeps_entries i a b h all
request_entries i a b (Some (Reads fd s n)) suits all h = keeps_entries i a b h all
request_entries i a b (Some (Appends fd s bytes)) suits all h = keeps_entries i a b h all
request_entries i a b (Some (Closes fd s)) suits all h = keeps_entries i a b h all
request_entries i a b (Some (Opens path f bits)) suits all h = keeps_entries i a b h all
request_entries i a b (Some (Creates d)) suits all h = keeps_entries i a b h all
request_entries i a b (Some (Enters entry lent)) suits all h = keeps_entries i a b h all
request_entries i a b (Some (Deletes tag)) suits all h = keeps_entries i a b h all
request_entries i a b (Some (Allots tag size)) suits all h = keeps_entries i a b h all
request_entries i a b (Some (Frees p g)) suits all h = keeps_entries i a b h all

instr_entries : (w : WorldState) (a b : ActorState) (n : ℕ) → AreEntries w.image a.gates → InstrMakesGates w a n b → GatesBegin w.image b
instr_entries w a b zero all h = keeps_entries w.image a b h all
instr_entries w a b (suc n) all h =
    let p : ActorState = record a { fuel = n } in
    request_entries w.image p b (request_at w.image w.cells p) (request_suits w.image w.cells p) all h

step_entries : (i : Image) (a : ActorState) → is_running a.phase ≡ true → AreEntries i a.gates → GatesBegin i (step i a)
step_entries i a e all = instr_entries (initial_state i) a (step i a) a.fuel all (step_makes_gates (initial_state i) a (running_is a.phase e))

run_entries : (i : Image) (n : ℕ) (a : ActorState) (t : Bool) → is_running a.phase ≡ t → GatesBegin i a → GatesBegin i (run_local i n a)
run_entries i n a false e h = subst (GatesBegin i) (sym (stays i n a e)) h
run_entries i zero a true e h = unfold run_local in h
run_entries i (suc n) a true e h = subst (GatesBegin i) (sym (goes_on i n a e)) (run_entries i n (step i a) _ refl (step_entries i a e h.gates))

rest_gates : (i : Image) (a : ActorState) → GatesBegin i a → GatesBegin i (rest i a)
unfolding rest
rest_gates i a h = run_entries i (a.fuel + 1) a _ refl h

-- ---- an event: a copy is made for the gate, or its gates stay

snap_entries : (w : WorldState) (a b : ActorState) (p : Preparation) (gs : List CopyGrant) (e : Event) → BeginsAt w.image (a1 a) → AreEntries w.image a.gates → SnapsForGate w a p gs e b → GatesBegin w.image b
snap_entries w a b p [] e own all h = keeps_entries w.image a b h all
snap_entries w a b p (g ∷ gs) e own all h = gate_begins w.image a b _ (copied_from (option_map bytes_listed (pages_living (slot_in w.cells g.slot) g.tag)) g.slot p.memory) gs own all h.1

event_gates : (w : WorldState) (b : ActorState) (e : Event) → Happens w b e → GatesBegin w.image b → GatesBegin w.image (takes w.image b e)
event_gates w b e happens h = by_phase b.phase refl (event_makes_gates w b e happens)
  where
    x : ActorState
    x = takes w.image b e

    by_phase : (ph : Phase) → b.phase ≡ ph → EventMakesGates (with_actor w b) b ph e x → GatesBegin w.image x
    by_phase (phase.MakingGate p) at k = snap_entries (with_actor w b) b x p p.left e (h.making p at) h.gates k
    by_phase phase.Running at k = keeps_entries w.image b x k h.gates
    by_phase (phase.Within q) at k = keeps_entries w.image b x k h.gates
    by_phase (phase.Starting p) at k = keeps_entries w.image b x k h.gates
    by_phase (phase.Opening slot tag) at k = keeps_entries w.image b x k h.gates
    by_phase (phase.Releasing slot) at k = keeps_entries w.image b x k h.gates
    by_phase (phase.Entering entrance) at k = keeps_entries w.image b x k h.gates
    by_phase (phase.Waiting number) at k = keeps_entries w.image b x k h.gates
    by_phase (phase.OpeningFile o) at k = keeps_entries w.image b x k h.gates
    by_phase (phase.Ending y) at k = keeps_entries w.image b x k h.gates
    by_phase (phase.Ended y) at k = keeps_entries w.image b x k h.gates

-- ---- an actor, and the child that it is about to start

pub record HasEntries (i : Image) (a : ActorState) : Type 0 where
  pub own : BeginsAt i a.compartment
  pub starting : (p : Preparation) → a.phase ≡ phase.Starting p → BeginsAt i (a1 a)
  pub making : (p : Preparation) → a.phase ≡ phase.MakingGate p → BeginsAt i (a1 a)
  pub gates : AreEntries i a.gates

starting_at_rest : (i : Image) (a : ActorState) (t : Bool) → is_running a.phase ≡ t → HasEntries i a → (p : Preparation) → (rest i a).phase ≡ phase.Starting p → BeginsAt i (a1 (rest i a))
starting_at_rest i a true e h p is = absurd (subst IsCalm is (rests i a e).calm)
starting_at_rest i a false e h p is =
    let same_one = rest-stays i a e in
    subst (λ (x : ActorState). BeginsAt i (a1 x)) (sym same_one) (h.starting p (sym (ap (λ (x : ActorState). x.phase) same_one) ∙ is))

pub rest_entries : (i : Image) (a : ActorState) → HasEntries i a → HasEntries i (rest i a)
rest_entries i a h =
    let g = rest_gates i a (record { making = h.making; gates = h.gates }) in
    record { own = subst (BeginsAt i) (sym (rest_compartment i a)) h.own; starting = starting_at_rest i a _ refl h; making = g.making; gates = g.gates }

-- a life is claimed by a call that names a procedure
claims_at : (i : Image) (c : Cells) (b : ActorState) (N : ℕ → Type 0) (rd : ℕ) (s : Bool) (q : Want) → IsRequest N b q → request_at i c b ≡ request_for c b rd s q → event_for c b q ≡ event.Lives lives_ask.Claim lives_reply.Claimed → BeginsAt i (a1 b)
claims_at i c b N rd s (want.Lives lives_ask.Claim) own asked is = asked_suits i c b (Creates own.draft) (asked ∙ ap (option_map (λ d. Creates d)) own.drafted)
claims_at i c b N rd s (want.Lives (lives_ask.Release x)) own asked is = absurd own
claims_at i c b N rd s (want.Slots q) own asked is = absurd cc
claims_at i c b N rd s (want.Slot slot q) own asked is = absurd cc
claims_at i c b N rd s (want.Fd fd q) own asked is = absurd cc
claims_at i c b N rd s q own asked is = absurd own

claimed_begins : (w : WorldState) (b : ActorState) (e : Event) → Happens w b e → e ≡ event.Lives lives_ask.Claim lives_reply.Claimed → BeginsAt w.image (a1 b)
claimed_begins w b e (Requested r) is = claims_at w.image w.cells b _ r.rd r.is_signed r.want r.own (r.asked w.cells) (sym r.is ∙ is)
claimed_begins w b e (Joined j) is = let f = sym j.join.is ∙ is in absurd cc
claimed_begins w b e (Snaps s) is = let f = sym s.is ∙ is in absurd cc
claimed_begins w b e (GateSnaps s) is = let f = sym s.is ∙ is in absurd cc
claimed_begins w b e (Started s) is = let f = sym s.is ∙ is in absurd cc
claimed_begins w b e (OpensTag o) is = let f = sym o.is ∙ is in absurd cc
claimed_begins w b e (Releases r) is = let f = sym r.is ∙ is in absurd cc
claimed_begins w b e (Numbers n) is = let f = sym n.is ∙ is in absurd cc
claimed_begins w b e (OpensFile o) is = let f = sym o.is ∙ is in absurd cc
claimed_begins w b e (LastJoined j) is = let f = sym j.join.is ∙ is in absurd cc
claimed_begins w b e (Ended x) is = let f = sym x.is ∙ is in absurd cc
claimed_begins w b e (EntersGate x) is = let f = sym x.is ∙ is in absurd cc
claimed_begins w b e (EntersRecycled x) is = let f = sym x.is ∙ is in absurd cc
claimed_begins w b e (LeavesGate l) is = let f = sym l.is ∙ is in absurd cc
claimed_begins w b e (LeavesRecycled l) is = let f = sym l.is ∙ is in absurd cc

claim_keeps : (i : Image) (b : ActorState) → a1 (takes i b (event.Lives lives_ask.Claim lives_reply.Claimed)) ≡ a1 b
unfolding takes
claim_keeps i b = refl

snapped_begins : (i : Image) (b : ActorState) (old : Preparation) (slot : ℕ) (o : Option (List ℕ)) → b.phase ≡ phase.Starting old → BeginsAt i (a1 b) → BeginsAt i (a1 (has_snapped b b.phase slot o))
snapped_begins i b old slot o at h = subst (λ ph. BeginsAt i (a1 (has_snapped b ph slot o))) (sym at) h

snap_begins : (i : Image) (b : ActorState) (old : Preparation) (slot tag : ℕ) (g : Option Segment) → b.phase ≡ phase.Starting old → BeginsAt i (a1 b) → BeginsAt i (a1 (takes i b (event.Slot slot (slot_ask.Snap tag) (slot_reply_of g (slot_ask.Snap tag)))))
unfolding takes
snap_begins i b old slot tag g at h =
    snap_cases (λ r. BeginsAt i (a1 (takes i b (event.Slot slot (slot_ask.Snap tag) r)))) g tag (λ pages. snapped_begins i b old slot (Some (bytes_listed pages)) at h) (snapped_begins i b old slot None at h)

started_calm : (i : Image) (b : ActorState) (name : List ℕ) (p : Preparation) → (takes i b (event.Start name)).phase ≡ phase.Starting p → ⊥
unfolding takes
started_calm i b name p is = cc

prepares_on : (w : WorldState) (b : ActorState) (e : Event) → Happens w b e → HasEntries w.image b → (p : Preparation) → (takes w.image b e).phase ≡ phase.Starting p → IsPreparing b.phase → BeginsAt w.image (a1 (takes w.image b e))
prepares_on w b e (Snaps s) h p is k =
    subst (λ y. BeginsAt w.image (a1 (takes w.image b y))) (sym s.is) (snap_begins w.image b s.preparation s.grant.slot s.grant.tag (slot_in w.cells s.grant.slot) s.at (h.starting s.preparation s.at))
prepares_on w b e (Started s) h p is k = absurd (started_calm w.image b (child_name b.name (next_start b)) p (ap (λ y. (takes w.image b y).phase) (sym s.is) ∙ is))
prepares_on w b e (Requested r) h p is k = absurd (subst IsPreparing r.at k)
prepares_on w b e (Joined j) h p is k = absurd (subst IsPreparing j.at k)
prepares_on w b e (GateSnaps s) h p is k = absurd (subst IsPreparing s.at k)
prepares_on w b e (OpensTag o) h p is k = absurd (subst IsPreparing o.at k)
prepares_on w b e (Releases r) h p is k = absurd (subst IsPreparing r.at k)
prepares_on w b e (Numbers n) h p is k = absurd (subst IsPreparing n.at k)
prepares_on w b e (OpensFile f) h p is k = absurd (subst IsPreparing f.at k)
prepares_on w b e (LastJoined j) h p is k = absurd (subst IsPreparing j.at k)
prepares_on w b e (Ended f) h p is k = absurd (subst IsPreparing f.at k)
prepares_on w b e (EntersGate x) h p is k = absurd (subst IsPreparing x.at k)
prepares_on w b e (EntersRecycled x) h p is k = absurd (subst IsPreparing x.at k)
prepares_on w b e (LeavesGate l) h p is k = absurd (subst IsPreparing l.at k)
prepares_on w b e (LeavesRecycled l) h p is k = absurd (subst IsPreparing l.at k)

starting_after : (w : WorldState) (b : ActorState) (e : Event) → Happens w b e → HasEntries w.image b → (p : Preparation) → (takes w.image b e).phase ≡ phase.Starting p → BeginsAt w.image (a1 (takes w.image b e))
starting_after w b e happens h p is = elim (was_preparing w.image b e (subst IsPreparing (sym is) tt)) [
  | inl claimed ↦ subst (λ y. BeginsAt w.image (a1 (takes w.image b y))) (sym claimed) (subst (BeginsAt w.image) (sym (claim_keeps w.image b)) (claimed_begins w b e happens claimed))
  | inr before ↦ prepares_on w b e happens h p is before
]

pub event_entries : (w : WorldState) (b : ActorState) (e : Event) → Happens w b e → HasEntries w.image b → HasEntries w.image (takes w.image b e)
event_entries w b e happens h =
    let g = event_gates w b e happens (record { making = h.making; gates = h.gates }) in
    record { own = subst (BeginsAt w.image) (sym (takes_compartment w.image b e)) h.own; starting = starting_after w b e happens h; making = g.making; gates = g.gates }

-- ---- the actor that begins by an event

child_entries : (i : Image) (b : ActorState) (name : List ℕ) (p : Preparation) → b.phase ≡ phase.Starting p → HasEntries i b → HasEntries i (child_of i b name)
child_entries i b name p at h = record { own = h.starting p at; starting = λ q is. absurd cc; making = λ q is. absurd cc; gates = h.gates }

begins_entries : (w : WorldState) (b : ActorState) (e : Event) → Acts w b e → HasEntries w.image b → (c : ActorState) → actor_begun w.image b e ≡ Some c → HasEntries w.image c
begins_entries w b e (ActsAlone one) h c is = let f : None ≡ Some c = sym (one_begins w.image b e one) ∙ is in absurd cc
begins_entries w b e (Starts s) h c is =
    let both : Some (child_of w.image b (child_name b.name (next_start b))) ≡ Some c = sym (ap (actor_begun w.image b) s.is) ∙ is in
    let same_one : child_of w.image b (child_name b.name (next_start b)) ≡ c = cc in
    subst (HasEntries w.image) same_one (child_entries w.image b (child_name b.name (next_start b)) s.preparation s.at h)
begins_entries w b e (EntersGates x) h c is =
    let run = run_by b (child_name b.name (next_start b)) x.kept x.entrance in
    let both : Some run ≡ Some c = sym x.begins ∙ is in
    let same_one : run ≡ c = cc in
    let own : BeginsAt w.image x.entrance.gate.entry = each_entered (λ (g : Gate). BeginsAt w.image g.entry) b (a0 b) x.entrance.gate h.gates x.may.held in
    subst (HasEntries w.image) same_one (record { own = own; starting = λ q at. absurd cc; making = λ q at. absurd cc; gates = h.gates })
begins_entries w b e (Joins k listed j) h c is = let f : None ≡ Some c = sym (ap (actor_begun w.image b) j.is) ∙ is in absurd cc

-- ---- turns

abbrev pub EachEntries : Image → List ActorState → Type 0
EachEntries i actors = (m : List ℕ) (a : ActorState) → actor_named actors m ≡ Some a → HasEntries i a

put_entries : (i : Image) (actors : List ActorState) (a x : ActorState) → EachEntries i actors → IsPut actors a x → HasEntries i x → EachEntries i (put_actor actors x)
put_entries i actors a x all put doer m y found = elim (find_put actors a x m y put found) [
  | IsDoer is one ↦ subst (HasEntries i) (sym one) doer
  | IsOther apart was ↦ all m y was
]

begun_entries : (i : Image) (actors : List ActorState) (o : Option ActorState) → EachEntries i actors → ((c : ActorState) → o ≡ Some c → HasEntries i c) → EachEntries i (with_begun actors o)
begun_entries i actors None all begins m y found = all m y found
begun_entries i actors (Some c) all begins m y found = elim (found_or_last actors c m y found) [
  | inl was ↦ all m y was
  | inr one ↦ subst (HasEntries i) (sym one) (begins c refl)
]

pub ready_entries : (i : Image) (actors : List ActorState) (a : ActorState) → HasEntries i a → HasEntries i (ready actors a)
ready_entries i actors a h = by_case (readies actors a)
  where
    by_case : Readies actors a → HasEntries i (ready actors a)
    by_case (Stays is) = subst (HasEntries i) (sym is) h
    by_case (Back k at r is) = subst (HasEntries i) (sym is) (record { own = h.own; starting = λ p was. absurd cc; making = λ p was. absurd cc; gates = h.gates })

resumed_entries : (w : WorldState) (a : ActorState) → actor_named w.actors a.name ≡ Some a → EachEntries w.image w.actors → EachEntries w.image (resumed w a).actors
resumed_entries w a there all = put_entries w.image w.actors a (ready w.actors a) all (record { name = ready_name w.actors a; there = there }) (ready_entries w.image w.actors a (all a.name a there))

pub turn_entries : (w : WorldState) (name : List ℕ) (e : Event) (new : WorldState) → AllReady w → EachEntries w.image w.actors → Turned w name e new → EachEntries w.image new.actors
turn_entries w name e new all h p =
    let v = resumed w p.actor in
    let a = p.parts.actor in
    let b = rest w.image a in
    let x = takes w.image b e in
    let happens = turn_happens w name e new all p in
    let goes = resumed_entries w p.actor (turned_there w name p.actor p.named) h in
    let there = turned_there v name a p.parts.named in
    let put : IsPut v.actors a x = record { name = takes_name w.image b e ∙ rest-name w.image a; there = there } in
    let rested = rest_entries w.image a (goes a.name a there) in
    let after = put_entries w.image v.actors a x goes put (event_entries v b e happens rested) in
    let begun = begun_entries w.image (put_actor v.actors x) (actor_begun w.image b e) after (begins_entries v b e (acts v b e happens) rested) in
    subst (λ (u : WorldState). EachEntries w.image u.actors) (sym p.parts.new_is) begun

pub opening_entries : (i : Image) → IsImage i → EachEntries i (initial_state i).actors
unfolding root
opening_entries i valid m y found = by_name (same root_name m) found
  where
    root_entries : HasEntries i (root i)
    root_entries = record { own = valid.entry_is_procedure; starting = λ p is. absurd cc; making = λ p is. absurd cc; gates = tt }

    by_name : (t : Bool) → (if t then Some (root i) else None) ≡ Some y → HasEntries i y
    by_name true is = let one : root i ≡ y = cc in subst (HasEntries i) one root_entries
    by_name false is = absurd cc
