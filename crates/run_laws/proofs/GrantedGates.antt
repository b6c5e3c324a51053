-- In every run the copies with which the runs of a gate begin are at the slots of the grants of copies on the gate's sheet.
use Rattle.std.proofs.Common.{◌≡◌, ℕ, zero, suc, ◌+◌, Bool, true, false, List, [], ◌∷◌, refl, sym, ap, subst, ◌∙◌}
use Rattle.wedge_base.specs.Sheets.{Draft, empty_draft}
use Rattle.run_laws.proofs.GateMoments.{step_makes_gates, event_makes_gates}
use Rattle.run_laws.proofs.MakesDrafted.{makes_drafted}
use Rattle.run_laws.proofs.Preparing.{copies_are}
use Rattle.run_laws.specs.ChildCopies.{copies_in, pages_living}
use Rattle.wedge_base.specs.declared.rights.Denial.{Denial}
use Rattle.cow_pages.specs.Listed.{bytes_listed}
use Rattle.std.specs.Prelude.{◌++◌, unwrap_or, slice_get, option_map}
use Rattle.std.specs.Prelude.{Option, Some, None}
use Rattle.machine.specs.declared.phase.Phase.TheVariants as phase
use Rattle.machine.specs.Preparation.{Preparation, copied_from}
use Rattle.callgate.specs.declared.gate.Gate.{Gate}
use Rattle.run_laws.specs.CopiesGranted.{AreGranted}
use Rattle.machine.proofs.Resting.{running_is}
use Rattle.cow_pages.specs.PrivateMemory.{PrivateMemory}
use Rattle.run_laws.proofs.Happening.{Happens}
use Rattle.machine.specs.Calls.{a0, draft_at}
use Rattle.machine.specs.Take.{takes}
use Rattle.wedge_base.specs.Images.{Image}
use Rattle.machine.specs.Worlds.{WorldState, initial_state, with_actor}
use Rattle.wedge_events.specs.declared.events.Event.{Event}
use Rattle.machine.specs.Cells.{slot_in}
use Rattle.machine.specs.Actors.{ActorState, pristine}
use Rattle.machine.proofs.Resting.{stays, goes_on}
use Rattle.std.specs.List.{AllByRecursion}
use Rattle.machine.specs.Resting.{NotMaking}
use Rattle.run_laws.specs.GateCalls.{KeepsGates, MakesWith, PreparesGate, BeginsUnless, GatesByRequest, InstrMakesGates, SnapsForGate, EventMakesGates}
use Rattle.machine.specs.Local.{is_running, step, run_local, rest}
use Rattle.wedge_base.specs.Sheets.{Sheet, sheet_of_draft}
use Rattle.run_laws.specs.Requests.{Request, Loads, Stores, Reads, Appends, Closes, Opens, Creates, Makes, Enters, Deletes, Allots, Frees, request_at}
use Rattle.machine.specs.declared.phase.Phase.{Phase}
use Rattle.run_laws.specs.CopiesGranted.{AreGateCopiesGranted}
use Rattle.run_laws.proofs.GrantedPreparing.{copied_granted, AreAllGranted, IsGranted, grants_granted, so_prepared, child_grants}
use Rattle.run_laws.proofs.Happening.{happens_making}
use Rattle.machine.specs.declared.copy_grant.CopyGrant.{CopyGrant}
use Rattle.run_laws.specs.Allowed.{lacks}

abbrev pub AreGatesGranted : List Gate → Type 0
AreGatesGranted gs = AllByRecursion AreGateCopiesGranted gs

-- those that it knows, and the one that it makes
pub record GatesGranted (a : ActorState) : Type 0 where
  pub making : (p : Preparation) → a.phase ≡ phase.MakingGate p → IsGranted (child_grants a) p
  pub gates : AreGatesGranted a.gates

none_making : {X : Type 0} (ph : Phase) (p : Preparation) → NotMaking ph → ph ≡ phase.MakingGate p → X
none_making ph p calm is = absurd (subst NotMaking is calm)

keeps_granted : (a b : ActorState) → KeepsGates a b → AreGatesGranted a.gates → GatesGranted b
keeps_granted a b k all = record { making = λ p is. none_making b.phase p k.calm is; gates = subst AreGatesGranted (sym k.known) all }

one_more_granted : (gs : List Gate) (g : Gate) → AreGatesGranted gs → AreGateCopiesGranted g → AreGatesGranted (gs ++ g ∷ [])
one_more_granted [] g all own = (own, tt)
one_more_granted (x ∷ xs) g all own = (all.0, one_more_granted xs g all.1 own)

-- the call's own draft
draft_tags : (a : ActorState) (d : Draft) → slice_get a.drafts (a0 a) ≡ Some d → (sheet_of_draft a.sheet a.made d).tags ≡ child_grants a
draft_tags a d there = ap (λ o. (sheet_of_draft a.sheet a.made (unwrap_or o empty_draft)).tags) (sym there)

makes_granted : (a b : ActorState) (d : Draft) (p : Preparation) (gs : List CopyGrant) → slice_get a.drafts (a0 a) ≡ Some d → IsGranted (sheet_of_draft a.sheet a.made d).tags p → AreGatesGranted a.gates
    → MakesWith a d p gs b → GatesGranted b
makes_granted a b d p [] there h all (g, of, memory, is) = record {
  making = λ q at. absurd (subst NotMaking (sym (ap (λ (x : ActorState). x.phase) is) ∙ at) tt);
  gates = subst AreGatesGranted (sym (ap (λ (x : ActorState). x.gates) is)) (one_more_granted a.gates g all
      (subst (λ (s : Sheet). AreGranted s.tags g.memory.copies) (sym of.sheet) (subst (λ (m : PrivateMemory). AreGranted (sheet_of_draft a.sheet a.made d).tags m.copies) (sym memory) h.copies)));
}
makes_granted a b d p (x ∷ xs) there h all is = record {
  making = λ q at.
      let both : phase.MakingGate p ≡ phase.MakingGate q = sym (ap (λ (y : ActorState). y.phase) is) ∙ at in
      let same : p ≡ q = cc in
      subst (λ (y : ActorState). IsGranted (child_grants y) q) (sym is) (subst (λ tags. IsGranted tags q) (draft_tags a d there) (subst (IsGranted (sheet_of_draft a.sheet a.made d).tags) same h));
  gates = subst AreGatesGranted (sym (ap (λ (y : ActorState). y.gates) is)) all;
}

gate_granted : (a b : ActorState) (d : Draft) (m : PrivateMemory) (gs : List CopyGrant) → slice_get a.drafts (a0 a) ≡ Some d → AreGranted (sheet_of_draft a.sheet a.made d).tags m.copies
    → AreAllGranted (sheet_of_draft a.sheet a.made d).tags gs → AreGatesGranted a.gates → PreparesGate a d m gs b → GatesGranted b
gate_granted a b d m gs there all each gates p =
    makes_granted a b d p.preparation p.preparation.left there (so_prepared (sheet_of_draft a.sheet a.made d).tags a m gs p.preparation p.prepared all each) gates p.after

begins_gate : (i : Image) (a b : ActorState) (d : Draft) (o : Option Denial) → slice_get a.drafts (a0 a) ≡ Some d → AreGatesGranted a.gates → BeginsUnless i a d o b → GatesGranted b
begins_gate i a b d None there gates h =
    let tags = (sheet_of_draft a.sheet a.made d).tags in
    gate_granted a b d (pristine i) (copies_in tags) there (λ slot k. absurd cc) (subst (AreAllGranted tags) (copies_are tags) (grants_granted tags)) gates h
begins_gate i a b d (Some x) there gates h = keeps_granted a b h gates

request_granted : (i : Image) (a b : ActorState) (r : Option Request) → ((d : Draft) → r ≡ Some (Makes d) → slice_get a.drafts (a0 a) ≡ Some d) → AreGatesGranted a.gates → GatesByRequest i a r b → GatesGranted b
request_granted i a b None drafted gates h = keeps_granted a b h gates
request_granted i a b (Some (Makes d)) drafted gates h = begins_gate i a b d (lacks a (Makes d)) (drafted d refl) gates h
request_granted i a b (Some (Loads y rd s)) drafted gates h = keeps_granted a b h gates
request_granted i a b (Some (Stores y value)) drafted gates h = keeps_granted a b h gates
request_granted i a b (Some (Reads fd s n)) drafted gates h = keeps_granted a b h gates
request_granted i a b (Some (Appends fd s bytes)) drafted gates h = keeps_granted a b h gates
request_granted i a b (Some (Closes fd s)) drafted gates h = keeps_granted a b h gates
request_granted i a b (Some (Opens path f bits)) drafted gates h = keeps_granted a b h gates
request_granted i a b (Some (Creates d)) drafted gates h = keeps_granted a b h gates
request_granted i a b (Some (Enters entry lent)) drafted gates h = keeps_granted a b h gates
request_granted i a b (Some (Deletes tag)) drafted gates h = keeps_granted a b h gates
request_granted i a b (Some (Allots tag size)) drafted gates h = keeps_granted a b h gates
request_granted i a b (Some (Frees p g)) drafted gates h = keeps_granted a b h gates

instr_granted : (w : WorldState) (a b : ActorState) (n : ℕ) → AreGatesGranted a.gates → InstrMakesGates w a n b → GatesGranted b
instr_granted w a b zero gates h = keeps_granted a b h gates
instr_granted w a b (suc n) gates h =
    let p = record a { fuel = n } in
    request_granted w.image p b (request_at w.image w.cells p) (λ d asked. makes_drafted w.image w.cells p d asked) gates h

step_gates_granted : (i : Image) (a : ActorState) → is_running a.phase ≡ true → AreGatesGranted a.gates → GatesGranted (step i a)
step_gates_granted i a e gates = instr_granted (initial_state i) a (step i a) a.fuel gates (step_makes_gates (initial_state i) a (running_is a.phase e))

run_gates : (i : Image) (n : ℕ) (a : ActorState) (t : Bool) → is_running a.phase ≡ t → GatesGranted a → GatesGranted (run_local i n a)
run_gates i n a false e h = subst GatesGranted (sym (stays i n a e)) h
run_gates i zero a true e h = unfold run_local in h
run_gates i (suc n) a true e h = subst GatesGranted (sym (goes_on i n a e)) (run_gates i n (step i a) _ refl (step_gates_granted i a e h.gates))

pub gates_at_rest : (i : Image) (a : ActorState) → is_running a.phase ≡ true → AreGatesGranted a.gates → GatesGranted (rest i a)
unfolding rest
gates_at_rest i a e gates =
    run_gates i (a.fuel + 1) a true e (record { making = λ p is. let f : false ≡ true = sym (ap is_running is) ∙ e in absurd cc; gates = gates })

-- an event: a copy is made for the gate, or its gates stay
snap_gates : (w : WorldState) (a b : ActorState) (p : Preparation) (gs : List CopyGrant) (e : Event) → p.left ≡ gs → (d : Draft) → slice_get a.drafts (a0 a) ≡ Some d → IsGranted (child_grants a) p
    → AreGatesGranted a.gates → SnapsForGate w a p gs e b → GatesGranted b
snap_gates w a b p [] e left d there granted_so gates h = keeps_granted a b h gates
snap_gates w a b p (g ∷ gs) e left d there granted_so gates h =
    let tags = (sheet_of_draft a.sheet a.made d).tags in
    let so : IsGranted tags p = subst (λ ts. IsGranted ts p) (sym (draft_tags a d there)) granted_so in
    let each : AreAllGranted tags (g ∷ gs) = subst (AreAllGranted tags) left so.left in
    let drafts : draft_at a.drafts (a0 a) ≡ d = ap (λ o. unwrap_or o empty_draft) there in
    let bytes = option_map bytes_listed (pages_living (slot_in w.cells g.slot) g.tag) in
    gate_granted a b d (copied_from bytes g.slot p.memory) gs there (copied_granted tags bytes g.slot p.memory so.copies each.0) each.1 gates
    (subst (λ x. PreparesGate a x (copied_from bytes g.slot p.memory) gs b) drafts h.1)

pub event_gates_granted : (w : WorldState) (b : ActorState) (e : Event) → Happens w b e → GatesGranted b → GatesGranted (takes w.image b e)
event_gates_granted w b e happens h = by_phase b.phase refl (event_makes_gates w b e happens)
  where
    x : ActorState
    x = takes w.image b e

    by_phase : (ph : Phase) → b.phase ≡ ph → EventMakesGates (with_actor w b) b ph e x → GatesGranted x
    by_phase (phase.MakingGate p) at k = let may = (happens_making w b e happens p at).may in snap_gates (with_actor w b) b x p p.left e refl may.draft may.drafted (h.making p at) h.gates k
    by_phase phase.Running at k = keeps_granted b x k h.gates
    by_phase (phase.Within q) at k = keeps_granted b x k h.gates
    by_phase (phase.Starting p) at k = keeps_granted b x k h.gates
    by_phase (phase.Opening slot tag) at k = keeps_granted b x k h.gates
    by_phase (phase.Releasing slot) at k = keeps_granted b x k h.gates
    by_phase (phase.Entering entrance) at k = keeps_granted b x k h.gates
    by_phase (phase.Waiting number) at k = keeps_granted b x k h.gates
    by_phase (phase.OpeningFile o) at k = keeps_granted b x k h.gates
    by_phase (phase.Ending y) at k = keeps_granted b x k h.gates
    by_phase (phase.Ended y) at k = keeps_granted b x k h.gates
