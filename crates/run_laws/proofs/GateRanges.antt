-- The memory with which the runs of a gate begin has the ranges of the image, from the call that makes the gate on.
use Rattle.std.proofs.Common.{◌≡◌, ℕ, zero, suc, ◌+◌, Bool, true, false, List, [], ◌∷◌, refl, sym, ap, subst, ◌∙◌}
use Rattle.std.specs.List.{AllByRecursion}
use Rattle.std.specs.Prelude.{Option, Some, None, ◌++◌, map, option_map, if◌then◌else◌}
use Rattle.callgate.specs.declared.gate.Gate.{Gate}
use Rattle.cow_pages.specs.Copies.{Copies, copy_at}
use Rattle.cow_pages.specs.Listed.{bytes_listed}
use Rattle.cow_pages.specs.PrivateMemory.{PrivateMemory}
use Rattle.wedge_base.specs.Images.{Image}
use Rattle.wedge_base.specs.Sheets.{Sheet, Made, Draft, right_on}
use Rattle.wedge_base.specs.declared.rights.Denial.{Denial}
use Rattle.wedge_events.specs.declared.events.Event.{Event}
use Rattle.machine.specs.declared.copy_grant.CopyGrant.{CopyGrant}
use Rattle.machine.specs.declared.phase.Phase.{Phase}
use Rattle.machine.specs.declared.phase.Phase.TheVariants as phase
use Rattle.machine.specs.Actors.{ActorState}
use Rattle.machine.specs.CopyGrant.{is_copy_alone}
use Rattle.machine.specs.Local.{is_running, step, run_local, rest}
use Rattle.machine.specs.Preparation.{Preparation, copied_from, prepare_copies}
use Rattle.machine.specs.Resting.{NotMaking}
use Rattle.machine.specs.Take.{takes}
use Rattle.run_laws.specs.Allowed.{lacks}
use Rattle.machine.specs.Cells.{slot_in}
use Rattle.run_laws.specs.ChildCopies.{memory_of_image, pages_living}
use Rattle.run_laws.specs.GateCalls.{KeepsGates, MakesWith, PreparesGate, BeginsUnless, GatesByRequest, InstrMakesGates, SnapsForGate, EventMakesGates}
use Rattle.run_laws.specs.MemoryRanges.{extent, HasImagesRanges, GateHasRanges}
use Rattle.run_laws.specs.Requests.{Request, Loads, Stores, Reads, Appends, Closes, Opens, Creates, Makes, Enters, Deletes, Allots, Frees, request_at}
use Rattle.machine.specs.Worlds.{WorldState, initial_state, with_actor}
use Rattle.run_laws.proofs.GateMoments.{step_makes_gates, event_makes_gates}
use Rattle.run_laws.proofs.Happening.{Happens}
use Rattle.machine.proofs.Resting.{running_is, stays, goes_on}

-- ---- copies that are made leave the ranges where they are

pub ranges_so : (i : Image) (m n : PrivateMemory) → n.ranges ≡ m.ranges → HasImagesRanges i m → HasImagesRanges i n
ranges_so i m n is h = ap (map extent) is ∙ h

pub copied_same : (o : Option (List ℕ)) (slot : ℕ) (m : PrivateMemory) → (copied_from o slot m).ranges ≡ m.ranges
copied_same None slot m = refl
copied_same (Some bytes) slot m = refl

pub prepared_same : (s : Sheet) (made : Made) (own : Copies) (m : PrivateMemory) (left : List CopyGrant) → (prepare_copies s made own m left).memory.ranges ≡ m.ranges
prepared_same s made own m [] = refl
prepared_same s made own m (g ∷ left) =
    by_right (is_copy_alone (right_on s made g.tag)) (prepared_same s made own (copied_from (copy_at own g.slot) g.slot m) left ∙ copied_same (copy_at own g.slot) g.slot m)
  where
    by_right : (t : Bool) → (prepare_copies s made own (copied_from (copy_at own g.slot) g.slot m) left).memory.ranges ≡ m.ranges
        → (if t then prepare_copies s made own (copied_from (copy_at own g.slot) g.slot m) left else record { memory = m; left = g ∷ left }).memory.ranges ≡ m.ranges
    by_right true later = later
    by_right false later = refl

-- ---- the gates that an actor knows, and the one that it makes

abbrev pub HaveRanges : Image → List Gate → Type 0
HaveRanges i gs = AllByRecursion (GateHasRanges i) gs

pub record GatesHaveRanges (i : Image) (a : ActorState) : Type 0 where
  pub making : (p : Preparation) → a.phase ≡ phase.MakingGate p → HasImagesRanges i p.memory
  pub gates : HaveRanges i a.gates

keeps_ranges : (i : Image) (a b : ActorState) → KeepsGates a b → HaveRanges i a.gates → GatesHaveRanges i b
keeps_ranges i a b k all = record { making = λ p is. absurd (subst NotMaking is k.calm); gates = subst (HaveRanges i) (sym k.known) all }

one_more : (i : Image) (gs : List Gate) (g : Gate) → HaveRanges i gs → GateHasRanges i g → HaveRanges i (gs ++ g ∷ [])
one_more i [] g all own = (own, tt)
one_more i (x ∷ xs) g all own = (all.0, one_more i xs g all.1 own)

makes_ranges : (i : Image) (a b : ActorState) (d : Draft) (p : Preparation) (gs : List CopyGrant) → HasImagesRanges i p.memory → HaveRanges i a.gates → MakesWith a d p gs b → GatesHaveRanges i b
makes_ranges i a b d p [] h all (g, of, memory, is) = record {
  making = λ q at. absurd (subst NotMaking (sym (ap (λ (x : ActorState). x.phase) is) ∙ at) tt);
  gates = subst (HaveRanges i) (sym (ap (λ (x : ActorState). x.gates) is)) (one_more i a.gates g all (subst (HasImagesRanges i) (sym memory) h));
}
makes_ranges i a b d p (x ∷ xs) h all is = record {
  making = λ q at.
      let both : phase.MakingGate p ≡ phase.MakingGate q = sym (ap (λ (y : ActorState). y.phase) is) ∙ at in
      let same : p ≡ q = cc in
      subst (λ (y : Preparation). HasImagesRanges i y.memory) same h;
  gates = subst (HaveRanges i) (sym (ap (λ (y : ActorState). y.gates) is)) all;
}

gate_ranges : (i : Image) (a b : ActorState) (d : Draft) (m : PrivateMemory) (gs : List CopyGrant) → HasImagesRanges i m → HaveRanges i a.gates → PreparesGate a d m gs b → GatesHaveRanges i b
gate_ranges i a b d m gs h all p = makes_ranges i a b d p.preparation p.preparation.left (ranges_so i m p.preparation.memory p.prepared.ranges h) all p.after

-- ---- an instruction

begins_gate : (i : Image) (a b : ActorState) (d : Draft) (o : Option Denial) → HaveRanges i a.gates → BeginsUnless i a d o b → GatesHaveRanges i b
begins_gate i a b d None all h = gate_ranges i a b d (memory_of_image i) _ refl all h
begins_gate i a b d (Some x) all h = keeps_ranges i a b h all

request_ranges : (i : Image) (a b : ActorState) (r : Option Request) → HaveRanges i a.gates → GatesByRequest i a r b → GatesHaveRanges i b
request_ranges i a b None all h = keeps_ranges i a b h all
request_ranges i a b (Some (Makes d)) all h = begins_gate i a b d (lacks a (Makes d)) all h
request_ranges i a b (Some (Loads y rd s)) all h = keeps_ranges i a b h all
request_ranges i a b (Some (Stores y value)) all h = keeps_ranges i a b h all
request_ranges i a b (Some (Reads fd s n)) all h = keeps_ranges i a b h all
request_ranges i a b (Some (Appends fd s bytes)) all h = keeps_ranges i a b h all
request_ranges i a b (Some (Closes fd s)) all h = keeps_ranges i a b h all
request_ranges i a b (Some (Opens path f bits)) all h = keeps_ranges i a b h all
request_ranges i a b (Some (Creates d)) all h = keeps_ranges i a b h all
request_ranges i a b (Some (Enters entry lent)) all h = keeps_ranges i a b h all
request_ranges i a b (Some (Deletes tag)) all h = keeps_ranges i a b h all
request_ranges i a b (Some (Allots tag size)) all h = keeps_ranges i a b h all
request_ranges i a b (Some (Frees p g)) all h = keeps_ranges i a b h all

instr_ranges : (w : WorldState) (a b : ActorState) (n : ℕ) → HaveRanges w.image a.gates → InstrMakesGates w a n b → GatesHaveRanges w.image b
instr_ranges w a b zero all h = keeps_ranges w.image a b h all
instr_ranges w a b (suc n) all h = request_ranges w.image (record a { fuel = n }) b (request_at w.image w.cells (record a { fuel = n })) all h

step_ranges : (i : Image) (a : ActorState) → is_running a.phase ≡ true → HaveRanges i a.gates → GatesHaveRanges i (step i a)
step_ranges i a e all = instr_ranges (initial_state i) a (step i a) a.fuel all (step_makes_gates (initial_state i) a (running_is a.phase e))

run_ranges : (i : Image) (n : ℕ) (a : ActorState) (t : Bool) → is_running a.phase ≡ t → GatesHaveRanges i a → GatesHaveRanges i (run_local i n a)
run_ranges i n a false e h = subst (GatesHaveRanges i) (sym (stays i n a e)) h
run_ranges i zero a true e h = unfold run_local in h
run_ranges i (suc n) a true e h = subst (GatesHaveRanges i) (sym (goes_on i n a e)) (run_ranges i n (step i a) _ refl (step_ranges i a e h.gates))

pub rest_gates : (i : Image) (a : ActorState) → GatesHaveRanges i a → GatesHaveRanges i (rest i a)
unfolding rest
rest_gates i a h = run_ranges i (a.fuel + 1) a _ refl h

-- ---- an event: a copy is made for the gate, or its gates stay

snap_ranges : (w : WorldState) (a b : ActorState) (p : Preparation) (gs : List CopyGrant) (e : Event) → HasImagesRanges w.image p.memory → HaveRanges w.image a.gates → SnapsForGate w a p gs e b → GatesHaveRanges w.image b
snap_ranges w a b p [] e own all h = keeps_ranges w.image a b h all
snap_ranges w a b p (g ∷ gs) e own all h =
    let bytes = option_map bytes_listed (pages_living (slot_in w.cells g.slot) g.tag) in
    gate_ranges w.image a b _ (copied_from bytes g.slot p.memory) gs (ranges_so w.image p.memory (copied_from bytes g.slot p.memory) (copied_same bytes g.slot p.memory) own) all h.1

pub event_gates : (w : WorldState) (b : ActorState) (e : Event) → Happens w b e → GatesHaveRanges w.image b → GatesHaveRanges w.image (takes w.image b e)
event_gates w b e happens h = by_phase b.phase refl (event_makes_gates w b e happens)
  where
    x : ActorState
    x = takes w.image b e

    by_phase : (ph : Phase) → b.phase ≡ ph → EventMakesGates (with_actor w b) b ph e x → GatesHaveRanges w.image x
    by_phase (phase.MakingGate p) at k = snap_ranges (with_actor w b) b x p p.left e (h.making p at) h.gates k
    by_phase phase.Running at k = keeps_ranges w.image b x k h.gates
    by_phase (phase.Within q) at k = keeps_ranges w.image b x k h.gates
    by_phase (phase.Starting p) at k = keeps_ranges w.image b x k h.gates
    by_phase (phase.Opening slot tag) at k = keeps_ranges w.image b x k h.gates
    by_phase (phase.Releasing slot) at k = keeps_ranges w.image b x k h.gates
    by_phase (phase.Entering entrance) at k = keeps_ranges w.image b x k h.gates
    by_phase (phase.Waiting number) at k = keeps_ranges w.image b x k h.gates
    by_phase (phase.OpeningFile o) at k = keeps_ranges w.image b x k h.gates
    by_phase (phase.Ending y) at k = keeps_ranges w.image b x k h.gates
    by_phase (phase.Ended y) at k = keeps_ranges w.image b x k h.gates
