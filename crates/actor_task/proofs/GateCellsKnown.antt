-- The cells of the recycled gates that an actor knows.
use Rattle.std.proofs.Common.{◌≡◌, ℕ, zero, suc, ◌≤◌, Bool, true, false, List, [], ◌∷◌, ◌++◌, length, take, map, refl, sym, ap, subst, ◌∙◌, arith}
use Rattle.std.specs.Prelude.{Option, Some, None, ◌||◌, if◌then◌else◌}
use Rattle.wedge_base.specs.Identities.{same_gate}
use Rattle.wedge_base.specs.Images.{Image}
use Rattle.wedge_base.specs.declared.grants.GateId.{GateId}
use Rattle.wedge_base.specs.declared.grants.GateKind.{GateKind}
use Rattle.wedge_base.specs.declared.grants.GateKind.TheVariants as gate_kind
use Rattle.cow_pages.specs.PrivateMemory.{PrivateMemory}
use Rattle.wedge_events.specs.declared.cells.GateAsk.TheVariants as gate_ask
use Rattle.wedge_events.specs.declared.cells.GateReply.TheVariants as gate_reply
use Rattle.wedge_events.specs.declared.events.Event.{Event}
use Rattle.wedge_events.specs.declared.events.Event.TheVariants as event
use Rattle.wedge_events.specs.declared.events.Want.TheVariants as want
use Rattle.callgate.specs.Gate.{gate_named}
use Rattle.callgate.specs.declared.gate.Gate.{Gate}
use Rattle.machine.specs.Actors.{ActorState}
use Rattle.machine.specs.Between.{IsAtGate}
use Rattle.machine.specs.Children.{child_name}
use Rattle.machine.specs.Entrance.{Entrance}
use Rattle.machine.specs.Take.{wanted_at, entering_want, next_start, actor_begun, child_of, run_at, run_by}
use Rattle.machine.specs.declared.phase.Phase.{Phase}
use Rattle.machine.specs.declared.phase.Phase.TheVariants as phase
use Rattle.run_laws.proofs.KnownGates.{itself}
use Rattle.thread_laws.proofs.KnownGates.{IsMore, entered_known}
use Rattle.actor_task.specs.declared.step.GateEntry.{GateEntry}
use Rattle.thread_laws.specs.ActorProgresses.{ActorProgress, CreatedActor}
use Rattle.run_cells.specs.RecycledGates.{GateCellsState, HasCells, recycled, with_recycled, has_cell}
use Rattle.actor_task.specs.Tasks.{IsTask, TaskState, WantsEntry}

-- ---- more gates

take_within : {X : Type 0} (n : ℕ) (xs ys : List X) → n ≤ length xs → take n (xs ++ ys) ≡ take n xs
take_within zero xs ys h = refl
take_within (suc n) [] ys h = absurd (omega (arith, h))
take_within (suc n) (x ∷ xs) ys h = ap (λ zs. x ∷ zs) (take_within n xs ys (omega (arith, h)))

longer : {X : Type 0} (n : ℕ) (xs ys : List X) → n ≤ length xs → n ≤ length (xs ++ ys)
longer zero xs ys h = omega arith
longer (suc n) [] ys h = absurd (omega (arith, h))
longer (suc n) (x ∷ xs) ys h = let k = longer n xs ys (omega (arith, h)) in omega (arith, k)

pub cells_more : (c : GateCellsState) (xs ys : List Gate) → HasCells c xs → IsMore xs ys → HasCells c ys
cells_more c xs ys h m = record {
  seen_ = subst (λ zs. c.seen ≤ length zs) (sym m.is) (longer c.seen xs m.more h.seen_);
  cells_ = h.cells_ ∙ ap recycled (sym (ap (take c.seen) m.is ∙ take_within c.seen xs m.more h.seen_));
}

-- ---- all gates were looked at

take_all : {X : Type 0} (xs : List X) → take (length xs) xs ≡ xs
take_all [] = refl
take_all (x ∷ xs) = ap (λ ys. x ∷ ys) (take_all xs)

length_map : {X Y : Type 0} (f : X → Y) (xs : List X) → length (map f xs) ≡ length xs
length_map f [] = refl
length_map f (x ∷ xs) = ap suc (length_map f xs)

pub cells_of_all : {X : Type 0} (value : X → Gate) (c : GateCellsState) (arcs : List X) → HasCells c (map value arcs) → c.seen ≡ length arcs → c.gates ≡ recycled (map value arcs)
cells_of_all value c arcs h seen =
    h.cells_ ∙ ap recycled (ap (λ n. take n (map value arcs)) (seen ∙ sym (length_map value arcs)) ∙ take_all (map value arcs))

-- ---- the gate that is entered is among them

has_behind : (k : GateKind) (id : GateId) (ids : List GateId) (x : GateId) → has_cell ids x ≡ true → has_cell (with_recycled k id ids) x ≡ true
has_behind gate_kind.Fresh id ids x h = h
has_behind gate_kind.Recycled id ids x h = by_first (same_gate id x)
  where
    by_first : (t : Bool) → (t || has_cell ids x) ≡ true
    by_first true = refl
    by_first false = h

has_first : (k : GateKind) (id : GateId) (ids : List GateId) → k ≡ gate_kind.Recycled → has_cell (with_recycled k id ids) id ≡ true
has_first gate_kind.Recycled id ids is = ap (λ t. t || has_cell ids id) (itself id)
has_first gate_kind.Fresh id ids is = absurd cc

named_has : (gs : List Gate) (id : GateId) (g : Gate) → gate_named gs id ≡ Some g → g.kind ≡ gate_kind.Recycled → has_cell (recycled gs) g.id ≡ true
named_has [] id g e kind = absurd cc
named_has (x ∷ gs) id g e kind = by_id (same_gate x.id id) e (λ k. named_has gs id g k kind)
  where
    by_id : (t : Bool) → (if t then Some x else gate_named gs id) ≡ Some g → (gate_named gs id ≡ Some g → has_cell (recycled gs) g.id ≡ true) → has_cell (recycled (x ∷ gs)) g.id ≡ true
    by_id true k others =
        let one : x ≡ g = cc in
        subst (λ (y : Gate). has_cell (with_recycled x.kind x.id (recycled gs)) y.id ≡ true) one (has_first x.kind x.id (recycled gs) (ap (λ (y : Gate). y.kind) one ∙ kind))
    by_id false k others = has_behind x.kind x.id (recycled gs) g.id (others k)

record IsRecycled (x : Entrance) (gate : GateId) : Type 0 where
  kind_ : x.gate.kind ≡ gate_kind.Recycled
  id_ : x.gate.id ≡ gate

entering_is : (x : Entrance) (k : GateKind) (name run : List ℕ) (gate : GateId) (memory : PrivateMemory) → x.gate.kind ≡ k → entering_want k x.gate name ≡ want.Gate gate (gate_ask.Enter run memory) → IsRecycled x gate
entering_is x gate_kind.Recycled name run gate memory kind is = record { kind_ = kind; id_ = cc }
entering_is x gate_kind.Fresh name run gate memory kind is = absurd cc

at_gate : (b : ActorState) (p : Phase) (run : List ℕ) (gate : GateId) (memory : PrivateMemory) → IsAtGate p → wanted_at b p ≡ Some (want.Gate gate (gate_ask.Enter run memory)) → (x : Entrance) × (p ≡ phase.Entering x) × IsRecycled x gate
at_gate b (phase.Entering x) run gate memory at wants =
    let enters : entering_want x.gate.kind x.gate (child_name b.name (next_start b)) ≡ want.Gate gate (gate_ask.Enter run memory) = cc in
    (x, refl, entering_is x x.gate.kind (child_name b.name (next_start b)) run gate memory refl enters)
at_gate b p run gate memory at wants = absurd at

pub entered_has_cell : (i : Image) (k : TaskState) (r : ActorProgress) (created : List CreatedActor) (e : GateEntry) (ids : List GateId) → WantsEntry k e → r ≡ k.progress → IsTask i r created → ids ≡ recycled r.state.gates → has_cell ids e.gate ≡ true
entered_has_cell i k r created e ids w is h all =
    let at = at_gate k.progress.state k.progress.state.phase e.run e.gate e.memory w.fits.0 w.wants in
    let phase_is : r.state.phase ≡ phase.Entering at.0 = ap (λ (y : ActorProgress). y.state.phase) is ∙ at.1 in
    let known = entered_known i r created h.new_.runs_ h.progress at.0 phase_is in
    ap (λ xs. has_cell xs e.gate) all ∙ (ap (has_cell (recycled r.state.gates)) (sym at.2.id_) ∙ named_has r.state.gates known.id at.0.gate known.named at.2.kind_)

-- ---- an actor that is created knows what its creator knows

run_gates : (b : ActorState) (run : List ℕ) (kept : Option PrivateMemory) (p : Phase) (c : ActorState) → run_at b run kept p ≡ Some c → c.gates ≡ b.gates
run_gates b run kept (phase.Entering x) c is = let one : run_by b run kept x ≡ c = cc in sym (ap (λ (y : ActorState). y.gates) one)
run_gates b run kept p c is = absurd cc

pub begun_gates : (i : Image) (b : ActorState) (e : Event) (c : ActorState) → actor_begun i b e ≡ Some c → c.gates ≡ b.gates
begun_gates i b (event.Start child) c is = let one : child_of i b child ≡ c = cc in sym (ap (λ (y : ActorState). y.gates) one)
begun_gates i b (event.Enter run) c is = run_gates b run None b.phase c is
begun_gates i b (event.Gate id (gate_ask.Enter run first) (gate_reply.Entered memory)) c is = run_gates b run (Some memory) b.phase c is
begun_gates i b e c is = absurd cc
