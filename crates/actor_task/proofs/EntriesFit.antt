-- Entries of events that create, join and leave fit the actors that do them.
use Rattle.std.proofs.Common.{◌≡◌, ℕ, ◌+◌, ◌<◌, ◌≤◌, Bool, true, false, List, refl, sym, ap, subst, ◌∙◌, arith}
use Rattle.std.proofs.lemmas.Bool.Decides.{nat_tests}
use Rattle.std.specs.Prelude.{Option, Some, None, IsSomeAnd, nat_lt, if◌then◌else◌}
use Rattle.cow_pages.specs.PrivateMemory.{PrivateMemory}
use Rattle.journal_cell.specs.Histories.{greater}
use Rattle.wedge_base.specs.Images.{Image}
use Rattle.wedge_base.specs.declared.grants.GateId.{GateId}
use Rattle.wedge_base.specs.declared.grants.GateKind.{GateKind}
use Rattle.wedge_base.specs.declared.grants.GateKind.TheVariants as gate_kind
use Rattle.wedge_base.specs.declared.rights.End.{End}
use Rattle.wedge_events.specs.Journals.{event_ask}
use Rattle.wedge_events.specs.declared.cells.GateAsk.TheVariants as gate_ask
use Rattle.wedge_events.specs.declared.cells.GateReply.{GateReply}
use Rattle.wedge_events.specs.declared.events.Event.TheVariants as event
use Rattle.wedge_events.specs.declared.events.LogEntry.{LogEntry}
use Rattle.wedge_events.specs.declared.events.Want.{Want}
use Rattle.wedge_events.specs.declared.events.Want.TheVariants as want
use Rattle.callgate.specs.declared.gate.Gate.{Gate}
use Rattle.machine.specs.Actors.{ActorState}
use Rattle.machine.specs.Between.{WantFits, IsAtGate, IsNextName, RunsIn, TakesFit}
use Rattle.machine.specs.Children.{fuel_given, child_name}
use Rattle.machine.specs.Take.{current_want, wanted_at, entering_want, asks, run_at, actor_begun, next_start, takes}
use Rattle.machine.specs.declared.phase.Phase.{Phase}
use Rattle.machine.specs.declared.phase.Phase.TheVariants as phase
use Rattle.run_laws.specs.Walks.{IsEntryOf}
use Rattle.machine.specs.Local.{has_ended}
use Rattle.thread_laws.specs.ActorProgresses.{ActorProgress, after_entry}
use Rattle.thread_laws.specs.declared.gathered.ActorEnd.{ActorEnd}
use Rattle.actor_run.specs.Runs.{AffordsGate}
use Rattle.run_cells.specs.Entries.{IsPlainEntry, IsCreatingEntry, IsNextActor}
use Rattle.actor_task.specs.Tasks.{IsJoinEntry, cellless_entry_of, IsUnlocked}

after_clock : (n : ℕ) → n < n + 1
after_clock n = omega arith

own_entry : (a : ActorState) (clock : ℕ) (q : Want) (e : LogEntry) → current_want a ≡ Some q → event_ask e.event ≡ asks a None q
    → e.actor ≡ a.name → clock < e.stamp → IsEntryOf a clock e
own_entry a clock q e wants asked own after =
    record { above = after; own = own; event = record { want = q; live = None; wants = wants; asks_it = asked } }

-- ---- starts and entries of fresh gates

pub start_fits : (i : Image) (r : ActorProgress) (child : List ℕ) → current_want r.state ≡ Some (want.Start child) → WantFits r.state (want.Start child)
    → IsCreatingEntry i r (cellless_entry_of r (event.Start child))
start_fits i r child wants fits = record {
  own = own_entry r.state r.clock (want.Start child) _ wants refl refl (after_clock r.clock);
  stamp = refl;
  fits = (tt, fits.0);
  creates = record { name_ = fits.1; fuel_ = fits.0.enough };
  last_ = tt;
}

run_begins : (a : ActorState) (run : List ℕ) (kept : Option PrivateMemory) (p : Phase) → IsAtGate p → IsNextName a.name a.starts run
    → AffordsGate p a.fuel → IsSomeAnd (run_at a run kept p) (IsNextActor a)
run_begins a run kept (phase.Entering x) at name affords = record { name_ = name; fuel_ = affords }
run_begins a run kept p at name affords = absurd at

pub enter_fits : (i : Image) (r : ActorProgress) (run : List ℕ) → current_want r.state ≡ Some (want.Enter run) → WantFits r.state (want.Enter run)
    → AffordsGate r.state.phase r.state.fuel → IsCreatingEntry i r (cellless_entry_of r (event.Enter run))
enter_fits i r run wants fits affords = record {
  own = own_entry r.state r.clock (want.Enter run) _ wants refl refl (after_clock r.clock);
  stamp = refl;
  fits = (tt, tt);
  creates = run_begins r.state run None r.state.phase fits.0 fits.1 affords;
  last_ = tt;
}

-- ---- leaves of fresh gates

pub leave_fits : (i : Image) (r : ActorProgress) (how : End) → current_want r.state ≡ Some (want.Leave how) → IsPlainEntry i r (cellless_entry_of r (event.Leave how))
leave_fits i r how wants = record {
  own = own_entry r.state r.clock (want.Leave how) _ wants refl refl (after_clock r.clock);
  stamp = refl;
  fits = (tt, tt);
  alone = refl;
  nameless = refl;
  no_join = tt;
  last_ = tt;
}

-- ---- joins

above : (a b s : ℕ) → s ≡ greater a b + 1 → a < s
above a b s = by_order (nat_lt a b) refl
  where
    by_order : (t : Bool) → nat_lt a b ≡ t → s ≡ (if t then b else a) + 1 → a < s
    by_order true order is = grind (arith, nat_tests, order, is)
    by_order false order is = omega (arith, is)

pub join_own : (r : ActorProgress) (number : ℕ) (t : ActorEnd) (e : LogEntry) → current_want r.state ≡ Some (want.Join number) → IsJoinEntry r number t e → IsEntryOf r.state r.clock e
join_own r number t e wants j = own_entry r.state r.clock (want.Join number) e wants (ap event_ask j.joins) j.own (above r.clock t.last e.stamp j.stamp)

pub join_fits : (r : ActorProgress) (number : ℕ) (t : ActorEnd) (e : LogEntry) → IsJoinEntry r number t e → IsSomeAnd (fuel_given r.state.unjoined number) (λ given. t.fuel ≤ given) → TakesFit r.state e.event
join_fits r number t e j within = subst (TakesFit r.state) (sym j.joins) (tt, within)

pub join_none : (i : Image) (r : ActorProgress) (number : ℕ) (t : ActorEnd) (e : LogEntry) → IsJoinEntry r number t e → actor_begun i r.state e.event ≡ None
join_none i r number t e j = ap (actor_begun i r.state) j.joins

-- ---- who is the run of no recycled gate

pub child_unlocked : (i : Image) (b : ActorState) (child : List ℕ) (c : ActorState) → actor_begun i b (event.Start child) ≡ Some c → IsUnlocked c
child_unlocked i b child c is = subst IsUnlocked (one_is is) (λ id h. h)
  where
    one_is : {x y : ActorState} → Some x ≡ Some y → x ≡ y
    one_is e = cc

fresh_gate : (g : Gate) (k : GateKind) (name run : List ℕ) → entering_want k g name ≡ want.Enter run → k ≡ gate_kind.Fresh
fresh_gate g gate_kind.Fresh name run is = refl
fresh_gate g gate_kind.Recycled name run is = absurd cc

run_unlocked : (b : ActorState) (run : List ℕ) (p : Phase) (c : ActorState) → IsAtGate p → wanted_at b p ≡ Some (want.Enter run) → run_at b run None p ≡ Some c → IsUnlocked c
run_unlocked b run (phase.Entering x) c at wants is = λ id h.
    let enters : entering_want x.gate.kind x.gate (child_name b.name (next_start b)) ≡ want.Enter run = cc in
    let fresh = fresh_gate x.gate x.gate.kind (child_name b.name (next_start b)) run enters in
    let run_of : Some x.gate ≡ c.run_of = ap (λ (y : ActorState). y.run_of) (one_is is) in
    let k : IsSomeAnd (Some x.gate) (λ g. (g.kind ≡ gate_kind.Recycled) × (g.id ≡ id)) = subst (λ o. RunsIn o id) (sym run_of) h in
    let f : gate_kind.Fresh ≡ gate_kind.Recycled = sym fresh ∙ k.0 in
    absurd cc
  where
    one_is : {x y : ActorState} → Some x ≡ Some y → x ≡ y
    one_is e = cc
run_unlocked b run p c at wants is = absurd at

pub fresh_unlocked : (i : Image) (b : ActorState) (run : List ℕ) (c : ActorState) → current_want b ≡ Some (want.Enter run) → WantFits b (want.Enter run) → actor_begun i b (event.Enter run) ≡ Some c → IsUnlocked c
fresh_unlocked i b run c wants fits is = run_unlocked b run b.phase c fits.0 wants is

-- ---- who leaves a gate has ended

pub leave_ends : (i : Image) (r new : ActorProgress) (e : LogEntry) (how : End) → new ≡ after_entry i r e → e.event ≡ event.Leave how → has_ended new.state.phase ≡ true
unfolding takes
leave_ends i r new e how is left = ap (λ (x : ActorProgress). has_ended x.state.phase) is ∙ ap (λ x. has_ended (takes i r.state x).phase) left

pub gate_leave_ends : (i : Image) (r new : ActorProgress) (e : LogEntry) (id : GateId) (how : End) (m : PrivateMemory) (reply : GateReply) → new ≡ after_entry i r e → e.event ≡ event.Gate id (gate_ask.Leave how m) reply → has_ended new.state.phase ≡ true
unfolding takes
gate_leave_ends i r new e id how m reply is left = ap (λ (x : ActorProgress). has_ended x.state.phase) is ∙ ap (λ x. has_ended (takes i r.state x).phase) left
