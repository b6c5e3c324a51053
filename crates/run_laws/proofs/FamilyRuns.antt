-- The actors of every run: they keep to the tree of names, no two have one name, and their fuel is kept.
use Rattle.std.proofs.Common.{◌≡◌, ℕ, zero, suc, ◌+◌, Bool, true, false, List, [], ◌∷◌, ◌++◌, refl, sym, ap, subst, ◌∙◌, arith, inl}
use Rattle.std.specs.Prelude.{Some, None, if◌then◌else◌}
use Rattle.run_laws.proofs.GateRuns.{IsEntry, fresh_entry, recycled_entry, entered_actors}
use Rattle.wedge_events.specs.declared.cells.GateReply.TheVariants as gate_reply
use Rattle.wedge_events.specs.declared.cells.GateAsk.TheVariants as gate_ask
use Rattle.wedge_base.specs.Images.{Image}
use Rattle.wedge_base.specs.Names.{same, root_name}
use Rattle.wedge_base.specs.declared.rights.End.{End}
use Rattle.rv_hart.specs.Local.{reg}
use Rattle.wedge_base.specs.Sheets.{right_on, bits_on}
use Rattle.wedge_events.specs.declared.events.SlotWant.TheVariants as slot_want
use Rattle.wedge_events.specs.declared.events.Want.{Want}
use Rattle.wedge_events.specs.declared.events.Want.TheVariants as want
use Rattle.wedge_events.specs.declared.events.Event.{Event}
use Rattle.wedge_events.specs.declared.events.Event.TheVariants as event
use Rattle.wedge_events.specs.declared.events.Turn.{Turn}
use Rattle.wedge_events.specs.declared.cells.DirectoryAsk.TheVariants as directory_ask
use Rattle.wedge_events.specs.declared.cells.LivesAsk.TheVariants as lives_ask
use Rattle.machine.specs.declared.phase.Phase.{Phase}
use Rattle.machine.specs.declared.phase.Phase.TheVariants as phase
use Rattle.machine.specs.Actors.{ActorState, root, right_of, bits_of, but_gates}
use Rattle.machine.specs.Cells.{Cells}
use Rattle.machine.specs.Children.{is_child, with_child, without_child, child_name}
use Rattle.run_laws.specs.Fuel.{is_unjoined, fuel_in, fuel_of, units_of, units_of_turn, TakesItsUnits}
use Rattle.run_laws.specs.Laws.{NamesAreDistinct, FuelIsKept}
use Rattle.machine.specs.Local.{step, is_running, has_ended, end_reached, run_local, rest}
use Rattle.run_laws.specs.Moments.{EachTurn}
use Rattle.run_laws.specs.Paying.{cost_at, cost_by, given_by, brought_by}
use Rattle.machine.specs.Take.{next_start, takes, actor_begun, child_of, run_by}
use Rattle.machine.specs.Worlds.{WorldState, initial_state, actor_named, put_actor, with_begun, turn_of, Runs, ready, resumed}
use Rattle.run_laws.proofs.Between.{event_for, IsJoin, joined_is, takes_name, takes_between, entered_by}
use Rattle.run_laws.proofs.Families.{IsOfOne, takes_same, first_child}
use Rattle.run_laws.specs.FamilyTrees.{IsOfTree, Family, WaitsForOwn}
use Rattle.run_laws.proofs.FamilyKept.{family_alone, JoinsChild, family_joined, StartsChild, family_started, has_more}
use Rattle.run_laws.proofs.FuelSums.{sum_alone, sum_joined, sum_started}
use Rattle.run_laws.proofs.Happening.{Happens, Requested, Joined, Snaps, GateSnaps, Started, Opens, Releases, Numbers, OpensFile, LastJoined, Ended, AtStart, EntersGate, LeavesGate, EntersRecycled, LeavesRecycled}
use Rattle.run_laws.proofs.Meeting.{IsRequest}
use Rattle.run_laws.proofs.Named.{found_name, same_equal}
use Rattle.run_laws.proofs.Paying.{step_pays, event_pays}
use Rattle.machine.proofs.Resting.{rests, rest-stays, rest-name, rest-ended, stays, goes_on}
use Rattle.run_laws.proofs.Settling.{AllReady, turn_happens, turn_ready, opening_ready, turned_there}
use Rattle.run_laws.proofs.Trees.{IsPut, put_same}
use Rattle.machine.specs.Between.{IsBetween}
use Rattle.run_laws.proofs.Waits.{waits_none, leaves_awake}
use Rattle.run_laws.proofs.Turns.{back, RunEnded, Readies, Stays, Back, readies, turn_from}

-- ---- an actor at rest

pub record IsKept (a b : ActorState) : Type 0 where
  pub sheet_ : (tag : ℕ) → right_of b tag ≡ right_of a tag
  pub bits_ : (fd : ℕ) → bits_of b fd ≡ bits_of a fd
  pub starts : b.starts ≡ a.starts
  pub unjoined : b.unjoined ≡ a.unjoined
  pub sheet : b.sheet ≡ a.sheet
  pub made : but_gates b.made ≡ but_gates a.made

pub kept_at_rest : (i : Image) (a : ActorState) (t : Bool) → is_running a.phase ≡ t → IsKept a (rest i a)
kept_at_rest i a true e =
    let r = rests i a e in
    record {
      sheet_ = λ tag. ap (λ s. right_on s (rest i a).made tag) r.sheet ∙ ap (λ m. right_on a.sheet m tag) r.made;
      bits_ = λ fd. ap (λ s. bits_on s (rest i a).made fd) r.sheet ∙ ap (λ m. bits_on a.sheet m fd) r.made;
      starts = r.starts;
      unjoined = r.unjoined;
      sheet = r.sheet;
      made = r.made;
    }
kept_at_rest i a false e = subst (IsKept a) (sym (rest-stays i a e)) (record { sheet_ = λ tag. refl; bits_ = λ fd. refl; starts = refl; unjoined = refl; sheet = refl; made = refl })

-- the units that its instructions take
units_taken : (i : Image) (n : ℕ) (a : ActorState) (t : Bool) → is_running a.phase ≡ t → (run_local i n a).fuel + units_of i n a ≡ a.fuel
unfolding run_local units_of
units_taken i zero a t e = omega arith
units_taken i (suc n) a true e =
    let ran : run_local i (suc n) a ≡ run_local i n (step i a) = goes_on i n a e in
    let units : units_of i (suc n) a ≡ cost_at i a + units_of i n (step i a) = ap (λ b. elim b [ true ↦ cost_at i a + units_of i n (step i a) | false ↦ 0 ]) e in
    let fuel : (run_local i (suc n) a).fuel ≡ (run_local i n (step i a)).fuel = ap (λ (x : ActorState). x.fuel) ran in
    let others = units_taken i n (step i a) _ refl in
    let paid = step_pays i a in
    omega (arith, units, fuel, others, paid)
units_taken i (suc n) a false e =
    let fuel : (run_local i (suc n) a).fuel ≡ a.fuel = ap (λ (x : ActorState). x.fuel) (stays i (suc n) a e) in
    let units : units_of i (suc n) a ≡ 0 = ap (λ b. elim b [ true ↦ cost_at i a + units_of i n (step i a) | false ↦ 0 ]) e in
    omega (arith, fuel, units)

pub rest_units : (i : Image) (a : ActorState) → (rest i a).fuel + units_of i (a.fuel + 1) a ≡ a.fuel
unfolding rest
rest_units i a = units_taken i (a.fuel + 1) a _ refl

-- ---- what an event is of

pub one_begins : (i : Image) (b : ActorState) (e : Event) → IsOfOne e → actor_begun i b e ≡ None
one_begins i b (event.Start child) h = absurd h
one_begins i b (event.Enter run) h = absurd h
one_begins i b (event.Gate id (gate_ask.Enter run first) (gate_reply.Entered memory)) h = absurd h
one_begins i b e h = refl

one_brings : (e : Event) → IsOfOne e → brought_by (Some e) ≡ 0
one_brings (event.Join k x fuel) h = absurd h
one_brings e h = refl

one_gives : (b : ActorState) (e : Event) → IsOfOne e → given_by b (Some e) ≡ 0
one_gives b (event.Start child) h = absurd h
one_gives b (event.Enter run) h = absurd h
one_gives b (event.Gate id (gate_ask.Enter run first) (gate_reply.Entered memory)) h = absurd h
one_gives b e h = refl

pub request_of_one : (N : ℕ → Type 0) (c : Cells) (b : ActorState) (q : Want) → IsRequest N b q → IsOfOne (event_for c b q)
request_of_one N c b (want.Slots directory_ask.Claim) own = tt
request_of_one N c b (want.Slot slot (slot_want.Close tag)) own = tt
request_of_one N c b (want.Slot slot (slot_want.Smalloc tag size)) own = tt
request_of_one N c b (want.Slot slot (slot_want.Sfree offset)) own = tt
request_of_one N c b (want.Slot slot (slot_want.Load offset width)) own = tt
request_of_one N c b (want.Slot slot (slot_want.Store offset width value)) own = tt
request_of_one N c b (want.Fd fd q) own = tt
request_of_one N c b (want.Lives lives_ask.Claim) own = tt
request_of_one N c b q own = absurd own

pub data Acts (w : WorldState) (b : ActorState) (e : Event) : Type 0 where
  ActsAlone : IsOfOne e → Acts w b e
  Starts : AtStart b e → Acts w b e
  Enters : IsEntry w b e → Acts w b e
  Joins : (k : ℕ) → is_child b.unjoined k ≡ true → IsJoin w b k e → Acts w b e

first_is_child : (first : ℕ × ℕ) (others : List (ℕ × ℕ)) → is_child (first ∷ others) first.0 ≡ true
first_is_child first others = first_child first others

pub acts : (w : WorldState) (b : ActorState) (e : Event) → Happens w b e → Acts w b e
acts w b e (Requested r) = ActsAlone (subst IsOfOne (sym r.is) (request_of_one _ w.cells b r.want r.own))
acts w b e (Joined j) = Joins j.number j.listed j.join
acts w b e (Snaps s) = ActsAlone (subst IsOfOne (sym s.is) tt)
acts w b e (GateSnaps s) = ActsAlone (subst IsOfOne (sym s.is) tt)
acts w b e (Started s) = Starts s
acts w b e (LastJoined j) = Joins j.first.0 (subst (λ cs. is_child cs j.first.0 ≡ true) (sym j.left) (first_is_child j.first j.others)) j.join
acts w b e (Opens o) = ActsAlone (subst IsOfOne (sym o.is) tt)
acts w b e (Releases r) = ActsAlone (subst IsOfOne (sym r.is) tt)
acts w b e (Numbers n) = ActsAlone (subst IsOfOne (sym n.is) tt)
acts w b e (OpensFile f) = ActsAlone (subst IsOfOne (sym f.is) tt)
acts w b e (Ended f) = ActsAlone (subst IsOfOne (sym f.is) tt)
acts w b e (EntersGate x) = Enters (fresh_entry w b e x)
acts w b e (EntersRecycled x) = Enters (recycled_entry w b e x)
acts w b e (LeavesGate l) = ActsAlone (subst IsOfOne (sym l.is) tt)
acts w b e (LeavesRecycled l) = ActsAlone (subst IsOfOne (sym l.is) tt)

pub lives : (w : WorldState) (b : ActorState) (e : Event) → Happens w b e → has_ended b.phase ≡ false
lives w b e (Requested r) = ap has_ended r.at
lives w b e (Joined j) = ap has_ended j.at
lives w b e (Snaps s) = ap has_ended s.at
lives w b e (GateSnaps s) = ap has_ended s.at
lives w b e (Started s) = ap has_ended s.at
lives w b e (LastJoined j) = ap has_ended j.at
lives w b e (Opens o) = ap has_ended o.at
lives w b e (Releases r) = ap has_ended r.at
lives w b e (Numbers n) = ap has_ended n.at
lives w b e (OpensFile f) = ap has_ended f.at
lives w b e (Ended f) = ap has_ended f.at
lives w b e (EntersGate x) = ap has_ended x.at
lives w b e (EntersRecycled x) = ap has_ended x.at
lives w b e (LeavesGate l) = ap has_ended l.at
lives w b e (LeavesRecycled l) = ap has_ended l.at

-- ---- a turn

pub join_keeps_starts : (i : Image) (b : ActorState) (k : ℕ) (x : End) (fuel : ℕ) → ((takes i b (event.Join k x fuel)).starts ≡ b.starts) × ((takes i b (event.Join k x fuel)).unjoined ≡ without_child b.unjoined k)
unfolding takes
join_keeps_starts i b k x fuel =
    let c = record b { fuel = b.fuel + fuel; unjoined = without_child b.unjoined k } in
    (joined_is (λ y. y.starts ≡ b.starts) c b.phase x refl refl, joined_is (λ y. y.unjoined ≡ without_child b.unjoined k) c b.phase x refl refl)

-- a joiner waits for no run
join_awake : (i : Image) (b : ActorState) (k : ℕ) (x : End) (fuel : ℕ) → WaitsForOwn (takes i b (event.Join k x fuel)).phase (takes i b (event.Join k x fuel)).unjoined
join_awake i b k x fuel = waits_none _ _ (λ n is. subst IsBetween is (takes_between i b (event.Join k x fuel)))

pub ended_reached : (p : Phase) (x : End) → end_reached p ≡ Some x → has_ended p ≡ true
ended_reached phase.Running x e = absurd cc
ended_reached (phase.Within q) x e = absurd cc
ended_reached (phase.Starting pre) x e = absurd cc
ended_reached (phase.MakingGate pre) x e = absurd cc
ended_reached (phase.Opening slot tag) x e = absurd cc
ended_reached (phase.Releasing slot) x e = absurd cc
ended_reached (phase.Entering entrance) x e = absurd cc
ended_reached (phase.Waiting number) x e = absurd cc
ended_reached (phase.OpeningFile o) x e = absurd cc
ended_reached (phase.Ending y) x e = absurd cc
ended_reached (phase.Ended y) x e = refl

-- what a turn leaves: the family, and the fuel less by its units
pub record TurnKeeps (w : WorldState) (a : ActorState) (e : Event) (new : WorldState) : Type 0 where
  pub family : Family new.actors
  pub fuel : fuel_in new.actors + units_of_turn w.image a e ≡ fuel_in w.actors

start_keeps : (w : WorldState) (a : ActorState) → Family w.actors → actor_named w.actors a.name ≡ Some a → has_ended a.phase ≡ false
    → (takes w.image (rest w.image a) (event.Start (child_name (rest w.image a).name (next_start (rest w.image a))))).fuel + 0 + reg (rest w.image a).hart.regs 13 ≡ (rest w.image a).fuel + 0
    → TurnKeeps w a (event.Start (child_name (rest w.image a).name (next_start (rest w.image a)))) (record w { actors = put_actor w.actors (takes w.image (rest w.image a) (event.Start (child_name (rest w.image a).name (next_start (rest w.image a))))) ++ child_of w.image (rest w.image a) (child_name (rest w.image a).name (next_start (rest w.image a))) ∷ [] })
unfolding takes
start_keeps w a f there live paid =
    let b = rest w.image a in
    let name = child_name b.name (next_start b) in
    let x = takes w.image b (event.Start name) in
    let c = child_of w.image b name in
    let k = kept_at_rest w.image a _ refl in
    let p : IsPut w.actors a x = record { name = takes_name w.image b (event.Start name) ∙ rest-name w.image a; there = there } in
    let next : next_start b ≡ a.starts + 1 = ap (λ n. n + 1) k.starts in
    let units = rest_units w.image a in
    let exact : x.fuel + c.fuel + units_of_turn w.image a (event.Start name) ≡ a.fuel = omega (arith, units, paid) in
    let s : StartsChild a x c = record {
      starts = next;
      unjoined = ap (λ n. with_child b.unjoined n c.fuel) next ∙ ap (λ cs. with_child cs (a.starts + 1) c.fuel) k.unjoined;
      fuel = omega (arith, exact);
      name = ap (λ n. child_name n (next_start b)) (rest-name w.image a) ∙ ap (child_name a.name) next;
      childless = refl;
    } in
    record {
      family = family_started w.actors a x c f p live s tt tt;
      fuel = sum_started w.actors a x c (units_of_turn w.image a (event.Start name)) f p live s exact;
    }

enter_keeps : (w : WorldState) (a : ActorState) (e : Event) (y : IsEntry w (rest w.image a) e) → Family w.actors → actor_named w.actors a.name ≡ Some a → has_ended a.phase ≡ false
    → TurnKeeps w a e (record w { actors = put_actor w.actors (entered_by (rest w.image a) y.entrance) ++ run_by (rest w.image a) (child_name (rest w.image a).name (next_start (rest w.image a))) y.kept y.entrance ∷ [] })
enter_keeps w a e y f there live =
    let b = rest w.image a in
    let name = child_name b.name (next_start b) in
    let x = entered_by b y.entrance in
    let c = run_by b name y.kept y.entrance in
    let k = kept_at_rest w.image a _ refl in
    let p : IsPut w.actors a x = record { name = rest-name w.image a; there = there } in
    let next : next_start b ≡ a.starts + 1 = ap (λ n. n + 1) k.starts in
    let units = rest_units w.image a in
    let cost = y.free in
    let exact : x.fuel + c.fuel + units_of_turn w.image a e ≡ a.fuel = omega (arith, units, y.may.enough, cost) in
    let s : StartsChild a x c = record {
      starts = next;
      unjoined = ap (λ n. with_child b.unjoined n c.fuel) next ∙ ap (λ cs. with_child cs (a.starts + 1) c.fuel) k.unjoined;
      fuel = omega (arith, exact);
      name = ap (λ n. child_name n (next_start b)) (rest-name w.image a) ∙ ap (child_name a.name) next;
      childless = refl;
    } in
    record {
      family = family_started w.actors a x c f p live s (has_more b.unjoined (next_start b) y.entrance.gate.fuel) tt;
      fuel = sum_started w.actors a x c (units_of_turn w.image a e) f p live s exact;
    }

turn_keeps_at : (w : WorldState) (a : ActorState) (e : Event) → Family w.actors → actor_named w.actors a.name ≡ Some a → Happens w (rest w.image a) e → Acts w (rest w.image a) e
    → TurnKeeps w a e (record w { actors = with_begun (put_actor w.actors (takes w.image (rest w.image a) e)) (actor_begun w.image (rest w.image a) e) })
turn_keeps_at w a e f there h (ActsAlone one) =
    let b = rest w.image a in
    let x = takes w.image b e in
    let s = takes_same w.image b e one in
    let k = kept_at_rest w.image a _ refl in
    let p : IsPut w.actors a x = record { name = takes_name w.image b e ∙ rest-name w.image a; there = there } in
    let live = sym (rest-ended w.image a) ∙ lives w b e h in
    let units = rest_units w.image a in
    let paid = event_pays w b e h in
    let brought = one_brings e one in
    let given = one_gives b e one in
    let exact : x.fuel + units_of_turn w.image a e ≡ a.fuel = omega (arith, units, paid, brought, given) in
    subst (λ o. TurnKeeps w a e (record w { actors = with_begun (put_actor w.actors x) o })) (sym (one_begins w.image b e one))
    (record {
      family = family_alone w.actors a x f p live (s.starts ∙ k.starts) (s.unjoined ∙ k.unjoined) (omega (arith, exact)) (waits_none x.phase x.unjoined (leaves_awake e x.phase one (takes_between w.image b e)));
      fuel = sum_alone w.actors a x (units_of_turn w.image a e) f p live (s.unjoined ∙ k.unjoined) exact;
    })
turn_keeps_at w a e f there h (Starts s) =
    let b = rest w.image a in
    let name = child_name b.name (next_start b) in
    subst (λ y. TurnKeeps w a y (record w { actors = with_begun (put_actor w.actors (takes w.image b y)) (actor_begun w.image b y) })) (sym s.is)
    (start_keeps w a f there (sym (rest-ended w.image a) ∙ lives w b e h) (subst (λ y. (takes w.image b y).fuel + cost_by b y + given_by b (Some y) ≡ b.fuel + brought_by (Some y)) s.is (event_pays w b e h)))
turn_keeps_at w a e f there h (Enters y) =
    let b = rest w.image a in
    subst (λ as_. TurnKeeps w a e (record w { actors = as_ })) (sym (entered_actors w w.actors b e y)) (enter_keeps w a e y f there (sym (rest-ended w.image a) ∙ lives w b e h))
turn_keeps_at w a e f there h (Joins k listed j) =
    let b = rest w.image a in
    let x = takes w.image b e in
    let kept = kept_at_rest w.image a _ refl in
    let p : IsPut w.actors a x = record { name = takes_name w.image b e ∙ rest-name w.image a; there = there } in
    let live = sym (rest-ended w.image a) ∙ lives w b e h in
    let units = rest_units w.image a in
    let same_join = join_keeps_starts w.image b k j.how j.child.fuel in
    let paid = subst (λ y. (takes w.image b y).fuel + cost_by b y + given_by b (Some y) ≡ b.fuel + brought_by (Some y)) j.is (event_pays w b e h) in
    let fuel_is : x.fuel ≡ (takes w.image b (event.Join k j.how j.child.fuel)).fuel = ap (λ y. (takes w.image b y).fuel) j.is in
    let cost_is : cost_by b e ≡ 0 = ap (cost_by b) j.is in
    let exact : x.fuel + units_of_turn w.image a e ≡ a.fuel + j.child.fuel = omega (arith, units, paid, fuel_is, cost_is) in
    let waits : WaitsForOwn x.phase x.unjoined = subst (λ y. WaitsForOwn (takes w.image b y).phase (takes w.image b y).unjoined) (sym j.is) (join_awake w.image b k j.how j.child.fuel) in
    let joins : JoinsChild w.actors a x = record {
      number = k;
      child = j.child;
      listed = ap (λ cs. is_child cs k) (sym kept.unjoined) ∙ listed;
      there = ap (λ n. actor_named w.actors (child_name n k)) (sym (rest-name w.image a)) ∙ j.there;
      ended = ended_reached j.child.phase j.how j.ended;
      starts = ap (λ y. (takes w.image b y).starts) j.is ∙ (same_join.0 ∙ kept.starts);
      unjoined = ap (λ y. (takes w.image b y).unjoined) j.is ∙ (same_join.1 ∙ ap (λ cs. without_child cs k) kept.unjoined);
      fuel = omega (arith, exact);
    } in
    subst (λ o. TurnKeeps w a e (record w { actors = with_begun (put_actor w.actors x) o })) (sym (ap (actor_begun w.image b) j.is))
    (record { family = family_joined w.actors a x f p live joins waits; fuel = sum_joined w.actors a x (units_of_turn w.image a e) f p live joins exact })

-- ---- an actor that goes on
-- as a joiner does
abbrev goes_joining : (actors : List ActorState) (a : ActorState) (k : ℕ) (r : RunEnded actors a k) → Family actors → actor_named actors a.name ≡ Some a → a.phase ≡ phase.Waiting k → JoinsChild actors a (back a k r.how r.run.fuel)
goes_joining actors a k r f there at = record {
  number = k;
  child = r.run;
  listed = subst (λ p. WaitsForOwn p a.unjoined) at (f.waits a.name a there);
  there = r.there;
  ended = ended_reached r.run.phase r.how r.ended;
  starts = refl;
  unjoined = refl;
  fuel = omega arith;
}

record GoesKeeping (w : WorldState) (a : ActorState) : Type 0 where
  family : Family (resumed w a).actors
  fuel : fuel_in (resumed w a).actors ≡ fuel_in w.actors

goes_keeping : (w : WorldState) (a : ActorState) → Family w.actors → actor_named w.actors a.name ≡ Some a → GoesKeeping w a
goes_keeping w a f there = by_case (readies w.actors a)
  where
    by_case : Readies w.actors a → GoesKeeping w a
    by_case (Stays is) =
        let same_actors : (resumed w a).actors ≡ w.actors = ap (put_actor w.actors) is ∙ put_same w.actors a there in
        record { family = subst Family (sym same_actors) f; fuel = ap fuel_in same_actors }
    by_case (Back k at r is) =
        let x = back a k r.how r.run.fuel in
        let j = goes_joining w.actors a k r f there at in
        let p : IsPut w.actors a x = record { name = refl; there = there } in
        let live : has_ended a.phase ≡ false = ap has_ended at in
        let sum = sum_joined w.actors a x 0 f p live j (omega arith) in
        let same_actors : (resumed w a).actors ≡ put_actor w.actors x = ap (put_actor w.actors) is in
        record { family = subst Family (sym same_actors) (family_joined w.actors a x f p live j tt); fuel = ap fuel_in same_actors ∙ omega (arith, sum) }

pub resumed_family : (w : WorldState) (name : List ℕ) (a : ActorState) → Family w.actors → actor_named w.actors name ≡ Some a → Family (resumed w a).actors
resumed_family w name a f named = (goes_keeping w a f (turned_there w name a named)).family

pub turn_keeps : (w : WorldState) (name : List ℕ) (e : Event) (new : WorldState) (a : ActorState) → AllReady w → Family w.actors → actor_named w.actors name ≡ Some a → turn_of w name ≡ Some (record { event = e; world = new }) → TurnKeeps w (ready w.actors a) e new
turn_keeps w name e new a all f named t =
    let p = turn_from w name e new t in
    let both : Some p.actor ≡ Some a = sym p.named ∙ named in
    let is : p.actor ≡ a = cc in
    let v = resumed w p.actor in
    let d = p.parts.actor in
    let goes = goes_keeping w p.actor f (turned_there w name p.actor p.named) in
    let there : actor_named v.actors d.name ≡ Some d = ap (actor_named v.actors) (found_name v.actors name d p.parts.named) ∙ p.parts.named in
    let h = turn_happens w name e new all p in
    let k = turn_keeps_at v d e goes.family there h (acts v (rest w.image d) e h) in
    subst (λ (x : ActorState). TurnKeeps w x e new) (p.is ∙ ap (ready w.actors) is)
    (record {
      family = subst (λ (x : WorldState). Family x.actors) (sym p.parts.new_is) k.family;
      fuel = ap (λ (x : WorldState). fuel_in x.actors + units_of_turn w.image d e) p.parts.new_is ∙ (k.fuel ∙ goes.fuel);
    })

pub turn_family : (w : WorldState) (name : List ℕ) (e : Event) (new : WorldState) → AllReady w → Family w.actors → turn_of w name ≡ Some (record { event = e; world = new }) → Family new.actors
turn_family w name e new all f t = (turn_keeps w name e new (turn_from w name e new t).actor all f (turn_from w name e new t).named t).family

-- ---- runs

pub opening_family : (i : Image) → Family (initial_state i).actors
unfolding root
opening_family i = record {
  tree = λ m x e. by_name m _ refl e;
  distinct = (tt, tt);
  behind = (λ k g given. absurd cc, tt);
  waits = λ m x e. idle m _ refl e;
  live = λ m x e alive. counts m _ refl e;
}
  where
    by_name : (m : List ℕ) (t : Bool) → same root_name m ≡ t → {x : ActorState} → (if t then Some (root i) else None) ≡ Some x → IsOfTree (root i ∷ []) m
    by_name m true s e = inl (sym (same_equal root_name m s))
    by_name m false s e = absurd cc

    idle : (m : List ℕ) (t : Bool) → same root_name m ≡ t → {x : ActorState} → (if t then Some (root i) else None) ≡ Some x → WaitsForOwn x.phase x.unjoined
    idle m true s {x = x} e = let is : root i ≡ x = cc in subst (λ (y : ActorState). WaitsForOwn y.phase y.unjoined) is tt
    idle m false s e = absurd cc

    counts : (m : List ℕ) (t : Bool) → same root_name m ≡ t → {x : ActorState} → (if t then Some (root i) else None) ≡ Some x → is_unjoined (root i ∷ []) m ≡ true
    counts m true s e = subst (λ n. is_unjoined (root i ∷ []) n ≡ true) (same_equal root_name m s) refl
    counts m false s e = absurd cc

runs_family : (old : WorldState) (turns : List Turn) (new : WorldState) → AllReady old → Family old.actors → Runs old turns new → Family new.actors
runs_family old [] new all f run = subst (λ (w : WorldState). Family w.actors) (sym run) f
runs_family old (t ∷ ts) new all f run = runs_family run.0 ts new (turn_ready old t.actor t.event run.0 all run.1) (turn_family old t.actor t.event run.0 all f run.1) run.2

pub run_family : (i : Image) (turns : List Turn) (new : WorldState) → Runs (initial_state i) turns new → Family new.actors
run_family i turns new run = runs_family (initial_state i) turns new (opening_ready i) (opening_family i) run

pub names_distinct : NamesAreDistinct
names_distinct i turns new run = (run_family i turns new run).distinct

each_takes_units : (old : WorldState) (turns : List Turn) (new : WorldState) → AllReady old → Family old.actors → Runs old turns new → EachTurn TakesItsUnits old turns
each_takes_units old [] new all f run = tt
each_takes_units old (t ∷ ts) new all f run = (
  run.0,
  run.1,
  λ a named. (turn_keeps old t.actor t.event run.0 a all f named run.1).fuel,
  each_takes_units run.0 ts new (turn_ready old t.actor t.event run.0 all run.1) (turn_family old t.actor t.event run.0 all f run.1) run.2,
)

opening_fuel : (i : Image) → fuel_of (initial_state i) ≡ i.fuel
unfolding root
opening_fuel i = omega arith

pub fuel_kept : FuelIsKept
fuel_kept i turns new run = (opening_fuel i, each_takes_units (initial_state i) turns new (opening_ready i) (opening_family i) run)
