-- Each turn takes work away, so every run ends.
use Rattle.std.proofs.Common.{◌≡◌, ◌⊎◌, inl, inr, ℕ, suc, ◌+◌, ◌*◌, ◌≤◌, ◌<◌, Bool, true, false, not, List, [], ◌∷◌, ◌++◌, length, refl, sym, ap, subst, ◌∙◌, arith}
use Rattle.std.specs.Prelude.{Option, Some, None, is_some, if◌then◌else◌}
use Rattle.std.specs.Ordering.{nat_cmp, match_ordering}
use Rattle.std.specs.declared.cmp.Ordering.{Ordering}
use Rattle.std.specs.declared.cmp.Ordering.TheVariants.{Less, Equal, Greater}
use Rattle.run_laws.proofs.GateRuns.{IsEntry, fresh_entry, recycled_entry}
use Rattle.cow_pages.specs.PrivateMemory.{PrivateMemory}
use Rattle.wedge_base.specs.declared.grants.GateId.{GateId}
use Rattle.wedge_events.specs.declared.cells.GateReply.TheVariants as gate_reply
use Rattle.wedge_events.specs.declared.cells.GateAsk.TheVariants as gate_ask
use Rattle.cow_pages.specs.Listed.{bytes_listed}
use Rattle.wedge_base.specs.Images.{Image}
use Rattle.wedge_base.specs.Sheets.{most_grants, Draft}
use Rattle.wedge_events.specs.Slots.{Segment, slot_reply as slot_reply_of}
use Rattle.wedge_events.specs.declared.cells.SlotAsk.TheVariants as slot_ask
use Rattle.wedge_events.specs.declared.events.Want.{Want}
use Rattle.rv_hart.specs.Local.{reg}
use Rattle.wedge_events.specs.declared.events.Want.TheVariants as want
use Rattle.wedge_events.specs.declared.events.Event.{Event}
use Rattle.wedge_events.specs.declared.events.Event.TheVariants as event
use Rattle.wedge_events.specs.declared.events.Turn.{Turn}
use Rattle.wedge_events.specs.declared.cells.DirectoryAsk.TheVariants as directory_ask
use Rattle.wedge_events.specs.declared.cells.DirectoryReply.{DirectoryReply}
use Rattle.wedge_events.specs.declared.cells.DirectoryReply.TheVariants as directory_reply
use Rattle.wedge_events.specs.declared.cells.StreamAsk.{StreamAsk}
use Rattle.wedge_events.specs.declared.cells.StreamReply.TheVariants as stream_reply
use Rattle.machine.specs.Opening.{FileOpening}
use Rattle.wedge_events.specs.declared.cells.LivesAsk.TheVariants as lives_ask
use Rattle.wedge_events.specs.declared.cells.SlotReply.TheVariants as slot_reply
use Rattle.wedge_events.specs.declared.cells.LivesReply.TheVariants as lives_reply
use Rattle.wedge_base.specs.declared.rights.End.{End}
use Rattle.machine.specs.declared.phase.Phase.{Phase}
use Rattle.machine.specs.declared.phase.Phase.TheVariants as phase
use Rattle.machine.specs.declared.copy_grant.CopyGrant.{CopyGrant}
use Rattle.machine.specs.Actors.{ActorState, pristine, root}
use Rattle.machine.specs.Between.{IsBetween}
use Rattle.machine.specs.Children.{Children, child_name, is_number, fuel_given, is_child, with_child, without_child}
use Rattle.run_laws.specs.FamilyTrees.{Family, WaitsForOwn}
use Rattle.machine.specs.Preparation.{Preparation, copied_from, prepare_copies, behind_first}
use Rattle.machine.specs.Cells.{slot_in}
use Rattle.run_laws.specs.Fuel.{unit_work, units_of, opening_work, phase_work, tasks_of, tasks_in, work_left, most_turns, units_of_turn}
use Rattle.run_laws.specs.Laws.{RunsEnd}
use Rattle.machine.specs.Local.{is_running, rest}
use Rattle.machine.specs.Take.{next_start, answered_end, copies_asked, has_snapped, takes, actor_begun, copied_on, run_by}
use Rattle.machine.specs.Worlds.{WorldState, initial_state, actor_named, put_actor, with_begun, turn_of, Runs, ready, resumed}
use Rattle.wedge_base.specs.Names.{same}
use Rattle.run_laws.proofs.Between.{IsPreparing, MayPrepare, MayNumber, Leaves, numbered_is, opened_is, takes_between, takes_name, IsMaking, MayWait, entered_by}
use Rattle.run_laws.proofs.DraftsFit.{AreFew, few_copies}
use Rattle.run_laws.proofs.Preparing.{was_preparing}
use Rattle.run_laws.proofs.Families.{IsOfOne, takes_same, first_child}
use Rattle.run_laws.proofs.FamilyRuns.{kept_at_rest, rest_units, turn_keeps, turn_family, opening_family, one_begins, request_of_one, join_keeps_starts}
use Rattle.run_laws.proofs.Happening.{Happens, snap_cases, Requested, Joined, Snaps, GateSnaps, Started, Opens, Releases, Numbers, OpensFile, LastJoined, Ended, EntersGate, LeavesGate, EntersRecycled, LeavesRecycled}
use Rattle.run_laws.proofs.Named.{found_name}
use Rattle.machine.proofs.Resting.{IsCalm, HasPaid, rests, rest-stays, rest-name, running_is}
use Rattle.run_laws.proofs.Settling.{AllReady, actor_few, turn_happens, turn_ready, opening_ready, turned_there}
use Rattle.machine.specs.Calls.{draft_at, makes_or_waits, a0}
use Rattle.run_laws.proofs.MakingGates.{prepared_left, was_making}
use Rattle.run_laws.proofs.Turns.{back, Readies, Stays, Back, readies, turn_from}
use Rattle.run_laws.proofs.Trees.{put_same}
use Rattle.machine.specs.Entrance.{Entrance}

-- ---- children by their count

count_by_order : (o : Ordering) (k fuel : ℕ) (c : ℕ × ℕ) (cs others : Children) → length others ≤ length cs + 1 → length (match_ordering o ((k, fuel) ∷ c ∷ cs) ((c.0, fuel) ∷ cs) (c ∷ others)) ≤ length cs + 1 + 1
count_by_order Less k fuel c cs others h = omega arith
count_by_order Equal k fuel c cs others h = omega arith
count_by_order Greater k fuel c cs others h = omega (arith, h)

count_with : (cs : Children) (k fuel : ℕ) → length (with_child cs k fuel) ≤ length cs + 1
count_with [] k fuel = omega arith
count_with (c ∷ cs) k fuel = let h = count_by_order (nat_cmp k c.0) k fuel c cs (with_child cs k fuel) (count_with cs k fuel) in omega (arith, h)

count_without : (cs : Children) (k : ℕ) → length (without_child cs k) ≤ length cs
count_without [] k = omega arith
count_without (c ∷ cs) k = by_test (is_number k c.0) (count_without cs k)
  where
    by_test : (t : Bool) → length (without_child cs k) ≤ length cs → length (if not t then c ∷ without_child cs k else without_child cs k) ≤ suc (length cs)
    by_test true h = omega (arith, h)
    by_test false h = omega (arith, h)

count_less : (cs : Children) (k : ℕ) → is_child cs k ≡ true → length (without_child cs k) < length cs
count_less [] k e = absurd cc
count_less (c ∷ cs) k e = by_test (is_number k c.0) e (count_without cs k) (count_less cs k)
  where
    by_test : (t : Bool) → is_some (if t then Some c.1 else fuel_given cs k) ≡ true → length (without_child cs k) ≤ length cs → (is_child cs k ≡ true → length (without_child cs k) < length cs)
        → length (if not t then c ∷ without_child cs k else without_child cs k) < suc (length cs)
    by_test true e h others = omega (arith, h)
    by_test false e h others = let less = others e in omega (arith, less)

-- ---- tasks of actors

tasks_put : (actors : List ActorState) (a x : ActorState) → x.name ≡ a.name → actor_named actors a.name ≡ Some a → tasks_in (put_actor actors x) + tasks_of a ≡ tasks_in actors + tasks_of x
tasks_put [] a x name there = absurd (let e = there in cc)
tasks_put (y ∷ ys) a x name there = by_name (same y.name x.name) (same y.name a.name) (ap (same y.name) name) there (tasks_put ys a x name)
  where
    by_name : (t u : Bool) → t ≡ u → (if u then Some y else actor_named ys a.name) ≡ Some a → (actor_named ys a.name ≡ Some a → tasks_in (put_actor ys x) + tasks_of a ≡ tasks_in ys + tasks_of x)
        → tasks_in (if t then x ∷ ys else y ∷ put_actor ys x) + tasks_of a ≡ tasks_of y + tasks_in ys + tasks_of x
    by_name true true at h others =
        let is : y ≡ a = cc in
        let was : tasks_of y ≡ tasks_of a = ap (λ (z : ActorState). tasks_of z) is in
        omega (arith, was)
    by_name true false at h others = absurd cc
    by_name false true at h others = absurd cc
    by_name false false at h others = let rest_ = others h in omega (arith, rest_)

tasks_behind : (actors : List ActorState) (c : ActorState) → tasks_in (actors ++ c ∷ []) ≡ tasks_in actors + tasks_of c
tasks_behind [] c = omega arith
tasks_behind (y ∷ ys) c = let others = tasks_behind ys c in omega (arith, others)

-- the tasks of an actor that has begun, if one has
abbrev begun_tasks : Option ActorState → ℕ
begun_tasks None = 0
begun_tasks (Some c) = tasks_of c

tasks_begun : (actors : List ActorState) (o : Option ActorState) → tasks_in (with_begun actors o) ≡ tasks_in actors + begun_tasks o
tasks_begun actors None = omega arith
tasks_begun actors (Some c) = tasks_behind actors c

-- ---- a turn

-- an actor that comes to rest has paid, or has little left to do
record IsPaid (a b : ActorState) (units : ℕ) : Type 0 where
  within : (q : Want) → b.phase ≡ phase.Within q → 5 + most_grants ≤ unit_work * units + phase_work a.phase
  starting : (p : Preparation) → b.phase ≡ phase.Starting p → 4 + length p.left ≤ unit_work * units + phase_work a.phase
  making : (p : Preparation) → length p.left ≤ most_grants → b.phase ≡ phase.MakingGate p → 4 + length p.left ≤ unit_work * units + phase_work a.phase
  opening : (slot tag : ℕ) → b.phase ≡ phase.Opening slot tag → 4 ≤ unit_work * units + phase_work a.phase
  releasing : (slot : ℕ) → b.phase ≡ phase.Releasing slot → 4 ≤ unit_work * units + phase_work a.phase
  file : (o : FileOpening) → b.phase ≡ phase.OpeningFile o → opening_work o.number ≤ unit_work * units + phase_work a.phase
  entering : (x : Entrance) → b.phase ≡ phase.Entering x → 4 ≤ unit_work * units + phase_work a.phase
  ending : (e : End) → b.phase ≡ phase.Ending e → 1 ≤ unit_work * units + phase_work a.phase

pub paid_within : (f g : ℕ) (p : Phase) (q : Want) → p ≡ phase.Within q → HasPaid f g p → g < f
paid_within f g p q e h = subst (HasPaid f g) e h

paid_opening : (f g slot tag : ℕ) (p : Phase) → p ≡ phase.Opening slot tag → HasPaid f g p → g < f
paid_opening f g slot tag p e h = subst (HasPaid f g) e h

paid_releasing : (f g slot : ℕ) (p : Phase) → p ≡ phase.Releasing slot → HasPaid f g p → g < f
paid_releasing f g slot p e h = subst (HasPaid f g) e h

paid_making : (f g : ℕ) (x : Preparation) (p : Phase) → p ≡ phase.MakingGate x → HasPaid f g p → g < f
paid_making f g x p e h = subst (HasPaid f g) e h

paid_entering : (f g : ℕ) (x : Entrance) (p : Phase) → p ≡ phase.Entering x → HasPaid f g p → g < f
paid_entering f g x p e h = subst (HasPaid f g) e h

paid_file : (f g : ℕ) (o : FileOpening) (p : Phase) → p ≡ phase.OpeningFile o → HasPaid f g p → g < f
paid_file f g o p e h = subst (HasPaid f g) e h

opening_most : (n : Option ℕ) → opening_work n ≤ 5
opening_most None = omega arith
opening_most (Some fd) = omega arith

rest_paid : (i : Image) (a : ActorState) (t : Bool) → is_running a.phase ≡ t → IsPaid a (rest i a) (units_of i (a.fuel + 1) a)
rest_paid i a true e =
    let r = rests i a e in
    let units = rest_units i a in
    let work : phase_work a.phase ≡ 1 = ap phase_work (running_is a.phase e) in
    record {
      within = λ q is. let less = paid_within a.fuel (rest i a).fuel (rest i a).phase q is r.paid in omega (arith, less, units, work);
      starting = λ p is. absurd (subst IsCalm is r.calm);
      making = λ p few is. let less = paid_making a.fuel (rest i a).fuel p (rest i a).phase is r.paid in omega (arith, less, units, work, few);
      opening = λ slot tag is. let less = paid_opening a.fuel (rest i a).fuel slot tag (rest i a).phase is r.paid in omega (arith, less, units, work);
      releasing = λ slot is. let less = paid_releasing a.fuel (rest i a).fuel slot (rest i a).phase is r.paid in omega (arith, less, units, work);
      file = λ o is. let less = paid_file a.fuel (rest i a).fuel o (rest i a).phase is r.paid in let most = opening_most o.number in omega (arith, less, units, work, most);
      entering = λ x is. let less = paid_entering a.fuel (rest i a).fuel x (rest i a).phase is r.paid in omega (arith, less, units, work);
      ending = λ x is. omega (arith, work);
    }
rest_paid i a false e =
    let stays = rest-stays i a e in
    let same : (rest i a).phase ≡ a.phase = ap (λ (x : ActorState). x.phase) stays in
    record {
      within = λ q is. let work : phase_work a.phase ≡ 5 + most_grants = ap phase_work (sym same ∙ is) in omega (arith, work);
      starting = λ p is. let work : phase_work a.phase ≡ 4 + length p.left = ap phase_work (sym same ∙ is) in omega (arith, work);
      making = λ p few is. let work : phase_work a.phase ≡ 4 + length p.left = ap phase_work (sym same ∙ is) in omega (arith, work);
      opening = λ slot tag is. let work : phase_work a.phase ≡ 4 = ap phase_work (sym same ∙ is) in omega (arith, work);
      releasing = λ slot is. let work : phase_work a.phase ≡ 4 = ap phase_work (sym same ∙ is) in omega (arith, work);
      file = λ o is. let work : phase_work a.phase ≡ opening_work o.number = ap phase_work (sym same ∙ is) in omega (arith, work);
      entering = λ x is. let work : phase_work a.phase ≡ 4 = ap phase_work (sym same ∙ is) in omega (arith, work);
      ending = λ x is. let work : phase_work a.phase ≡ 1 = ap phase_work (sym same ∙ is) in omega (arith, work);
    }

-- what an event leaves has little to do: two at most, or six where a life or a slot was claimed, or a tag closed
between_work : (p : Phase) → IsBetween p → phase_work p ≤ 2
between_work phase.Running h = omega arith
between_work (phase.Within q) h = absurd h
between_work (phase.Starting pre) h = absurd h
between_work (phase.MakingGate pre) h = absurd h
between_work (phase.Opening slot tag) h = absurd h
between_work (phase.Releasing slot) h = absurd h
between_work (phase.Entering entrance) h = absurd h
between_work (phase.Waiting number) h = absurd h
between_work (phase.OpeningFile o) h = absurd h
between_work (phase.Ending e) h = omega arith
between_work (phase.Ended e) h = omega arith

-- an event leaves no actor that wants one
abbrev pub NotWithin : Phase → Type 0
NotWithin (phase.Within q) = ⊥
NotWithin p = Unit {0}

not_within : (p : Phase) → ((q : Want) → p ≡ phase.Within q → ⊥) → NotWithin p
not_within phase.Running h = tt
not_within (phase.Within q) h = h q refl
not_within (phase.Starting pre) h = tt
not_within (phase.MakingGate pre) h = tt
not_within (phase.Opening slot tag) h = tt
not_within (phase.Releasing slot) h = tt
not_within (phase.Entering entrance) h = tt
not_within (phase.Waiting number) h = tt
not_within (phase.OpeningFile o) h = tt
not_within (phase.Ending e) h = tt
not_within (phase.Ended e) h = tt

between_one : (p : Phase) → IsBetween p → NotWithin p
between_one p h = not_within p (λ q is. subst IsBetween is h)

pub leaves_none : (e : Event) (p : Phase) → Leaves e p → NotWithin p
leaves_none (event.Lives lives_ask.Claim lives_reply.Claimed) p h = not_within p (λ q is. subst IsPreparing is h)
leaves_none (event.Lives lives_ask.Claim lives_reply.Full) p h = between_one p h
leaves_none (event.Lives lives_ask.Claim lives_reply.Released) p h = between_one p h
leaves_none (event.Lives (lives_ask.Release x) r) p h = between_one p h
leaves_none (event.Slots directory_ask.Claim (directory_reply.Claimed slot tag)) p h = subst NotWithin (sym h) tt
leaves_none (event.Slots directory_ask.Claim directory_reply.Full) p h = between_one p h
leaves_none (event.Slots directory_ask.Claim directory_reply.Released) p h = between_one p h
leaves_none (event.Slots (directory_ask.Release slot) r) p h = between_one p h
leaves_none (event.Fds directory_ask.Claim (directory_reply.Claimed fd number)) p h = not_within p (λ q is. subst (MayNumber fd) is h)
leaves_none (event.Fds directory_ask.Claim directory_reply.Full) p h = between_one p h
leaves_none (event.Fds directory_ask.Claim directory_reply.Released) p h = between_one p h
leaves_none (event.Fds (directory_ask.Release place) r) p h = between_one p h
leaves_none (event.Slot slot q slot_reply.Closed) p h = subst NotWithin (sym h) tt
leaves_none (event.Slot slot q (slot_reply.Snapped pages)) p h = not_within p (λ q is. subst MayPrepare is h)
leaves_none (event.Slot slot q slot_reply.Gone) p h = not_within p (λ q is. subst MayPrepare is h)
leaves_none (event.Slot slot q r) p h = between_one p h
leaves_none (event.Enter run) p h = not_within p (λ q is. subst MayWait is h)
leaves_none (event.Gate id (gate_ask.Enter run first) (gate_reply.Entered memory)) p h = not_within p (λ q is. subst MayWait is h)
leaves_none e p h = between_one p h

work_without : (p : Phase) → NotWithin p → (IsMaking p → ⊥) → ((pre : Preparation) → p ≡ phase.Starting pre → length pre.left ≤ most_grants) → phase_work p ≤ 4 + most_grants
work_without phase.Running h none few = omega arith
work_without (phase.Within q) h none few = absurd h
work_without (phase.Starting pre) h none few = let left = few pre refl in omega (arith, left)
work_without (phase.MakingGate pre) h none few = absurd (none tt)
work_without (phase.Opening slot tag) h none few = omega arith
work_without (phase.Releasing slot) h none few = omega arith
work_without (phase.Entering entrance) h none few = omega arith
work_without (phase.Waiting number) h none few = omega arith
work_without (phase.OpeningFile o) h none few = let most = opening_most o.number in omega (arith, most)
work_without (phase.Ending e) h none few = omega arith
work_without (phase.Ended e) h none few = omega arith

claimed_left : (i : Image) (b : ActorState) (pre : Preparation) → AreFew b.drafts → (takes i b (event.Lives lives_ask.Claim lives_reply.Claimed)).phase ≡ phase.Starting pre → length pre.left ≤ most_grants
unfolding takes
claimed_left i b pre few is =
    let begins = prepare_copies b.sheet b.made b.memory.copies (pristine i) (copies_asked b) in
    let same : begins ≡ pre = cc in
    let left : length begins.left ≡ length pre.left = ap (λ (x : Preparation). length x.left) same in
    let fewer = prepared_left b.sheet b.made b.memory.copies (pristine i) (copies_asked b) in
    let most = few_copies b few in
    omega (arith, left, fewer, most)

-- whoever wanted an event prepares a child after the claim of a life alone, with as many copies as a draft has grants
request_work : (w : WorldState) (b : ActorState) (e : Event) (q : Want) → b.phase ≡ phase.Within q → AreFew b.drafts → phase_work (takes w.image b e).phase ≤ 4 + most_grants
request_work w b e q at few =
    work_without (takes w.image b e).phase (leaves_none e (takes w.image b e).phase (takes_between w.image b e))
    (λ k. subst IsMaking at (was_making w.image b e k))
    (λ pre is. by_cause pre is (was_preparing w.image b e (subst IsPreparing (sym is) tt)))
  where
    by_cause : (pre : Preparation) → (takes w.image b e).phase ≡ phase.Starting pre → (e ≡ event.Lives lives_ask.Claim lives_reply.Claimed) ⊎ IsPreparing b.phase → length pre.left ≤ most_grants
    by_cause pre is (inl claimed) = claimed_left w.image b pre few (ap (λ y. (takes w.image b y).phase) (sym claimed) ∙ is)
    by_cause pre is (inr before) = absurd (subst IsPreparing at before)

snapped_work : (b : ActorState) (p : Preparation) (slot : ℕ) (gs : List CopyGrant) (o : Option (List ℕ)) → b.phase ≡ phase.Starting p → p.left ≡ gs
    → phase_work (has_snapped b b.phase slot o).phase ≤ 4 + length (behind_first gs)
snapped_work b p slot gs o at left =
    let fewer = prepared_left b.sheet b.made b.memory.copies (copied_from o slot p.memory) (behind_first p.left) in
    let work : phase_work (has_snapped b b.phase slot o).phase ≡ 4 + length (prepare_copies b.sheet b.made b.memory.copies (copied_from o slot p.memory) (behind_first p.left)).left = ap (λ ph. phase_work (has_snapped b ph slot o).phase) at in
    let same : length (behind_first p.left) ≡ length (behind_first gs) = ap (λ l. length (behind_first l)) left in
    omega (arith, fewer, work, same)

snap_work : (i : Image) (b : ActorState) (p : Preparation) (slot tag : ℕ) (grant : CopyGrant) (others : List CopyGrant) (g : Option Segment) → b.phase ≡ phase.Starting p → p.left ≡ grant ∷ others
    → phase_work (takes i b (event.Slot slot (slot_ask.Snap tag) (slot_reply_of g (slot_ask.Snap tag)))).phase ≤ 4 + length others
unfolding takes
snap_work i b p slot tag grant others g at left =
    snap_cases (λ r. phase_work (takes i b (event.Slot slot (slot_ask.Snap tag) r)).phase ≤ 4 + length others) g tag
    (λ pages. snapped_work b p slot (grant ∷ others) (Some (bytes_listed pages)) at left) (snapped_work b p slot (grant ∷ others) None at left)

made_work : (b : ActorState) (d : Draft) (p : Preparation) (gs : List CopyGrant) → phase_work (makes_or_waits b d p gs).phase ≤ 4 + length p.left
made_work b d p [] = omega arith
made_work b d p (g ∷ gs) = omega arith

gate_snapped_work : (b : ActorState) (p : Preparation) (slot : ℕ) (grant : CopyGrant) (others : List CopyGrant) (o : Option (List ℕ)) → b.phase ≡ phase.MakingGate p → p.left ≡ grant ∷ others
    → phase_work (has_snapped b b.phase slot o).phase ≤ 4 + length others
gate_snapped_work b p slot grant others o at left =
    let next = copied_on b p slot o in
    let fewer = prepared_left b.sheet b.made b.memory.copies (copied_from o slot p.memory) (behind_first p.left) in
    let most = made_work b (draft_at b.drafts (a0 b)) next next.left in
    let work : phase_work (has_snapped b b.phase slot o).phase ≡ phase_work (makes_or_waits b (draft_at b.drafts (a0 b)) next next.left).phase = ap (λ ph. phase_work (has_snapped b ph slot o).phase) at in
    let same : length (behind_first p.left) ≡ length others = ap (λ l. length (behind_first l)) left in
    omega (arith, fewer, most, work, same)

gate_snap_work : (i : Image) (b : ActorState) (p : Preparation) (slot tag : ℕ) (grant : CopyGrant) (others : List CopyGrant) (g : Option Segment) → b.phase ≡ phase.MakingGate p → p.left ≡ grant ∷ others
    → phase_work (takes i b (event.Slot slot (slot_ask.Snap tag) (slot_reply_of g (slot_ask.Snap tag)))).phase ≤ 4 + length others
unfolding takes
gate_snap_work i b p slot tag grant others g at left =
    snap_cases (λ r. phase_work (takes i b (event.Slot slot (slot_ask.Snap tag) r)).phase ≤ 4 + length others) g tag
    (λ pages. gate_snapped_work b p slot grant others (Some (bytes_listed pages)) at left) (gate_snapped_work b p slot grant others None at left)

-- the tasks of the doer and of a child after the event, against those before and the units
record IsLess (i : Image) (b : ActorState) (e : Event) (n : ℕ) : Type 0 where
  less : tasks_of (takes i b e) + begun_tasks (actor_begun i b e) < n

started_tasks : (i : Image) (b : ActorState) (child : List ℕ) → tasks_of (takes i b (event.Start child)) + begun_tasks (actor_begun i b (event.Start child)) ≤ 3 + length b.unjoined
unfolding takes
started_tasks i b child = let h = count_with b.unjoined (next_start b) (reg b.hart.regs 13) in omega (arith, h)

ended_tasks : (i : Image) (b : ActorState) (x : End) → tasks_of (takes i b (event.Lives (lives_ask.Release x) lives_reply.Released)) ≡ length b.unjoined
unfolding takes
ended_tasks i b x = omega arith

joined_work : (a : ActorState) (p : Phase) (x : End) → a.phase ≡ p → phase_work (answered_end a p x).phase ≤ 2
joined_work a phase.Running x at = omega arith
joined_work a (phase.Within q) x at = omega arith
joined_work a (phase.Starting pre) x at = omega arith
joined_work a (phase.MakingGate pre) x at = omega arith
joined_work a (phase.Opening slot tag) x at = omega arith
joined_work a (phase.Releasing slot) x at = omega arith
joined_work a (phase.Entering entrance) x at = omega arith
joined_work a (phase.Waiting number) x at = omega arith
joined_work a (phase.OpeningFile o) x at = omega arith
joined_work a (phase.Ending y) x at = let work : phase_work a.phase ≡ 1 = ap phase_work at in omega (arith, work)
joined_work a (phase.Ended y) x at = omega arith

last_work : (a : ActorState) (x y : End) → a.phase ≡ phase.Ending y → phase_work (answered_end a a.phase x).phase ≡ 1
last_work a x y at = ap (λ p. phase_work (answered_end a p x).phase) at ∙ ap phase_work at

join_phase : (i : Image) (b : ActorState) (k : ℕ) (x : End) (fuel : ℕ) → phase_work (takes i b (event.Join k x fuel)).phase ≤ 2
unfolding takes
join_phase i b k x fuel = joined_work (record b { fuel = b.fuel + fuel; unjoined = without_child b.unjoined k }) b.phase x refl

last_phase : (i : Image) (b : ActorState) (k : ℕ) (x y : End) (fuel : ℕ) → b.phase ≡ phase.Ending y → phase_work (takes i b (event.Join k x fuel)).phase ≡ 1
unfolding takes
last_phase i b k x y fuel at = last_work (record b { fuel = b.fuel + fuel; unjoined = without_child b.unjoined k }) x y at

number_work : (i : Image) (b : ActorState) (r : DirectoryReply) → phase_work (takes i b (event.Fds directory_ask.Claim r)).phase ≤ 4
unfolding takes
number_work i b (directory_reply.Claimed fd number) = numbered_is (λ x. phase_work x.phase ≤ 4) b b.phase fd (omega arith) (λ o. omega arith)
number_work i b directory_reply.Full = omega arith
number_work i b directory_reply.Released = omega arith

file_work : (i : Image) (b : ActorState) (fd : ℕ) (q : StreamAsk) → phase_work (takes i b (event.Fd fd q stream_reply.Opened)).phase ≤ 2
unfolding takes
file_work i b fd q = opened_is (λ x. phase_work x.phase ≤ 2) b b.phase fd (omega arith) (λ o. omega arith)

entered_tasks : (w : WorldState) (b : ActorState) (e : Event) → IsEntry w b e → tasks_of (takes w.image b e) + begun_tasks (actor_begun w.image b e) ≤ 3 + length b.unjoined
entered_tasks w b e y =
    let x = y.entrance in
    let h = count_with b.unjoined (next_start b) x.gate.fuel in
    let first : tasks_of (takes w.image b e) ≡ tasks_of (entered_by b x) = ap tasks_of y.takes_so in
    let second : begun_tasks (actor_begun w.image b e) ≡ begun_tasks (Some (run_by b (child_name b.name (next_start b)) y.kept x)) = ap begun_tasks y.begins in
    omega (arith, h, first, second)

left_tasks : (i : Image) (b : ActorState) (x : End) → tasks_of (takes i b (event.Leave x)) ≡ length b.unjoined
unfolding takes
left_tasks i b x = omega arith

recycled_left_tasks : (i : Image) (b : ActorState) (x : End) (id : GateId) (m : PrivateMemory) → tasks_of (takes i b (event.Gate id (gate_ask.Leave x m) gate_reply.Left)) ≡ length b.unjoined
unfolding takes
recycled_left_tasks i b x id m = omega arith

entry_less : (w : WorldState) (a : ActorState) (e : Event) → IsEntry w (rest w.image a) e
    → tasks_of (takes w.image (rest w.image a) e) + begun_tasks (actor_begun w.image (rest w.image a) e) < unit_work * units_of w.image (a.fuel + 1) a + tasks_of a
entry_less w a e y =
    let b = rest w.image a in
    let k = kept_at_rest w.image a _ refl in
    let paid = (rest_paid w.image a _ refl).entering y.entrance y.at in
    let few = entered_tasks w b e y in
    let count : length b.unjoined ≡ length a.unjoined = ap length k.unjoined in
    omega (arith, paid, few, count)

event_less : (w : WorldState) (a : ActorState) (e : Event) → AreFew (rest w.image a).drafts → Happens w (rest w.image a) e
    → tasks_of (takes w.image (rest w.image a) e) + begun_tasks (actor_begun w.image (rest w.image a) e) < unit_work * units_of w.image (a.fuel + 1) a + tasks_of a
event_less w a e drafts (Requested r) =
    let b = rest w.image a in
    let one = subst IsOfOne (sym r.is) (request_of_one _ w.cells b r.want r.own) in
    let s = takes_same w.image b e one in
    let k = kept_at_rest w.image a _ refl in
    let paid = (rest_paid w.image a _ refl).within r.want r.at in
    let few = request_work w b e r.want r.at drafts in
    let none : begun_tasks (actor_begun w.image b e) ≡ 0 = ap begun_tasks (one_begins w.image b e one) in
    let count : length (takes w.image b e).unjoined ≡ length a.unjoined = ap length (s.unjoined ∙ k.unjoined) in
    omega (arith, paid, few, none, count)
event_less w a e drafts (Joined j) =
    let b = rest w.image a in
    let k = kept_at_rest w.image a _ refl in
    let paid = (rest_paid w.image a _ refl).within (want.Join j.number) j.at in
    let less : tasks_of (takes w.image b (event.Join j.number j.join.how j.join.child.fuel)) + 0 < unit_work * units_of w.image (a.fuel + 1) a + tasks_of a =
    let few = join_phase w.image b j.number j.join.how j.join.child.fuel in
    let left : length (takes w.image b (event.Join j.number j.join.how j.join.child.fuel)).unjoined ≡ length (without_child b.unjoined j.number) = ap length (join_keeps_starts w.image b j.number j.join.how j.join.child.fuel).1 in
    let fewer = count_less b.unjoined j.number j.listed in
    let count : length b.unjoined ≡ length a.unjoined = ap length k.unjoined in
    omega (arith, paid, few, left, fewer, count) in
    subst (λ y. tasks_of (takes w.image b y) + begun_tasks (actor_begun w.image b y) < unit_work * units_of w.image (a.fuel + 1) a + tasks_of a) (sym j.join.is) less
event_less w a e drafts (Opens o) =
    let b = rest w.image a in
    let one = subst IsOfOne (sym o.is) tt in
    let s = takes_same w.image b e one in
    let k = kept_at_rest w.image a _ refl in
    let paid = (rest_paid w.image a _ refl).opening o.slot o.tag o.at in
    let few : phase_work (takes w.image b e).phase ≤ 2 = between_work (takes w.image b e).phase (subst (λ y. Leaves y (takes w.image b e).phase) o.is (takes_between w.image b e)) in
    let none : begun_tasks (actor_begun w.image b e) ≡ 0 = ap begun_tasks (one_begins w.image b e one) in
    let count : length (takes w.image b e).unjoined ≡ length a.unjoined = ap length (s.unjoined ∙ k.unjoined) in
    omega (arith, paid, few, none, count)
event_less w a e drafts (Releases r) =
    let b = rest w.image a in
    let one = subst IsOfOne (sym r.is) tt in
    let s = takes_same w.image b e one in
    let k = kept_at_rest w.image a _ refl in
    let paid = (rest_paid w.image a _ refl).releasing r.slot r.at in
    let few : phase_work (takes w.image b e).phase ≤ 2 = between_work (takes w.image b e).phase (subst (λ y. Leaves y (takes w.image b e).phase) r.is (takes_between w.image b e)) in
    let none : begun_tasks (actor_begun w.image b e) ≡ 0 = ap begun_tasks (one_begins w.image b e one) in
    let count : length (takes w.image b e).unjoined ≡ length a.unjoined = ap length (s.unjoined ∙ k.unjoined) in
    omega (arith, paid, few, none, count)
event_less w a e drafts (Numbers n) =
    let b = rest w.image a in
    let one = subst IsOfOne (sym n.is) tt in
    let s = takes_same w.image b e one in
    let k = kept_at_rest w.image a _ refl in
    let paid = (rest_paid w.image a _ refl).file n.opening n.at in
    let work : opening_work n.opening.number ≡ 5 = ap opening_work n.none in
    let few : phase_work (takes w.image b e).phase ≤ 4 = subst (λ y. phase_work (takes w.image b y).phase ≤ 4) (sym n.is) (number_work w.image b _) in
    let none : begun_tasks (actor_begun w.image b e) ≡ 0 = ap begun_tasks (one_begins w.image b e one) in
    let count : length (takes w.image b e).unjoined ≡ length a.unjoined = ap length (s.unjoined ∙ k.unjoined) in
    omega (arith, paid, work, few, none, count)
event_less w a e drafts (OpensFile f) =
    let b = rest w.image a in
    let one = subst IsOfOne (sym f.is) tt in
    let s = takes_same w.image b e one in
    let k = kept_at_rest w.image a _ refl in
    let paid = (rest_paid w.image a _ refl).file f.opening f.at in
    let work : opening_work f.opening.number ≡ 4 = ap opening_work f.some in
    let few : phase_work (takes w.image b e).phase ≤ 2 = subst (λ y. phase_work (takes w.image b y).phase ≤ 2) (sym f.is) (file_work w.image b f.fd _) in
    let none : begun_tasks (actor_begun w.image b e) ≡ 0 = ap begun_tasks (one_begins w.image b e one) in
    let count : length (takes w.image b e).unjoined ≡ length a.unjoined = ap length (s.unjoined ∙ k.unjoined) in
    omega (arith, paid, work, few, none, count)
event_less w a e drafts (Snaps s) =
    let b = rest w.image a in
    let k = kept_at_rest w.image a _ refl in
    let paid = (rest_paid w.image a _ refl).starting s.preparation s.at in
    let asked = event.Slot s.grant.slot (slot_ask.Snap s.grant.tag) (slot_reply_of (slot_in w.cells s.grant.slot) (slot_ask.Snap s.grant.tag)) in
    let few = snap_work w.image b s.preparation s.grant.slot s.grant.tag s.grant s.others (slot_in w.cells s.grant.slot) s.at s.left in
    let left : length s.preparation.left ≡ suc (length s.others) = ap length s.left in
    let count : length (takes w.image b asked).unjoined ≡ length a.unjoined = ap length ((takes_same w.image b asked tt).unjoined ∙ k.unjoined) in
    let less : tasks_of (takes w.image b asked) + 0 < unit_work * units_of w.image (a.fuel + 1) a + tasks_of a = omega (arith, paid, few, left, count) in
    subst (λ y. tasks_of (takes w.image b y) + begun_tasks (actor_begun w.image b y) < unit_work * units_of w.image (a.fuel + 1) a + tasks_of a) (sym s.is) less
event_less w a e drafts (GateSnaps s) =
    let b = rest w.image a in
    let k = kept_at_rest w.image a _ refl in
    let paid = (rest_paid w.image a _ refl).making s.preparation (omega (arith, s.granting.few, few_copies b drafts)) s.at in
    let asked = event.Slot s.grant.slot (slot_ask.Snap s.grant.tag) (slot_reply_of (slot_in w.cells s.grant.slot) (slot_ask.Snap s.grant.tag)) in
    let few = gate_snap_work w.image b s.preparation s.grant.slot s.grant.tag s.grant s.others (slot_in w.cells s.grant.slot) s.at s.left in
    let left : length s.preparation.left ≡ suc (length s.others) = ap length s.left in
    let count : length (takes w.image b asked).unjoined ≡ length a.unjoined = ap length ((takes_same w.image b asked tt).unjoined ∙ k.unjoined) in
    let less : tasks_of (takes w.image b asked) + 0 < unit_work * units_of w.image (a.fuel + 1) a + tasks_of a = omega (arith, paid, few, left, count) in
    subst (λ y. tasks_of (takes w.image b y) + begun_tasks (actor_begun w.image b y) < unit_work * units_of w.image (a.fuel + 1) a + tasks_of a) (sym s.is) less
event_less w a e drafts (Started s) =
    let b = rest w.image a in
    let k = kept_at_rest w.image a _ refl in
    let paid = (rest_paid w.image a _ refl).starting s.preparation s.at in
    let few = started_tasks w.image b (child_name b.name (next_start b)) in
    let count : length b.unjoined ≡ length a.unjoined = ap length k.unjoined in
    subst (λ y. tasks_of (takes w.image b y) + begun_tasks (actor_begun w.image b y) < unit_work * units_of w.image (a.fuel + 1) a + tasks_of a) (sym s.is) (omega (arith, paid, few, count))
event_less w a e drafts (LastJoined j) =
    let b = rest w.image a in
    let k = kept_at_rest w.image a _ refl in
    let paid = (rest_paid w.image a _ refl).ending j.end_ j.at in
    let less : tasks_of (takes w.image b (event.Join j.first.0 j.join.how j.join.child.fuel)) + 0 < unit_work * units_of w.image (a.fuel + 1) a + tasks_of a =
    let few = last_phase w.image b j.first.0 j.join.how j.end_ j.join.child.fuel j.at in
    let left : length (takes w.image b (event.Join j.first.0 j.join.how j.join.child.fuel)).unjoined ≡ length (without_child b.unjoined j.first.0) = ap length (join_keeps_starts w.image b j.first.0 j.join.how j.join.child.fuel).1 in
    let fewer = count_less b.unjoined j.first.0 (subst (λ cs. is_child cs j.first.0 ≡ true) (sym j.left) (first_child j.first j.others)) in
    let count : length b.unjoined ≡ length a.unjoined = ap length k.unjoined in
    omega (arith, paid, few, left, fewer, count) in
    subst (λ y. tasks_of (takes w.image b y) + begun_tasks (actor_begun w.image b y) < unit_work * units_of w.image (a.fuel + 1) a + tasks_of a) (sym j.join.is) less
event_less w a e drafts (EntersGate x) = entry_less w a e (fresh_entry w (rest w.image a) e x)
event_less w a e drafts (EntersRecycled x) = entry_less w a e (recycled_entry w (rest w.image a) e x)
event_less w a e drafts (LeavesRecycled l) =
    let b = rest w.image a in
    let paid = (rest_paid w.image a _ refl).ending l.end_ l.at in
    let few = recycled_left_tasks w.image b l.end_ l.gate.id b.memory in
    let none : length b.unjoined ≡ 0 = ap length l.left in
    subst (λ y. tasks_of (takes w.image b y) + begun_tasks (actor_begun w.image b y) < unit_work * units_of w.image (a.fuel + 1) a + tasks_of a) (sym l.is) (omega (arith, paid, few, none))
event_less w a e drafts (LeavesGate l) =
    let b = rest w.image a in
    let paid = (rest_paid w.image a _ refl).ending l.end_ l.at in
    let few = left_tasks w.image b l.end_ in
    let none : length b.unjoined ≡ 0 = ap length l.left in
    subst (λ y. tasks_of (takes w.image b y) + begun_tasks (actor_begun w.image b y) < unit_work * units_of w.image (a.fuel + 1) a + tasks_of a) (sym l.is) (omega (arith, paid, few, none))
event_less w a e drafts (Ended f) =
    let b = rest w.image a in
    let paid = (rest_paid w.image a _ refl).ending f.end_ f.at in
    let few = ended_tasks w.image b f.end_ in
    let none : length b.unjoined ≡ 0 = ap length f.left in
    subst (λ y. tasks_of (takes w.image b y) + begun_tasks (actor_begun w.image b y) < unit_work * units_of w.image (a.fuel + 1) a + tasks_of a) (sym f.is) (omega (arith, paid, few, none))

-- an actor that goes on has no more to do than it had
goes_working : (w : WorldState) (a : ActorState) → Family w.actors → actor_named w.actors a.name ≡ Some a → tasks_in (resumed w a).actors ≤ tasks_in w.actors
goes_working w a f there = by_case (readies w.actors a)
  where
    by_case : Readies w.actors a → tasks_in (resumed w a).actors ≤ tasks_in w.actors
    by_case (Stays is) = let same_tasks : tasks_in (resumed w a).actors ≡ tasks_in w.actors = ap tasks_in (ap (put_actor w.actors) is ∙ put_same w.actors a there) in omega (arith, same_tasks)
    by_case (Back k at r is) =
        let x = back a k r.how r.run.fuel in
        let put = tasks_put w.actors a x refl there in
        let fewer = count_less a.unjoined k (subst (λ p. WaitsForOwn p a.unjoined) at (f.waits a.name a there)) in
        let work : phase_work a.phase ≡ 1 = ap phase_work at in
        let same_tasks : tasks_in (resumed w a).actors ≡ tasks_in (put_actor w.actors x) = ap (λ y. tasks_in (put_actor w.actors y)) is in
        omega (arith, put, fewer, work, same_tasks)

pub turn_works : (w : WorldState) (name : List ℕ) (e : Event) (new : WorldState) → AllReady w → Family w.actors → turn_of w name ≡ Some (record { event = e; world = new }) → work_left new < work_left w
turn_works w name e new all f t =
    let p = turn_from w name e new t in
    let v = resumed w p.actor in
    let a = p.parts.actor in
    let b = rest w.image a in
    let x = takes w.image b e in
    let there : actor_named v.actors a.name ≡ Some a = ap (actor_named v.actors) (found_name v.actors name a p.parts.named) ∙ p.parts.named in
    let put = tasks_put v.actors a x (takes_name w.image b e ∙ rest-name w.image a) there in
    let more = tasks_begun (put_actor v.actors x) (actor_begun w.image b e) in
    let is : tasks_in new.actors ≡ tasks_in (with_begun (put_actor v.actors x) (actor_begun w.image b e)) = ap (λ (v : WorldState). tasks_in v.actors) p.parts.new_is in
    let few = subst (λ (y : ActorState). AreFew (rest w.image y).drafts) (sym p.is) (actor_few w name p.actor all p.named) in
    let less = event_less v a e few (turn_happens w name e new all p) in
    let goes = goes_working w p.actor f (turned_there w name p.actor p.named) in
    let units : units_of_turn w.image (ready w.actors p.actor) e ≡ units_of_turn w.image a e = ap (λ y. units_of_turn w.image y e) (sym p.is) in
    let fuel = (turn_keeps w name e new p.actor all f p.named t).fuel in
    omega (arith, put, more, is, less, fuel, goes, units)

runs_work : (old : WorldState) (turns : List Turn) (new : WorldState) → AllReady old → Family old.actors → Runs old turns new → work_left new + length turns ≤ work_left old
runs_work old [] new all f run = let same : work_left new ≡ work_left old = ap (λ (w : WorldState). work_left w) run in omega (arith, same)
runs_work old (t ∷ ts) new all f run =
    let others = runs_work run.0 ts new (turn_ready old t.actor t.event run.0 all run.1) (turn_family old t.actor t.event run.0 all f run.1) run.2 in
    let less = turn_works old t.actor t.event run.0 all f run.1 in
    omega (arith, others, less)

work_at_first : (i : Image) → work_left (initial_state i) ≡ most_turns i.fuel
unfolding root
work_at_first i = omega arith

pub runs_end : RunsEnd
runs_end i turns new run = let few = runs_work (initial_state i) turns new (opening_ready i) (opening_family i) run in let work = work_at_first i in omega (arith, few, work)
