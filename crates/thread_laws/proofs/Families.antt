-- What the thread of an actor returns are the logs of a family.
use Rattle.std.proofs.Common.{◌≡◌, ℕ, zero, suc, ◌+◌, ◌<◌, ◌≤◌, true, List, [], ◌∷◌, ◌++◌, length, refl, sym, ap, subst, ◌∙◌, arith, inl, inr}
use Rattle.std.proofs.lemmas.Bool.Decides.{nat_tests}
use Rattle.std.proofs.lemmas.List.{map-append, length-append, append-nil, append_assoc}
use Rattle.std.specs.Prelude.{Option, Some, None, Bool, false, map, slice_get, slice_set, option_map, nat_lt, if◌then◌else◌}
use Rattle.journal_cell.specs.Histories.{greater}
use Rattle.cow_pages.specs.PrivateMemory.{PrivateMemory}
use Rattle.wedge_base.specs.Images.{Image}
use Rattle.wedge_base.specs.declared.rights.End.{End}
use Rattle.wedge_events.specs.declared.cells.GateAsk.TheVariants as gate_ask
use Rattle.wedge_events.specs.declared.cells.GateReply.TheVariants as gate_reply
use Rattle.wedge_events.specs.declared.events.Event.{Event}
use Rattle.wedge_events.specs.declared.events.Event.TheVariants as event
use Rattle.wedge_events.specs.declared.events.LogEntry.{LogEntry}
use Rattle.machine.specs.declared.phase.Phase.{Phase}
use Rattle.machine.specs.declared.phase.Phase.TheVariants as phase
use Rattle.machine.specs.Actors.{ActorState}
use Rattle.machine.specs.Children.{child_name, without_child}
use Rattle.machine.specs.Local.{rest, is_running, has_ended, end_reached}
use Rattle.machine.specs.Take.{next_start, takes, actor_begun, child_of, run_by, run_at}
use Rattle.machine.proofs.Resting.{rest-name}
use Rattle.run_laws.specs.Walks.{Asks, IsEntryOf}
use Rattle.machine.specs.Worlds.{ended_with}
use Rattle.run_laws.proofs.Between.{joined_is, takes_name}
use Rattle.run_laws.proofs.FamilyRuns.{kept_at_rest}
use Rattle.thread_laws.specs.declared.gathered.ActorLog.{ActorLog}
use Rattle.thread_laws.specs.declared.gathered.ActorEnd.{ActorEnd}
use Rattle.thread_laws.specs.ActorProgresses.{ActorProgress, at_creation, after_rest, after_entry, after_run, CreatedActor, created_actor, NoJoin, IsProgress, begun, rests, does, starts, learns, joins, resumes, IsLogLeft, Families, another, ReturnedLogsAreFamilies}
use Rattle.thread_laws.specs.ActorProgresses.{nobody as none_left}
use Rattle.thread_laws.specs.Joining.{IsEndOf, IsExecutionLog, AreLogs}
use Rattle.thread_laws.specs.Forests.{Forest, nobody, someone, executions, AllLearnedIn, IsTreeOf, IsForestOf}
use Rattle.thread_laws.specs.Executions.{LearnedEnd, learned_of, at_next_event, after_entries, clock_after, name_begun, IsBeginning, Begins, IsJoinLearned, IsNext, IsWalkWith, Execution, final_state, final_stamp, IsExecution, Creation, with_creation, creations}
use Rattle.thread_laws.proofs.Creations.{more_starts, takes_starts}
use Rattle.thread_laws.proofs.ActorProgresses.{IsMore, and_some, walk_more, walk_behind, after_entries_behind, stamp_behind, creations_behind, learned_end, with_learned, learned_from, learned_in, learned_at, more_behind, more_set, creation_of, creations_set, set_size, Since, Straight, since_more, since_rests, there, since_back, since_ended}
use Rattle.thread_laws.proofs.Joining.{after_entries_name}

-- ---- who begins

-- whoever begins is named, and has begun nobody yet
record IsBegun (e : Event) (c : ActorState) : Type 0 where
  named : name_begun e ≡ Some c.name
  fresh : c.starts ≡ 0

run_fresh : (b : ActorState) (run : List ℕ) (kept : Option PrivateMemory) (p : Phase) (c : ActorState) → run_at b run kept p ≡ Some c → (c.name ≡ run) × (c.starts ≡ 0)
run_fresh b run kept (phase.Entering x) c is = let one : run_by b run kept x ≡ c = cc in (ap (λ (y : ActorState). y.name) (sym one), ap (λ (y : ActorState). y.starts) (sym one))
run_fresh b run kept p c is = absurd cc

is_begun : (i : Image) (b : ActorState) (e : Event) (c : ActorState) → actor_begun i b e ≡ Some c → IsBegun e c
is_begun i b (event.Start child) c is = let one : child_of i b child ≡ c = cc in record { named = ap (λ (y : ActorState). Some y.name) one; fresh = ap (λ (y : ActorState). y.starts) (sym one) }
is_begun i b (event.Enter run) c is = let r = run_fresh b run None b.phase c is in record { named = ap (λ n. Some n) (sym r.0); fresh = r.1 }
is_begun i b (event.Gate id (gate_ask.Enter run first) (gate_reply.Entered memory)) c is = let r = run_fresh b run (Some memory) b.phase c is in record { named = ap (λ n. Some n) (sym r.0); fresh = r.1 }
is_begun i b e c is = absurd cc

-- an event that names nobody begins nobody, and one that names somebody is no join
none_begun : (i : Image) (b : ActorState) (e : Event) → name_begun e ≡ None → actor_begun i b e ≡ None
none_begun i b (event.Start child) is = absurd cc
none_begun i b (event.Enter run) is = absurd cc
none_begun i b (event.Gate id (gate_ask.Enter run first) r) is = absurd cc
none_begun i b e is = refl

named_no_join : (learned : List LearnedEnd) (e : Event) (n : List ℕ) (s : ℕ) → name_begun e ≡ Some n → IsJoinLearned learned e s
named_no_join learned (event.Join k how fuel) n s is = absurd cc
named_no_join learned e n s is = tt

no_join : (learned : List LearnedEnd) (e : Event) (s : ℕ) → NoJoin e → IsJoinLearned learned e s
no_join learned (event.Join k how fuel) s h = absurd h
no_join learned e s h = tt

-- ---- created actors by their numbers

abbrev pub AreNext : List ℕ → ℕ → List CreatedActor → Type 0
AreNext name n [] = Unit {0}
AreNext name n (k ∷ ks) = (k.began.name ≡ child_name name n) × (k.began.starts ≡ 0) × AreNext name (n + 1) ks

next_behind : (name : List ℕ) (n : ℕ) (ks : List CreatedActor) (k : CreatedActor) → AreNext name n ks → k.began.name ≡ child_name name (n + length ks) → k.began.starts ≡ 0 → AreNext name n (ks ++ k ∷ [])
next_behind name n [] k h named fresh = (named ∙ ap (child_name name) (omega arith), fresh, tt)
next_behind name n (x ∷ ks) k h named fresh = (h.0, h.1, next_behind name (n + 1) ks k h.2 (named ∙ ap (child_name name) (omega arith)) fresh)

next_set : (name : List ℕ) (n : ℕ) (ks : List CreatedActor) (index : ℕ) (k : CreatedActor) (t : ActorEnd) → slice_get ks index ≡ Some k → AreNext name n ks → AreNext name n (slice_set ks index (record k { learned = Some t }))
next_set name n [] index k t at h = tt
next_set name n (x ∷ ks) zero k t at h = let one : x ≡ k = cc in (subst (λ (y : CreatedActor). y.began.name ≡ child_name name n) one h.0, subst (λ (y : CreatedActor). y.began.starts ≡ 0) one h.1, h.2)
next_set name n (x ∷ ks) (suc index) k t at h = (h.0, h.1, next_set name (n + 1) ks index k t at h.2)

-- ---- what a progress says

pub record Knows (i : Image) (learned : List LearnedEnd) (r : ActorProgress) (created : List CreatedActor) : Type 0 where
  pub walk : IsWalkWith i learned r.began r.low r.entries
  pub since : Since i learned (after_entries i learned r.began r.entries) r.state r.clock
  pub creations_ : creations i learned r.began r.entries ≡ map creation_of created
  pub clock : clock_after r.low r.entries ≤ r.clock
  pub name : r.state.name ≡ r.began.name
  pub starts_ : r.state.starts ≡ r.began.starts + length created
  pub named : AreNext r.began.name (r.began.starts + 1) created

knows_more : (i : Image) (old new : List LearnedEnd) (r : ActorProgress) (created : List CreatedActor) → IsMore old new → Knows i old r created → Knows i new r created
knows_more i old new r created more h =
    let s = walk_more i old new more r.began r.low r.entries h.walk in
    record {
      walk = s.walk;
      since = subst (λ g. Since i new g r.state r.clock) (sym s.after_entries_) (since_more i old new more (after_entries i old r.began r.entries) r.state r.clock h.since);
      creations_ = s.creations_ ∙ h.creations_;
      clock = h.clock;
      name = h.name;
      starts_ = h.starts_;
      named = h.named;
    }

-- one entry more
record OneMore (i : Image) (learned : List LearnedEnd) (r new : ActorProgress) : Type 0 where
  walk : IsWalkWith i learned new.began new.low new.entries
  since : Since i learned (after_entries i learned new.began new.entries) new.state new.clock
  clock : clock_after new.low new.entries ≤ new.clock
  name : new.state.name ≡ new.began.name

one_more : (i : Image) (learned : List LearnedEnd) (r : ActorProgress) (created : List CreatedActor) (e : LogEntry) → Knows i learned r created → IsEntryOf r.state r.clock e → Begins i r.state e.event (name_begun e.event) → IsJoinLearned learned e.event e.stamp
    → OneMore i learned r (after_entry i r e)
one_more i learned r created e h own begins_so child =
    let g = after_entries i learned r.began r.entries in
    let at = there i learned g r.state r.clock own.event.want own.event.wants h.since in
    let le = h.clock in
    let less = own.above in
    let next : IsNext i learned g (clock_after r.low r.entries) e = record {
      above = omega (arith, le, less);
      own = own.own ∙ (h.name ∙ sym (after_entries_name i learned r.began r.entries));
      asked = subst (λ x. Asks x e.event) at.is own.event;
      begins = subst (λ x. Begins i x e.event (name_begun e.event)) at.is begins_so;
      run = at.run e.stamp own.above;
      child = child;
    } in
    let leads : after_entries i learned r.began (r.entries ++ e ∷ []) ≡ takes i r.state e.event = after_entries_behind i learned r.began r.entries e ∙ ap (λ x. takes i x e.event) (sym at.is) in
    record {
      walk = walk_behind i learned r.began r.low r.entries e h.walk next;
      since = Straight (ap (rest i) (sym leads));
      clock = (let is = stamp_behind r.low r.entries e in omega (arith, is));
      name = takes_name i r.state e.event ∙ h.name;
    }

more_creations : (i : Image) (learned : List LearnedEnd) (r : ActorProgress) (created : List CreatedActor) (e : LogEntry) → Knows i learned r created → IsEntryOf r.state r.clock e
    → creations i learned r.began (r.entries ++ e ∷ []) ≡ map creation_of created ++ with_creation (actor_begun i r.state e.event) e.stamp []
more_creations i learned r created e h own =
    let g = after_entries i learned r.began r.entries in
    let at = there i learned g r.state r.clock own.event.want own.event.wants h.since in
    creations_behind i learned r.began r.entries e
    ∙ (ap (λ bs. bs ++ with_creation (actor_begun i (at_next_event i learned g) e.event) e.stamp []) h.creations_
    ∙ ap (λ x. map creation_of created ++ with_creation (actor_begun i x e.event) e.stamp []) (sym at.is))

-- an entry by which nobody begins
goes_alone : (i : Image) (learned : List LearnedEnd) (r : ActorProgress) (created : List CreatedActor) (e : LogEntry) → Knows i learned r created → IsEntryOf r.state r.clock e → name_begun e.event ≡ None → IsJoinLearned learned e.event e.stamp → Knows i learned (after_entry i r e) created
goes_alone i learned r created e h own none child =
    let nobody_begins : actor_begun i r.state e.event ≡ None = none_begun i r.state e.event none in
    let so : Begins i r.state e.event (name_begun e.event) = subst (Begins i r.state e.event) (sym none) nobody_begins in
    let m = one_more i learned r created e h own so child in
    record {
      walk = m.walk;
      since = m.since;
      creations_ = more_creations i learned r created e h own ∙ (ap (λ o. map creation_of created ++ with_creation o e.stamp []) nobody_begins ∙ append-nil (map creation_of created));
      clock = m.clock;
      name = m.name;
      starts_ = takes_starts i r.state e.event so ∙ (ap (λ o. more_starts o r.state.starts) nobody_begins ∙ h.starts_);
      named = h.named;
    }

-- an entry by which one begins
begins_one : (i : Image) (learned : List LearnedEnd) (r : ActorProgress) (created : List CreatedActor) (k : CreatedActor) (e : LogEntry) → Knows i learned r created → IsEntryOf r.state r.clock e → actor_begun i r.state e.event ≡ Some k.began
    → k.began.name ≡ child_name r.state.name (next_start r.state) → k.stamp ≡ e.stamp → Knows i learned (after_entry i r e) (created ++ k ∷ [])
begins_one i learned r created k e h own begins_so next stamp =
    let b = is_begun i r.state e.event k.began begins_so in
    let beginning : IsBeginning i r.state e.event k.began.name = record { next = next; child = k.began; begun = begins_so } in
    let so : Begins i r.state e.event (name_begun e.event) = subst (Begins i r.state e.event) (sym b.named) beginning in
    let m = one_more i learned r created e h own so (named_no_join learned e.event k.began.name e.stamp b.named) in
    let size : length (created ++ k ∷ []) ≡ length created + 1 = length-append created (k ∷ []) in
    let count = takes_starts i r.state e.event so ∙ ap (λ o. more_starts o r.state.starts) begins_so in
    let was = h.starts_ in
    let number : r.state.starts + 1 ≡ r.began.starts + 1 + length created = omega (arith, was) in
    record {
      walk = m.walk;
      since = m.since;
      creations_ = more_creations i learned r created e h own
          ∙ (ap (λ o. map creation_of created ++ with_creation o e.stamp []) begins_so
          ∙ (ap (λ s. map creation_of created ++ record { began = k.began; stamp = s } ∷ []) (sym stamp) ∙ sym (map-append creation_of created (k ∷ []))));
      clock = m.clock;
      name = m.name;
      starts_ = omega (arith, count, was, size);
      named = next_behind r.began.name (r.began.starts + 1) created k h.named (next ∙ (ap (λ n. child_name n (r.state.starts + 1)) h.name ∙ ap (child_name r.began.name) number)) b.fresh;
    }

-- the number of the one at an index
numbered_at : (created : List CreatedActor) (index : ℕ) (k : CreatedActor) (t : ActorEnd) → slice_get created index ≡ Some k → k.learned ≡ Some t → learned_of (learned_in created) (index + 1) ≡ Some (learned_end (index + 1) t)
numbered_at created index k t at learned =
    let swap : 1 + index ≡ index + 1 = omega arith in
    subst (λ n. learned_of (learned_in created) n ≡ Some (learned_end n t)) swap (learned_at 1 created index k t at learned)

-- a stamp above the greater of two clocks is above the second
above_greater : (a b s : ℕ) → s ≡ greater a b + 1 → b < s
above_greater a b s is = by_order (nat_lt a b) refl is
  where
    by_order : (t : Bool) → nat_lt a b ≡ t → s ≡ (if t then b else a) + 1 → b < s
    by_order true order is_stamp = omega (arith, is_stamp)
    by_order false order is_stamp = grind (arith, nat_tests, order, is_stamp)

knows : (i : Image) (r : ActorProgress) (created : List CreatedActor) → IsProgress i r created → Knows i (learned_in created) r created
knows i r created (begun a low new ks is none) =
    let first : Knows i (learned_in []) (at_creation a low) [] = record { walk = tt; since = Straight refl; creations_ = refl; clock = omega arith; name = refl; starts_ = omega arith; named = tt } in
    subst (λ x. Knows i (learned_in x) new x) (sym none) (subst (λ x. Knows i (learned_in []) x []) (sym is) first)
knows i r created (rests old new ks c is) =
    let h = knows i old ks c in
    let so : Knows i (learned_in ks) (after_rest i old) ks = record {
      walk = h.walk;
      since = since_rests i (learned_in ks) (after_entries i (learned_in ks) old.began old.entries) old.state old.clock h.since;
      creations_ = h.creations_;
      clock = h.clock;
      name = rest-name i old.state ∙ h.name;
      starts_ = (kept_at_rest i old.state (is_running old.state.phase) refl).starts ∙ h.starts_;
      named = h.named;
    } in
    subst (λ x. Knows i (learned_in ks) x ks) (sym is) so
knows i r created (does old new ks e c own stamped none lone is) =
    subst (λ x. Knows i (learned_in ks) x ks) (sym is) (goes_alone i (learned_in ks) old ks e (knows i old ks c) own none (no_join (learned_in ks) e.event e.stamp lone))
knows i r created (starts old new ks more k e c own stamped begins_so next enough stamp unlearned is grown) =
    let h = knows_more i (learned_in ks) (learned_in (ks ++ k ∷ [])) old ks (more_behind 1 ks k) (knows i old ks c) in
    let so = begins_one i (learned_in (ks ++ k ∷ [])) old ks k e h own begins_so next stamp in
    subst (λ x. Knows i (learned_in x) new x) (sym grown) (subst (λ x. Knows i (learned_in (ks ++ k ∷ [])) x (ks ++ k ∷ [])) (sym is) so)
knows i r created (learns way ks more index k t c at learned within grown) =
    let new = slice_set ks index (record k { learned = Some t }) in
    let h = knows_more i (learned_in ks) (learned_in new) way ks (more_set 1 ks index k t at learned) (knows i way ks c) in
    let so : Knows i (learned_in new) way new = record {
      walk = h.walk;
      since = h.since;
      creations_ = h.creations_ ∙ sym (creations_set ks index k t at);
      clock = h.clock;
      name = h.name;
      starts_ = h.starts_ ∙ ap (λ n. way.began.starts + n) (sym (set_size ks index (record k { learned = Some t })));
      named = next_set way.began.name (way.began.starts + 1) ks index k t at h.named;
    } in
    subst (λ x. Knows i (learned_in x) way x) (sym grown) so
knows i r created (joins old new ks e index k t c own at learned listed event_is is_stamp is) =
    let found = numbered_at ks index k t at learned in
    let less : t.last < e.stamp = above_greater old.clock t.last e.stamp is_stamp in
    let so : IsJoinLearned (learned_in ks) (event.Join (index + 1) t.how t.fuel) e.stamp = and_some (λ (u : LearnedEnd). (u.how ≡ t.how) × (u.fuel ≡ t.fuel) × (u.stamp < e.stamp)) (learned_of (learned_in ks) (index + 1)) (learned_end (index + 1) t) found (refl, refl, less) in
    subst (λ x. Knows i (learned_in ks) x ks) (sym is)
    (goes_alone i (learned_in ks) old ks e (knows i old ks c) own (ap name_begun event_is) (subst (λ x. IsJoinLearned (learned_in ks) x e.stamp) (sym event_is) so))
knows i r created (resumes old new ks index k t c waits at learned listed le is) =
    let h = knows i old ks c in
    let found = numbered_at ks index k t at learned in
    let was = h.clock in
    let so : Knows i (learned_in ks) (after_run old (index + 1) t) ks = record {
      walk = h.walk;
      since = since_back i (learned_in ks) (after_entries i (learned_in ks) old.began old.entries) old.state old.clock (index + 1) (learned_end (index + 1) t) waits found h.since;
      creations_ = h.creations_;
      clock = omega (arith, was, le);
      name = joined_is (λ x. x.name ≡ old.state.name) (record old.state { fuel = old.state.fuel + t.fuel; unjoined = without_child old.state.unjoined (index + 1) }) old.state.phase t.how refl refl ∙ h.name;
      starts_ = joined_is (λ x. x.starts ≡ old.state.starts) (record old.state { fuel = old.state.fuel + t.fuel; unjoined = without_child old.state.unjoined (index + 1) }) old.state.phase t.how refl refl ∙ h.starts_;
      named = h.named;
    } in
    subst (λ x. Knows i (learned_in ks) x ks) (sym is) so

pub progress_knows : (i : Image) (r : ActorProgress) (created : List CreatedActor) → IsProgress i r created → Knows i (learned_in created) r created
progress_knows i r created c = knows i r created c

-- ---- forest, and how they ended

-- how the execution of a created actor ended is as was learned
abbrev IsEnding : Image → CreatedActor → Execution → Type 0
IsEnding i k l = (t : ActorEnd) → k.learned ≡ Some t → (ended_with (Some (final_state i l)) ≡ Some (t.how, t.fuel)) × (final_stamp l ≤ t.last)

abbrev AreEndings : Image → List CreatedActor → Forest → Type 0
AreEndings i [] nobody = Unit {0}
AreEndings i [] (someone l its next) = ⊥
AreEndings i (k ∷ ks) nobody = ⊥
AreEndings i (k ∷ ks) (someone l its next) = IsEnding i k l × AreEndings i ks next

learned_later : (i : Image) (name : List ℕ) (ts : List LearnedEnd) (l : Execution) (its next : Forest) → AllLearnedIn i name ts next → AllLearnedIn i name ts (someone l its next)
learned_later i name [] l its next h = tt
learned_later i name (t ∷ ts) l its next h = (inr h.0, learned_later i name ts l its next h.1)

-- so what was learned of them is so
created_learned : (i : Image) (name : List ℕ) (n : ℕ) (ks : List CreatedActor) (f : Forest) → AreNext name n ks → IsForestOf i (map creation_of ks) f → AreEndings i ks f → AllLearnedIn i name (learned_from n ks) f
created_learned i name n [] f next forest ends = tt
created_learned i name n (k ∷ ks) nobody next forest ends = absurd forest
created_learned i name n (k ∷ ks) (someone l its others) next forest ends = by_learned k.learned refl (learned_later i name (learned_from (n + 1) ks) l its others (created_learned i name (n + 1) ks others next.2 forest.2 ends.1))
  where
    by_learned : (o : Option ActorEnd) → k.learned ≡ o → AllLearnedIn i name (learned_from (n + 1) ks) (someone l its others) → AllLearnedIn i name (with_learned n o (learned_from (n + 1) ks)) (someone l its others)
    by_learned None is rest_ = rest_
    by_learned (Some t) is rest_ =
        let e = ends.0 t is in
        (inl (record { number = ap (λ (x : ActorState). x.name) forest.0.began ∙ next.0; ended = e.0; stamp = e.1 }), rest_)

-- ---- one behind the others

abbrev behind : Forest → Execution → Forest → Forest
behind nobody l its = someone l its nobody
behind (someone k mine next) l its = someone k mine (behind next l its)

forest_behind : (i : Image) (bs : List Creation) (b : Creation) (f : Forest) (l : Execution) (its : Forest) → IsForestOf i bs f → IsTreeOf i b l its → IsForestOf i (creations i l.learned l.began l.entries) its → IsForestOf i (bs ++ b ∷ []) (behind f l its)
forest_behind i [] b nobody l its h k m = (k, m, tt)
forest_behind i [] b (someone x mine next) l its h k m = absurd h
forest_behind i (c ∷ cs) b nobody l its h k m = absurd h
forest_behind i (c ∷ cs) b (someone x mine next) l its h k m = (h.0, h.1, forest_behind i cs b next l its h.2 k m)

endings_behind : (i : Image) (ks : List CreatedActor) (k : CreatedActor) (f : Forest) (l : Execution) (its : Forest) → AreEndings i ks f → IsEnding i k l → AreEndings i (ks ++ k ∷ []) (behind f l its)
endings_behind i [] k nobody l its h e = (e, tt)
endings_behind i [] k (someone x mine next) l its h e = absurd h
endings_behind i (j ∷ js) k nobody l its h e = absurd h
endings_behind i (j ∷ js) k (someone x mine next) l its h e = (h.0, endings_behind i js k next l its h.1 e)

logs_append : (i : Image) (ls ks : List Execution) (gs hs : List ActorLog) → AreLogs i ls gs → AreLogs i ks hs → AreLogs i (ls ++ ks) (gs ++ hs)
logs_append i [] ks [] hs h k = k
logs_append i [] ks (g ∷ gs) hs h k = absurd h
logs_append i (l ∷ ls) ks [] hs h k = absurd h
logs_append i (l ∷ ls) ks (g ∷ gs) hs h k = (h.0, logs_append i ls ks gs hs h.1 k)

executions_behind : (f : Forest) (l : Execution) (its : Forest) → executions (behind f l its) ≡ executions f ++ l ∷ executions its
executions_behind nobody l its = ap (λ ls. l ∷ ls) (append-nil (executions its))
executions_behind (someone x mine next) l its = ap (λ ls. x ∷ (executions mine ++ ls)) (executions_behind next l its) ∙ ap (λ ls. x ∷ ls) (sym (append_assoc (executions mine) (executions next) (l ∷ executions its)))

-- ---- families

abbrev AllFresh : List CreatedActor → Type 0
AllFresh [] = Unit {0}
AllFresh (k ∷ ks) = (k.began.starts ≡ 0) × AllFresh ks

next_fresh : (name : List ℕ) (n : ℕ) (ks : List CreatedActor) → AreNext name n ks → AllFresh ks
next_fresh name n [] h = tt
next_fresh name n (k ∷ ks) h = (h.1, next_fresh name (n + 1) ks h.2)

fresh_before : (ks : List CreatedActor) (k : CreatedActor) → AllFresh (ks ++ k ∷ []) → AllFresh ks × (k.began.starts ≡ 0)
fresh_before [] k h = (tt, h.0)
fresh_before (x ∷ ks) k h = let r = fresh_before ks k h.1 in ((h.0, r.0), r.1)

record HasForest (i : Image) (created : List CreatedActor) (logs : List ActorLog) : Type 0 where
  forest : Forest
  are : IsForestOf i (map creation_of created) forest
  endings : AreEndings i created forest
  logs_ : AreLogs i (executions forest) logs

-- the execution of one that left a log
abbrev execution_of : ActorProgress → List CreatedActor → Execution
execution_of way its = record { began = way.began; low = way.low; entries = way.entries; learned = learned_in its }

record IsWhole (i : Image) (k : CreatedActor) (way : ActorProgress) (its : List CreatedActor) (own : ActorLog) (t : ActorEnd) : Type 0 where
  execution : IsExecution i (execution_of way its)
  ending : IsEnding i k (execution_of way its)
  log : IsExecutionLog i (execution_of way its) own
  creations_ : creations i (learned_in its) way.began way.entries ≡ map creation_of its
  named : AreNext way.began.name 1 its

whole_execution : (i : Image) (k : CreatedActor) (way : ActorProgress) (its : List CreatedActor) (own : ActorLog) (t : ActorEnd) → k.began.starts ≡ 0 → IsProgress i way its → IsLogLeft i k way own t → IsWhole i k way its own t
whole_execution i k way its own t fresh progress left =
    let h = knows i way its progress in
    let ended_so : way.state.phase ≡ phase.Ended t.how = left.end_.ended ∙ ap (λ e. phase.Ended e) left.how in
    let over : has_ended way.state.phase ≡ true = ap has_ended ended_so in
    let left_is : final_state i (execution_of way its) ≡ way.state = since_ended i (learned_in its) (after_entries i (learned_in its) way.began way.entries) way.state way.clock over h.since in
    let le = h.clock in
    let clock_is = left.clock in
    let stamp : final_stamp (execution_of way its) ≤ t.last = omega (arith, le, clock_is) in
    let first : way.began.starts + 1 ≡ 1 = ap (λ n. n + 1) (ap (λ (x : ActorState). x.starts) left.began ∙ fresh) in
    let ended : ended_with (Some (final_state i (execution_of way its))) ≡ Some (t.how, t.fuel) =
    ap (λ x. ended_with (Some x)) left_is ∙ (ap (λ p. option_map (λ (e : End). (e, way.state.fuel)) (end_reached p)) ended_so ∙ ap (λ f. Some (t.how, f)) (sym left.end_.fuel ∙ left.fuel)) in
    record {
      execution = record { walk = h.walk; ended = ap (λ (x : ActorState). has_ended x.phase) left_is ∙ over };
      ending = λ u learned.
          let same_learned : Some t ≡ Some u = sym left.learned ∙ learned in
          let one : t ≡ u = cc in
          (ended ∙ ap (λ (x : ActorEnd). Some (x.how, x.fuel)) one, subst (λ (x : ActorEnd). final_stamp (execution_of way its) ≤ x.last) one stamp);
      log = record { entries = left.entries; end_ = subst (λ x. IsEndOf x own) (sym left_is) left.end_ };
      creations_ = h.creations_;
      named = subst (λ n. AreNext way.began.name n its) first h.named;
    }

families_forest : (i : Image) (created : List CreatedActor) (logs : List ActorLog) → AllFresh created → Families i created logs → HasForest i created logs
families_forest i created logs fresh (none_left ks gs none empty) =
    let so : HasForest i [] [] = record { forest = nobody; are = tt; endings = tt; logs_ = tt } in
    subst (λ x. HasForest i x gs) (sym none) (subst (HasForest i []) (sym empty) so)
families_forest i created logs fresh (another ks more gs all k way its own others t fam progress left mine grown more_logs) =
    let f = fresh_before ks k (subst AllFresh grown fresh) in
    let w = whole_execution i k way its own t f.1 progress left in
    let first = families_forest i ks gs f.0 fam in
    let second = families_forest i its others (next_fresh way.began.name 1 its w.named) mine in
    let l = execution_of way its in
    let forest_of : IsTreeOf i (creation_of k) l second.forest = record { began = left.began; low = left.low; execution = w.execution; learned = created_learned i way.began.name 1 its second.forest w.named second.are second.endings } in
    let so : HasForest i (ks ++ k ∷ []) (gs ++ own ∷ others) = record {
      forest = behind first.forest l second.forest;
      are = subst (λ bs. IsForestOf i bs (behind first.forest l second.forest)) (sym (map-append creation_of ks (k ∷ []))) (forest_behind i (map creation_of ks) (creation_of k) first.forest l second.forest first.are forest_of (subst (λ bs. IsForestOf i bs second.forest) (sym w.creations_) second.are));
      endings = endings_behind i ks k first.forest l second.forest first.endings w.ending;
      logs_ = subst (λ ls. AreLogs i ls (gs ++ own ∷ others)) (sym (executions_behind first.forest l second.forest)) (logs_append i (executions first.forest) (l ∷ executions second.forest) gs (own ∷ others) first.logs_ (w.log, second.logs_));
    } in
    subst (λ x. HasForest i x all) (sym grown) (subst (HasForest i (ks ++ k ∷ [])) (sym more_logs) so)

pub returned_logs_are_families : ReturnedLogsAreFamilies
returned_logs_are_families i a low own others t fresh h =
    let w = whole_execution i (created_actor a low (Some t)) h.way h.its own t fresh h.progress h.left in
    let its = families_forest i h.its others (next_fresh h.way.began.name 1 h.its w.named) h.others_ in
    let l = execution_of h.way h.its in
    record {
      own = l;
      its = its.forest;
      forest = (record { began = h.left.began; low = h.left.low; execution = w.execution; learned = created_learned i h.way.began.name 1 h.its its.forest w.named its.are its.endings }, subst (λ bs. IsForestOf i bs its.forest) (sym w.creations_) its.are, tt);
      logs_ = (w.log, subst (λ ls. AreLogs i ls others) (sym (append-nil (executions its.forest))) its.logs_);
    }
