-- What an actor did, as its thread came to know it, is a walk, and what it learned of others is how they ended.
use Rattle.std.proofs.Common.{◌≡◌, ℕ, zero, suc, ◌+◌, ◌<◌, ◌≤◌, Bool, true, false, true≢false, List, [], ◌∷◌, ◌++◌, length, refl, sym, ap, subst, ◌∙◌, arith, inl, inr}
use Rattle.std.proofs.lemmas.Bool.{eqb-true, eq-eqb}
use Rattle.std.specs.Prelude.{Option, Some, None, IsSomeAnd, ◌⊎◌, ◌==◌, map, slice_get, slice_set, if◌then◌else◌}
use Rattle.wedge_base.specs.Images.{Image}
use Rattle.wedge_events.specs.declared.events.Event.{Event}
use Rattle.wedge_events.specs.declared.events.Event.TheVariants as event
use Rattle.wedge_events.specs.declared.events.LogEntry.{LogEntry}
use Rattle.wedge_events.specs.declared.events.Want.{Want}
use Rattle.machine.specs.declared.phase.Phase.{Phase}
use Rattle.machine.specs.declared.phase.Phase.TheVariants as phase
use Rattle.machine.specs.Actors.{ActorState}
use Rattle.machine.specs.Children.{without_child}
use Rattle.machine.specs.Local.{rest, is_running, has_ended}
use Rattle.machine.specs.Take.{current_want, wanted_at, takes, has_joined, answered_end, actor_begun}
use Rattle.machine.proofs.Resting.{rest-stays, rest-uncalm, rest-ended, rest_rest, ended-stays}
use Rattle.run_laws.specs.Walks.{Asks}
use Rattle.thread_laws.specs.declared.gathered.ActorEnd.{ActorEnd}
use Rattle.thread_laws.specs.ActorProgresses.{CreatedActor}
use Rattle.thread_laws.specs.Executions.{LearnedEnd, learned_of, resumed_by, resumed_at, at_next_event, after_entries, clock_after, name_begun, Begins, IsAboveRun, IsJoinLearned, IsNext, IsWalkWith, Creation, with_creation, creations}

-- ---- what is learned only grows

abbrev pub IsMore : List LearnedEnd → List LearnedEnd → Type 0
IsMore old new = (k : ℕ) (t : LearnedEnd) → learned_of old k ≡ Some t → learned_of new k ≡ Some t

some_is : {X : Type 0} (P : X → Type 0) (o : Option X) → IsSomeAnd o P → (x : X) × (o ≡ Some x) × P x
some_is P None h = absurd h
some_is P (Some x) h = (x, refl, h)

pub and_some : {X : Type 0} (P : X → Type 0) (o : Option X) (x : X) → o ≡ Some x → P x → IsSomeAnd o P
and_some P o x is h = subst (λ p. IsSomeAnd p P) (sym is) h

above_more : (old new : List LearnedEnd) → IsMore old new → (p : Phase) (s : ℕ) → IsAboveRun old p s → IsAboveRun new p s
above_more old new more (phase.Waiting k) s h = let t = some_is (λ (t : LearnedEnd). t.stamp < s) (learned_of old k) h in and_some (λ (t : LearnedEnd). t.stamp < s) (learned_of new k) t.0 (more k t.0 t.1) t.2
above_more old new more phase.Running s h = tt
above_more old new more (phase.Within q) s h = tt
above_more old new more (phase.Starting pre) s h = tt
above_more old new more (phase.MakingGate pre) s h = tt
above_more old new more (phase.Opening slot tag) s h = tt
above_more old new more (phase.Releasing slot) s h = tt
above_more old new more (phase.OpeningFile o) s h = tt
above_more old new more (phase.Entering x) s h = tt
above_more old new more (phase.Ending e) s h = tt
above_more old new more (phase.Ended e) s h = tt

join_more : (old new : List LearnedEnd) → IsMore old new → (e : Event) (s : ℕ) → IsJoinLearned old e s → IsJoinLearned new e s
join_more old new more (event.Join k how fuel) s h =
    let t = some_is (λ (t : LearnedEnd). (t.how ≡ how) × (t.fuel ≡ fuel) × (t.stamp < s)) (learned_of old k) h in
    and_some (λ (t : LearnedEnd). (t.how ≡ how) × (t.fuel ≡ fuel) × (t.stamp < s)) (learned_of new k) t.0 (more k t.0 t.1) t.2
join_more old new more e s h = tt

-- an actor that found what it looks up goes on as before
goes_more : (old new : List LearnedEnd) → IsMore old new → (a : ActorState) (p : Phase) (s : ℕ) → IsAboveRun old p s → resumed_at old a p ≡ resumed_at new a p
goes_more old new more a (phase.Waiting k) s h = let t = some_is (λ (t : LearnedEnd). t.stamp < s) (learned_of old k) h in ap (resumed_by a k) (t.1 ∙ sym (more k t.0 t.1))
goes_more old new more a phase.Running s h = refl
goes_more old new more a (phase.Within q) s h = refl
goes_more old new more a (phase.Starting pre) s h = refl
goes_more old new more a (phase.MakingGate pre) s h = refl
goes_more old new more a (phase.Opening slot tag) s h = refl
goes_more old new more a (phase.Releasing slot) s h = refl
goes_more old new more a (phase.OpeningFile o) s h = refl
goes_more old new more a (phase.Entering x) s h = refl
goes_more old new more a (phase.Ending e) s h = refl
goes_more old new more a (phase.Ended e) s h = refl

-- a walk stays one, leads where it led, and begins whom it began
pub record StaysWalk (i : Image) (old new : List LearnedEnd) (a : ActorState) (clock : ℕ) (es : List LogEntry) : Type 0 where
  pub walk : IsWalkWith i new a clock es
  pub after_entries_ : after_entries i new a es ≡ after_entries i old a es
  pub creations_ : creations i new a es ≡ creations i old a es

pub walk_more : (i : Image) (old new : List LearnedEnd) → IsMore old new → (a : ActorState) (clock : ℕ) (es : List LogEntry) → IsWalkWith i old a clock es → StaysWalk i old new a clock es
walk_more i old new more a clock [] w = record { walk = tt; after_entries_ = refl; creations_ = refl }
walk_more i old new more a clock (e ∷ es) w =
    let b = at_next_event i old a in
    let c = at_next_event i new a in
    let same_b : b ≡ c = ap (rest i) (goes_more old new more a a.phase e.stamp w.0.run) in
    let r = walk_more i old new more (takes i b e.event) e.stamp es w.1 in
    record {
      walk = (
        record {
          above = w.0.above;
          own = w.0.own;
          asked = subst (λ x. Asks x e.event) same_b w.0.asked;
          begins = subst (λ x. Begins i x e.event (name_begun e.event)) same_b w.0.begins;
          run = above_more old new more a.phase e.stamp w.0.run;
          child = join_more old new more e.event e.stamp w.0.child;
        },
        subst (λ x. IsWalkWith i new (takes i x e.event) e.stamp es) same_b r.walk,
      );
      after_entries_ = ap (λ x. after_entries i new (takes i x e.event) es) (sym same_b) ∙ r.after_entries_;
      creations_ = ap (λ x. with_creation (actor_begun i x e.event) e.stamp (creations i new (takes i x e.event) es)) (sym same_b) ∙ ap (with_creation (actor_begun i b e.event) e.stamp) r.creations_;
    }

-- ---- a walk with one entry more

pub walk_behind : (i : Image) (learned : List LearnedEnd) (a : ActorState) (clock : ℕ) (es : List LogEntry) (e : LogEntry) → IsWalkWith i learned a clock es → IsNext i learned (after_entries i learned a es) (clock_after clock es) e
    → IsWalkWith i learned a clock (es ++ e ∷ [])
walk_behind i learned a clock [] e w n = (n, tt)
walk_behind i learned a clock (x ∷ es) e w n = (w.0, walk_behind i learned (takes i (at_next_event i learned a) x.event) x.stamp es e w.1 n)

pub after_entries_behind : (i : Image) (learned : List LearnedEnd) (a : ActorState) (es : List LogEntry) (e : LogEntry) → after_entries i learned a (es ++ e ∷ []) ≡ takes i (at_next_event i learned (after_entries i learned a es)) e.event
after_entries_behind i learned a [] e = refl
after_entries_behind i learned a (x ∷ es) e = after_entries_behind i learned (takes i (at_next_event i learned a) x.event) es e

pub stamp_behind : (clock : ℕ) (es : List LogEntry) (e : LogEntry) → clock_after clock (es ++ e ∷ []) ≡ e.stamp
stamp_behind clock [] e = refl
stamp_behind clock (x ∷ es) e = stamp_behind x.stamp es e

with_append : (o : Option ActorState) (s : ℕ) (bs cs : List Creation) → with_creation o s (bs ++ cs) ≡ with_creation o s bs ++ cs
with_append None s bs cs = refl
with_append (Some c) s bs cs = refl

pub creations_behind : (i : Image) (learned : List LearnedEnd) (a : ActorState) (es : List LogEntry) (e : LogEntry)
    → creations i learned a (es ++ e ∷ []) ≡ creations i learned a es ++ with_creation (actor_begun i (at_next_event i learned (after_entries i learned a es)) e.event) e.stamp []
creations_behind i learned a [] e = refl
creations_behind i learned a (x ∷ es) e =
    let b = at_next_event i learned a in
    ap (with_creation (actor_begun i b x.event) x.stamp) (creations_behind i learned (takes i b x.event) es e)
    ∙ with_append (actor_begun i b x.event) x.stamp (creations i learned (takes i b x.event) es) (with_creation (actor_begun i (at_next_event i learned (after_entries i learned (takes i b x.event) es)) e.event) e.stamp [])

-- ---- what is learned of created actors, by their numbers

abbrev pub learned_end : ℕ → ActorEnd → LearnedEnd
learned_end n t = record { number = n; how = t.how; fuel = t.fuel; stamp = t.last }

abbrev pub with_learned : ℕ → Option ActorEnd → List LearnedEnd → List LearnedEnd
with_learned n None ts = ts
with_learned n (Some t) ts = learned_end n t ∷ ts

abbrev pub learned_from : ℕ → List CreatedActor → List LearnedEnd
learned_from n [] = []
learned_from n (k ∷ ks) = with_learned n k.learned (learned_from (n + 1) ks)

abbrev pub learned_in : List CreatedActor → List LearnedEnd
learned_in ks = learned_from 1 ks

-- a number that learned is not below the first
learned_not_below : (n : ℕ) (ks : List CreatedActor) (m : ℕ) (t : LearnedEnd) → learned_of (learned_from n ks) m ≡ Some t → n ≤ m
learned_not_below n [] m t e = absurd cc
learned_not_below n (k ∷ ks) m t e = by_learned k.learned e (learned_not_below (n + 1) ks m t)
  where
    by_learned : (o : Option ActorEnd) → learned_of (with_learned n o (learned_from (n + 1) ks)) m ≡ Some t → (learned_of (learned_from (n + 1) ks) m ≡ Some t → n + 1 ≤ m) → n ≤ m
    by_learned None h others = let le = others h in omega (arith, le)
    by_learned (Some u) h others = by_number (n == m) refl h
      where
        by_number : (b : Bool) → (n == m) ≡ b → (if b then Some (learned_end n u) else learned_of (learned_from (n + 1) ks) m) ≡ Some t → n ≤ m
        by_number true is g = let same_number : n ≡ m = eqb-true n m is in omega (arith, same_number)
        by_number false is g = let le = others g in omega (arith, le)

-- each of which something was learned is found
pub learned_at : (n : ℕ) (ks : List CreatedActor) (index : ℕ) (k : CreatedActor) (t : ActorEnd) → slice_get ks index ≡ Some k → k.learned ≡ Some t → learned_of (learned_from n ks) (n + index) ≡ Some (learned_end (n + index) t)
learned_at n [] index k t there learned = absurd cc
learned_at n (x ∷ ks) zero k t there learned =
    let one : x ≡ k = cc in
    let so : x.learned ≡ Some t = ap (λ (y : CreatedActor). y.learned) one ∙ learned in
    let number : n ≡ n + zero = omega arith in
    ap (λ o. learned_of (with_learned n o (learned_from (n + 1) ks)) (n + zero)) so
    ∙ (ap (λ b. if b then Some (learned_end n t) else learned_of (learned_from (n + 1) ks) (n + zero)) (eq-eqb n (n + zero) number) ∙ ap (λ m. Some (learned_end m t)) number)
learned_at n (x ∷ ks) (suc index) k t there learned =
    let later : n + 1 + index ≡ n + suc index = omega arith in
    let found = subst (λ m. learned_of (learned_from (n + 1) ks) m ≡ Some (learned_end m t)) later (learned_at (n + 1) ks index k t there learned) in
    by_learned x.learned found
  where
    by_learned : (o : Option ActorEnd) → learned_of (learned_from (n + 1) ks) (n + suc index) ≡ Some (learned_end (n + suc index) t) → learned_of (with_learned n o (learned_from (n + 1) ks)) (n + suc index) ≡ Some (learned_end (n + suc index) t)
    by_learned None found = found
    by_learned (Some u) found = by_number (n == (n + suc index)) refl
      where
        by_number : (b : Bool) → (n == (n + suc index)) ≡ b → (if b then Some (learned_end n u) else learned_of (learned_from (n + 1) ks) (n + suc index)) ≡ Some (learned_end (n + suc index) t)
        by_number true is = let same_number : n ≡ n + suc index = eqb-true n (n + suc index) is in absurd (omega (arith, same_number))
        by_number false is = found

-- what is learned of them grows as one more begins, and as one ends
pub more_behind : (n : ℕ) (ks : List CreatedActor) (k : CreatedActor) → IsMore (learned_from n ks) (learned_from n (ks ++ k ∷ []))
more_behind n [] k m t e = absurd cc
more_behind n (x ∷ ks) k m t e = by_learned x.learned e (more_behind (n + 1) ks k m t)
  where
    by_learned : (o : Option ActorEnd) → learned_of (with_learned n o (learned_from (n + 1) ks)) m ≡ Some t → (learned_of (learned_from (n + 1) ks) m ≡ Some t → learned_of (learned_from (n + 1) (ks ++ k ∷ [])) m ≡ Some t)
        → learned_of (with_learned n o (learned_from (n + 1) (ks ++ k ∷ []))) m ≡ Some t
    by_learned None h others = others h
    by_learned (Some u) h others = by_number (n == m) h
      where
        by_number : (b : Bool) → (if b then Some (learned_end n u) else learned_of (learned_from (n + 1) ks) m) ≡ Some t → (if b then Some (learned_end n u) else learned_of (learned_from (n + 1) (ks ++ k ∷ [])) m) ≡ Some t
        by_number true g = g
        by_number false g = others g

pub more_set : (n : ℕ) (ks : List CreatedActor) (index : ℕ) (k : CreatedActor) (t : ActorEnd) → slice_get ks index ≡ Some k → (k.learned ≡ None) ⊎ (k.learned ≡ Some t)
    → IsMore (learned_from n ks) (learned_from n (slice_set ks index (record k { learned = Some t })))
more_set n [] index k t there so m u e = absurd cc
more_set n (x ∷ ks) zero k t there (inl none) m u e =
    let one : x ≡ k = cc in
    let old : learned_of (learned_from (n + 1) ks) m ≡ Some u = ap (λ o. learned_of (with_learned n o (learned_from (n + 1) ks)) m) (sym (ap (λ (y : CreatedActor). y.learned) one ∙ none)) ∙ e in
    let above = learned_not_below (n + 1) ks m u old in
    by_number (n == m) refl old above
  where
    by_number : (b : Bool) → (n == m) ≡ b → learned_of (learned_from (n + 1) ks) m ≡ Some u → n + 1 ≤ m → (if b then Some (learned_end n t) else learned_of (learned_from (n + 1) ks) m) ≡ Some u
    by_number true is old above = let same_number : n ≡ m = eqb-true n m is in absurd (omega (arith, same_number, above))
    by_number false is old above = old
more_set n (x ∷ ks) zero k t there (inr some) m u e =
    let one : x ≡ k = cc in
    ap (λ o. learned_of (with_learned n o (learned_from (n + 1) ks)) m) (sym (ap (λ (y : CreatedActor). y.learned) one ∙ some)) ∙ e
more_set n (x ∷ ks) (suc index) k t there so m u e = by_learned x.learned e (more_set (n + 1) ks index k t there so m u)
  where
    new : List CreatedActor
    new = slice_set ks index (record k { learned = Some t })

    by_learned : (o : Option ActorEnd) → learned_of (with_learned n o (learned_from (n + 1) ks)) m ≡ Some u → (learned_of (learned_from (n + 1) ks) m ≡ Some u → learned_of (learned_from (n + 1) new) m ≡ Some u)
        → learned_of (with_learned n o (learned_from (n + 1) new)) m ≡ Some u
    by_learned None h others = others h
    by_learned (Some v) h others = by_number (n == m) h
      where
        by_number : (b : Bool) → (if b then Some (learned_end n v) else learned_of (learned_from (n + 1) ks) m) ≡ Some u → (if b then Some (learned_end n v) else learned_of (learned_from (n + 1) new) m) ≡ Some u
        by_number true g = g
        by_number false g = others g

-- ---- created actors as creations

abbrev pub creation_of : CreatedActor → Creation
creation_of k = record { began = k.began; stamp = k.stamp }

pub creations_set : (ks : List CreatedActor) (index : ℕ) (k : CreatedActor) (t : ActorEnd) → slice_get ks index ≡ Some k → map creation_of (slice_set ks index (record k { learned = Some t })) ≡ map creation_of ks
creations_set [] index k t there = refl
creations_set (x ∷ ks) zero k t there = let one : x ≡ k = cc in ap (λ (y : CreatedActor). creation_of y ∷ map creation_of ks) (sym one)
creations_set (x ∷ ks) (suc index) k t there = ap (λ bs. creation_of x ∷ bs) (creations_set ks index k t there)

pub set_size : (ks : List CreatedActor) (index : ℕ) (k : CreatedActor) → length (slice_set ks index k) ≡ length ks
set_size [] index k = refl
set_size (x ∷ ks) zero k = refl
set_size (x ∷ ks) (suc index) k = ap suc (set_size ks index k)

-- ---- since its last entry

-- it has only made local steps, or it has gone on from the run for which it waited
pub data Since (i : Image) (learned : List LearnedEnd) (g s : ActorState) (clock : ℕ) : Type 0 where
  Straight : rest i s ≡ rest i g → Since i learned g s clock
  Back : (k : ℕ) (t : LearnedEnd) → g.phase ≡ phase.Waiting k → learned_of learned k ≡ Some t → t.stamp ≤ clock → rest i s ≡ rest i (has_joined g k t.how t.fuel) → Since i learned g s clock

pub since_more : (i : Image) (old new : List LearnedEnd) → IsMore old new → (g s : ActorState) (clock : ℕ) → Since i old g s clock → Since i new g s clock
since_more i old new more g s clock (Straight is) = Straight is
since_more i old new more g s clock (Back k t at learned le is) = Back k t at (more k t learned) le is

pub since_rests : (i : Image) (learned : List LearnedEnd) (g s : ActorState) (clock : ℕ) → Since i learned g s clock → Since i learned g (rest i s) clock
since_rests i learned g s clock (Straight is) = Straight (rest_rest i s ∙ is)
since_rests i learned g s clock (Back k t at learned_ le is) = Back k t at learned_ le (rest_rest i s ∙ is)

-- an actor that wants an event is at rest, and waits for no run
wants_calm : (a : ActorState) (q : Want) → current_want a ≡ Some q → (is_running a.phase ≡ false) × ((k : ℕ) → a.phase ≡ phase.Waiting k → ⊥)
wants_calm a q wants = by_phase a.phase wants
  where
    by_phase : (p : Phase) → wanted_at a p ≡ Some q → (is_running p ≡ false) × ((k : ℕ) → p ≡ phase.Waiting k → ⊥)
    by_phase phase.Running e = absurd cc
    by_phase (phase.Within x) e = (refl, λ k f. absurd cc)
    by_phase (phase.Starting pre) e = (refl, λ k f. absurd cc)
    by_phase (phase.MakingGate pre) e = (refl, λ k f. absurd cc)
    by_phase (phase.Opening slot tag) e = (refl, λ k f. absurd cc)
    by_phase (phase.Releasing slot) e = (refl, λ k f. absurd cc)
    by_phase (phase.OpeningFile o) e = (refl, λ k f. absurd cc)
    by_phase (phase.Entering x) e = (refl, λ k f. absurd cc)
    by_phase (phase.Waiting number) e = absurd cc
    by_phase (phase.Ending x) e = (refl, λ k f. absurd cc)
    by_phase (phase.Ended x) e = absurd cc

-- one that goes on from a run runs
back_runs : (g : ActorState) (k : ℕ) (t : LearnedEnd) → g.phase ≡ phase.Waiting k → (has_joined g k t.how t.fuel).phase ≡ phase.Running
back_runs g k t at = ap (λ p. (answered_end (record g { fuel = g.fuel + t.fuel; unjoined = without_child g.unjoined k }) p t.how).phase) at

-- and where one waits at rest, it waited
waits_before : (i : Image) (a : ActorState) (k : ℕ) → (rest i a).phase ≡ phase.Waiting k → a.phase ≡ phase.Waiting k
waits_before i a k at = rest-uncalm i a (phase.Waiting k) (λ h. h) at

goes_awake : (learned : List LearnedEnd) (a : ActorState) (p : Phase) → ((k : ℕ) → p ≡ phase.Waiting k → ⊥) → resumed_at learned a p ≡ a
goes_awake learned a (phase.Waiting k) none = absurd (none k refl)
goes_awake learned a p none = refl

-- as it asks its next event it is as after its last entry, with what it learned
pub record IsThere (i : Image) (learned : List LearnedEnd) (g s : ActorState) (clock : ℕ) : Type 0 where
  pub is : s ≡ at_next_event i learned g
  pub run : (stamp : ℕ) → clock < stamp → IsAboveRun learned g.phase stamp

at_phase : (learned : List LearnedEnd) (p q : Phase) (s : ℕ) → p ≡ q → IsAboveRun learned q s → IsAboveRun learned p s
at_phase learned p q s is h = subst (λ x. IsAboveRun learned x s) (sym is) h

awake_above : (learned : List LearnedEnd) (p : Phase) (s : ℕ) → ((k : ℕ) → p ≡ phase.Waiting k → ⊥) → IsAboveRun learned p s
awake_above learned (phase.Waiting k) s none = absurd (none k refl)
awake_above learned p s none = tt

pub there : (i : Image) (learned : List LearnedEnd) (g s : ActorState) (clock : ℕ) (q : Want) → current_want s ≡ Some q → Since i learned g s clock → IsThere i learned g s clock
there i learned g s clock q wants (Straight is) = record { is = is_next_event; run = λ stamp less. awake_above learned g.phase stamp awake }
  where
    still : rest i s ≡ s
    still = rest-stays i s (wants_calm s q wants).0

    s_is : s ≡ rest i g
    s_is = sym still ∙ is

    awake : (k : ℕ) → g.phase ≡ phase.Waiting k → ⊥
    awake k at = (wants_calm s q wants).1 k (ap (λ (x : ActorState). x.phase) (s_is ∙ rest-stays i g (ap is_running at)) ∙ at)

    is_next_event : s ≡ at_next_event i learned g
    is_next_event = s_is ∙ ap (rest i) (sym (goes_awake learned g g.phase awake))
there i learned g s clock q wants (Back k t at learned_ le is) =
    record {
      is = sym (rest-stays i s (wants_calm s q wants).0) ∙ (is ∙ ap (rest i) (sym (ap (resumed_at learned g) at ∙ ap (resumed_by g k) learned_)));
      run = λ stamp less. at_phase learned g.phase (phase.Waiting k) stamp at (and_some (λ (u : LearnedEnd). u.stamp < stamp) (learned_of learned k) t learned_ (omega (arith, le, less)));
    }

-- it goes on from a run
pub since_back : (i : Image) (learned : List LearnedEnd) (g s : ActorState) (clock k : ℕ) (t : LearnedEnd) → s.phase ≡ phase.Waiting k → learned_of learned k ≡ Some t → Since i learned g s clock → Since i learned g (has_joined s k t.how t.fuel) t.stamp
since_back i learned g s clock k t at learned_ (Straight is) =
    let still : rest i s ≡ s = rest-stays i s (ap is_running at) in
    let s_is : s ≡ rest i g = sym still ∙ is in
    let waited : g.phase ≡ phase.Waiting k = waits_before i g k (ap (λ (x : ActorState). x.phase) (sym s_is) ∙ at) in
    let one : s ≡ g = s_is ∙ rest-stays i g (ap is_running waited) in
    Back k t waited learned_ (omega arith) (ap (λ x. rest i (has_joined x k t.how t.fuel)) one)
since_back i learned g s clock k t at learned_ (Back j u waited learned_j le is) =
    let still : rest i s ≡ s = rest-stays i s (ap is_running at) in
    let so : (has_joined g j u.how u.fuel).phase ≡ phase.Waiting k = waits_before i (has_joined g j u.how u.fuel) k (ap (λ (x : ActorState). x.phase) (sym is ∙ still) ∙ at) in
    let f : phase.Running ≡ phase.Waiting k = sym (back_runs g j u waited) ∙ so in
    absurd cc

-- once it has ended, it is as after its last entry
pub since_ended : (i : Image) (learned : List LearnedEnd) (g s : ActorState) (clock : ℕ) → has_ended s.phase ≡ true → Since i learned g s clock → g ≡ s
since_ended i learned g s clock over (Straight is) =
    let s_is : s ≡ rest i g = sym (ended-stays i s over) ∙ is in
    let g_over : has_ended g.phase ≡ true = sym (rest-ended i g) ∙ (ap (λ (x : ActorState). has_ended x.phase) (sym s_is) ∙ over) in
    sym (s_is ∙ ended-stays i g g_over)
since_ended i learned g s clock over (Back k t at learned_ le is) =
    let s_is : s ≡ rest i (has_joined g k t.how t.fuel) = sym (ended-stays i s over) ∙ is in
    let runs : has_ended (has_joined g k t.how t.fuel).phase ≡ false = ap has_ended (back_runs g k t at) in
    let both : true ≡ false = sym over ∙ (ap (λ (x : ActorState). has_ended x.phase) s_is ∙ (rest-ended i (has_joined g k t.how t.fuel) ∙ runs)) in
    absurd (true≢false both)
