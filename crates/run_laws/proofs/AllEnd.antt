-- Who has ended has joined everyone that it began; so once the root has ended, every actor has.
use Rattle.std.proofs.Common.{◌≡◌, ℕ, zero, suc, ◌+◌, ◌<◌, ◌≤◌, Bool, true, false, true≢false, List, [], ◌∷◌, length, refl, sym, ap, subst, ◌∙◌, arith, inl, inr}
use Rattle.std.proofs.lemmas.List.{length-append}
use Rattle.std.specs.Prelude.{Option, Some, None, ◌||◌, ◌⊎◌, if◌then◌else◌}
use Rattle.wedge_base.specs.Images.{Image}
use Rattle.wedge_base.specs.Names.{same, root_name}
use Rattle.wedge_events.specs.declared.events.Event.{Event}
use Rattle.wedge_events.specs.declared.events.Turn.{Turn}
use Rattle.machine.specs.Actors.{ActorState, root}
use Rattle.machine.specs.Children.{is_child, child_name}
use Rattle.machine.specs.Local.{has_ended, rest}
use Rattle.machine.specs.Take.{next_start, takes, actor_begun, child_of, run_by}
use Rattle.run_laws.specs.Ends.{is_end_event}
use Rattle.run_laws.specs.FamilyTrees.{IsChildOf, IsOfTree, Family}
use Rattle.run_laws.specs.Fuel.{starter_of, number_in, has_child}
use Rattle.run_laws.specs.Laws.{EndedHaveJoinedAll, AllHaveEnded}
use Rattle.machine.specs.Worlds.{WorldState, initial_state, actor_named, put_actor, with_begun, Runs, ready, resumed, is_ended}
use Rattle.run_laws.proofs.Between.{event_for, takes_name}
use Rattle.run_laws.proofs.FamilyRuns.{Acts, ActsAlone, Starts, Enters, Joins, acts, one_begins, run_family}
use Rattle.run_laws.proofs.Happening.{Happens, Requested, Joined, Snaps, GateSnaps, Started, Opens, Releases, Numbers, OpensFile, LastJoined, Ended, EntersGate, LeavesGate, EntersRecycled, LeavesRecycled}
use Rattle.run_laws.proofs.Mediating.{reached}
use Rattle.run_laws.proofs.Named.{same_equal}
use Rattle.run_laws.proofs.RecycledRuns.{request_passes}
use Rattle.run_laws.proofs.Settling.{AllReady, turn_happens, turn_ready, opening_ready, turned_there}
use Rattle.run_laws.proofs.Trees.{starter-child, IsPut, find_put, IsDoer, IsOther, found_or_last}
use Rattle.run_laws.proofs.Turns.{Readies, Stays, Back, readies, ready_name, ready_ended, Turned, turn_from}
use Rattle.machine.proofs.Resting.{rest-name}

-- in a list of actors, those that have ended have nobody left to join
abbrev NoneLeft : List ActorState → Type 0
NoneLeft actors = (m : List ℕ) (x : ActorState) → actor_named actors m ≡ Some x → has_ended x.phase ≡ true → x.unjoined ≡ []

-- ---- an event

-- one that is no end leaves its actor alive
no_end : {X : Type 0} (i : Image) (b : ActorState) (e f : Event) → e ≡ f → is_end_event (Some f) ≡ false → has_ended (takes i b e).phase ≡ true → X
no_end i b e f is goes over = absurd (true≢false (sym over ∙ (reached i b e ∙ (ap (λ z. is_end_event (Some z)) is ∙ goes))))

-- and an actor ends only once it has joined everyone
ended_alone : (w : WorldState) (b : ActorState) (e : Event) → Happens w b e → has_ended (takes w.image b e).phase ≡ true → (takes w.image b e).unjoined ≡ []
unfolding takes
ended_alone w b e (Requested r) over = no_end w.image b e (event_for w.cells b r.want) r.is (request_passes _ w.cells b r.want r.own).1 over
ended_alone w b e (Joined j) over = no_end w.image b e _ j.join.is refl over
ended_alone w b e (Snaps s) over = no_end w.image b e _ s.is refl over
ended_alone w b e (GateSnaps s) over = no_end w.image b e _ s.is refl over
ended_alone w b e (Started s) over = no_end w.image b e _ s.is refl over
ended_alone w b e (Opens o) over = no_end w.image b e _ o.is refl over
ended_alone w b e (Releases r) over = no_end w.image b e _ r.is refl over
ended_alone w b e (Numbers n) over = no_end w.image b e _ n.is refl over
ended_alone w b e (OpensFile f) over = no_end w.image b e _ f.is refl over
ended_alone w b e (LastJoined j) over = no_end w.image b e _ j.join.is refl over
ended_alone w b e (Ended f) over = ap (λ y. (takes w.image b y).unjoined) f.is ∙ f.left
ended_alone w b e (EntersGate x) over = no_end w.image b e _ x.is refl over
ended_alone w b e (LeavesGate l) over = ap (λ y. (takes w.image b y).unjoined) l.is ∙ l.left
ended_alone w b e (EntersRecycled x) over = no_end w.image b e _ x.is refl over
ended_alone w b e (LeavesRecycled l) over = ap (λ y. (takes w.image b y).unjoined) l.is ∙ l.left

-- whoever begins lives
begun_lives : (w : WorldState) (b : ActorState) (e : Event) (c : ActorState) → Acts w b e → actor_begun w.image b e ≡ Some c → has_ended c.phase ≡ false
begun_lives w b e c (ActsAlone one) begins = let none : None ≡ Some c = sym (one_begins w.image b e one) ∙ begins in absurd cc
begun_lives w b e c (Starts s) begins =
    let two : Some (child_of w.image b (child_name b.name (next_start b))) ≡ Some c = sym (ap (actor_begun w.image b) s.is) ∙ begins in
    let one : child_of w.image b (child_name b.name (next_start b)) ≡ c = cc in
    ap (λ (x : ActorState). has_ended x.phase) (sym one)
begun_lives w b e c (Enters y) begins =
    let two : Some (run_by b (child_name b.name (next_start b)) y.kept y.entrance) ≡ Some c = sym y.begins ∙ begins in
    let one : run_by b (child_name b.name (next_start b)) y.kept y.entrance ≡ c = cc in
    ap (λ (x : ActorState). has_ended x.phase) (sym one)
begun_lives w b e c (Joins k listed j) begins = let none : None ≡ Some c = sym (ap (actor_begun w.image b) j.is) ∙ begins in absurd cc

-- ---- actors

left_put : (actors : List ActorState) (a x : ActorState) → IsPut actors a x → (has_ended x.phase ≡ true → x.unjoined ≡ []) → NoneLeft actors → NoneLeft (put_actor actors x)
left_put actors a x p own h m y found over = elim (find_put actors a x m y p found) [
  | IsDoer at one ↦ ap (λ (z : ActorState). z.unjoined) one ∙ own (ap (λ (z : ActorState). has_ended z.phase) (sym one) ∙ over)
  | IsOther apart was ↦ h m y was over
]

left_begun : (actors : List ActorState) (o : Option ActorState) → ((c : ActorState) → o ≡ Some c → has_ended c.phase ≡ false) → NoneLeft actors → NoneLeft (with_begun actors o)
left_begun actors None lives h m y found over = h m y found over
left_begun actors (Some c) lives h m y found over = by_place (found_or_last actors c m y found)
  where
    by_place : (actor_named actors m ≡ Some y) ⊎ (y ≡ c) → y.unjoined ≡ []
    by_place (inl was) = h m y was over
    by_place (inr one) = absurd (true≢false (sym over ∙ (ap (λ (z : ActorState). has_ended z.phase) one ∙ lives c refl)))

-- one that goes on from a run lives
ready_left : (actors : List ActorState) (a : ActorState) → actor_named actors a.name ≡ Some a → NoneLeft actors → has_ended (ready actors a).phase ≡ true → (ready actors a).unjoined ≡ []
ready_left actors a there h over = by_case (readies actors a)
  where
    ended : has_ended a.phase ≡ true
    ended = sym (ready_ended actors a) ∙ over

    by_case : Readies actors a → (ready actors a).unjoined ≡ []
    by_case (Stays is) = ap (λ (z : ActorState). z.unjoined) is ∙ h a.name a there ended
    by_case (Back k at r is) = absurd (true≢false (sym ended ∙ ap has_ended at))

-- ---- turns

turn_left : (w : WorldState) (name : List ℕ) (e : Event) (new : WorldState) → AllReady w → (p : Turned w name e new) → NoneLeft w.actors → NoneLeft new.actors
turn_left w name e new all p h =
    let v = resumed w p.actor in
    let a = p.parts.actor in
    let b = rest w.image a in
    let x = takes w.image b e in
    let happens = turn_happens w name e new all p in
    let was = turned_there w name p.actor p.named in
    let goes : NoneLeft v.actors =
    left_put w.actors p.actor (ready w.actors p.actor) (record { name = ready_name w.actors p.actor; there = was }) (ready_left w.actors p.actor was h) h in
    let put : IsPut v.actors a x = record { name = takes_name w.image b e ∙ rest-name w.image a; there = turned_there v name a p.parts.named } in
    let after = left_put v.actors a x put (ended_alone v b e happens) goes in
    subst (λ (z : WorldState). NoneLeft z.actors) (sym p.parts.new_is) (left_begun (put_actor v.actors x) (actor_begun w.image b e) (λ c begins. begun_lives v b e c (acts v b e happens) begins) after)

runs_left : (old : WorldState) (turns : List Turn) (new : WorldState) → AllReady old → NoneLeft old.actors → Runs old turns new → NoneLeft new.actors
runs_left old [] new all h run = subst (λ (w : WorldState). NoneLeft w.actors) (sym run) h
runs_left old (t ∷ ts) new all h run = runs_left run.0 ts new (turn_ready old t.actor t.event run.0 all run.1) (turn_left old t.actor t.event run.0 all (turn_from old t.actor t.event run.0 run.1) h) run.2

opening_left : (i : Image) → NoneLeft (initial_state i).actors
unfolding root
opening_left i m x found over = by_name (same root_name m) found
  where
    by_name : (t : Bool) → (if t then Some (root i) else None) ≡ Some x → x.unjoined ≡ []
    by_name true is = let one : root i ≡ x = cc in ap (λ (z : ActorState). z.unjoined) (sym one)
    by_name false is = absurd cc

pub ended_have_joined : EndedHaveJoinedAll
ended_have_joined i turns new run = runs_left (initial_state i) turns new (opening_ready i) (opening_left i) run

-- ---- once the root has ended

root_over : (actors : List ActorState) (m : List ℕ) (x : ActorState) → is_ended (actor_named actors root_name) ≡ true → m ≡ root_name → actor_named actors m ≡ Some x → has_ended x.phase ≡ true
root_over actors m x over is found = sym (ap is_ended (ap (actor_named actors) (sym is) ∙ found)) ∙ over

-- whoever was started by one that has nobody left to join has ended
child_over : (actors : List ActorState) (m : List ℕ) (x : ActorState) → Family actors → is_ended (actor_named actors root_name) ≡ true → actor_named actors m ≡ Some x → (c : IsChildOf actors m) → c.actor.unjoined ≡ [] → has_ended x.phase ≡ true
child_over actors m x f over found c none = by_life (has_ended x.phase) refl
  where
    gone : has_child (actor_named actors (starter_of m)) (number_in m) ≡ false
    gone = ap (λ s. has_child (actor_named actors s) (number_in m)) (ap starter_of c.named ∙ starter-child c.starter c.number) ∙ (ap (λ o. has_child o (number_in m)) c.there ∙ ap (λ cs. is_child cs (number_in m)) none)

    by_root : (t : Bool) → same m root_name ≡ t → (t || has_child (actor_named actors (starter_of m)) (number_in m)) ≡ true → has_ended x.phase ≡ true
    by_root true e h = root_over actors m x over (same_equal m root_name e) found
    by_root false e h = absurd (true≢false (sym h ∙ gone))

    by_life : (t : Bool) → has_ended x.phase ≡ t → has_ended x.phase ≡ true
    by_life true e = e
    by_life false e = by_root (same m root_name) refl (f.live m x found e)

-- so has everyone, if everyone of a shorter name has
all_over : (actors : List ActorState) (n : ℕ) (m : List ℕ) (x : ActorState) → Family actors → NoneLeft actors → is_ended (actor_named actors root_name) ≡ true → length m ≤ n → actor_named actors m ≡ Some x
    → ((s : List ℕ) (y : ActorState) → length s < n → actor_named actors s ≡ Some y → has_ended y.phase ≡ true) → IsOfTree actors m → has_ended x.phase ≡ true
all_over actors n m x f h over short found shorter (inl is) = root_over actors m x over is found
all_over actors n m x f h over short found shorter (inr c) =
    let longer : length m ≡ length (child_name c.starter c.number) = ap length c.named in
    let one : length (child_name c.starter c.number) ≡ length c.starter + 1 = length-append c.starter (c.number ∷ []) in
    let started = shorter c.starter c.actor (omega (arith, longer, one, short)) c.there in
    child_over actors m x f over found c (h c.starter c.actor c.there started)

over_to : (n : ℕ) (actors : List ActorState) → Family actors → NoneLeft actors → is_ended (actor_named actors root_name) ≡ true → (m : List ℕ) (x : ActorState) → length m ≤ n → actor_named actors m ≡ Some x → has_ended x.phase ≡ true
over_to zero actors f h over m x short found = all_over actors 0 m x f h over short found (λ s y less there. absurd (omega (arith, less))) (f.tree m x found)
over_to (suc n) actors f h over m x short found = all_over actors (suc n) m x f h over short found (λ s y less there. over_to n actors f h over s y (omega (arith, less)) there) (f.tree m x found)

pub all_have_ended : AllHaveEnded
all_have_ended i turns last run over name a found =
    over_to (length name) last.actors (run_family i turns last run) (ended_have_joined i turns last run) over name a (omega arith) found
