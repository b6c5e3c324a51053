-- One turn in serial order, and the end of it all.
use Rattle.std.proofs.Common.{◌≡◌, ℕ, zero, suc, ◌-◌, ◌<◌, ◌≤◌, Bool, true, false, cond, List, [], ◌∷◌, ◌++◌, length, get_or, refl, sym, ap, subst, ◌∙◌, arith, inl, inr}
use Rattle.std.specs.Prelude.{Option, Some, None, IfSome, IsSome, is_some, slice_get, slice_set, if◌then◌else◌}
use Rattle.std.specs.Option.{option_to_list}
use Rattle.wedge_base.specs.Images.{Image}
use Rattle.wedge_base.specs.Names.{same, root_name}
use Rattle.cow_pages.specs.PrivateMemory.{PrivateMemory}
use Rattle.wedge_events.specs.declared.cells.GateAsk.TheVariants as gate_ask
use Rattle.wedge_events.specs.declared.cells.GateReply.TheVariants as gate_reply
use Rattle.wedge_events.specs.declared.events.Event.{Event}
use Rattle.wedge_events.specs.declared.events.Event.TheVariants as event
use Rattle.wedge_events.specs.declared.events.Turn.{Turn}
use Rattle.machine.specs.declared.phase.Phase.{Phase}
use Rattle.machine.specs.declared.phase.Phase.TheVariants as phase
use Rattle.machine.specs.Actors.{ActorState, root}
use Rattle.machine.specs.Children.{child_name}
use Rattle.run_laws.specs.Fuel.{work_left}
use Rattle.machine.specs.Local.{rest, has_ended}
use Rattle.run_laws.specs.Names.{IsNew, AreDistinct}
use Rattle.machine.specs.Take.{next_start, takes, actor_begun, child_of, has_entered, run_by, run_at}
use Rattle.run_laws.specs.FamilyTrees.{Family}
use Rattle.machine.specs.Worlds.{WorldState, Taken, initial_state, actor_named, put_actor, with_begun, ready, resumed, Runs, is_ended, is_complete}
use Rattle.run_laws.proofs.Between.{takes_name}
use Rattle.run_laws.proofs.FamilyRuns.{Acts, ActsAlone, Starts, Enters, Joins, acts, one_begins, run_family, turn_family, opening_family}
use Rattle.run_laws.proofs.Named.{same_self, same_equal, found_name, put_put}
use Rattle.machine.proofs.Resting.{rest-name}
use Rattle.run_laws.proofs.Settling.{AllReady, run_ready, turn_ready, opening_ready, turn_happens}
use Rattle.run_laws.proofs.Trees.{apart_too}
use Rattle.run_laws.proofs.Turns.{ready_name, turn_from}
use Rattle.run_laws.proofs.WorkLeft.{turn_works}
use Rattle.world_turns.specs.Progress.{Progress, IsFirstNamed, IsIndexOf, IsTurn, IsWaiting, IsBusy, TookTurnOf, HasEnded}
use Rattle.wedge_core.specs.Serial.{newest, live_names, AreNested, InSerialOrder, RootIsFirst, AreIndexed, names_of_live, IsSerial, LivesAfter, LivingGoOn, SerialOrderGoesOn}
use Rattle.run_laws.specs.CompleteRuns.{RootGoesOn}
use Rattle.world_turns.specs.Indices.{index_in}
use Rattle.wedge_core.specs.declared.serially.LiveActor.{LiveActor}
use Rattle.world_turns.proofs.HavingTurns.{HasTurn, Awaiting, AtBusy, turning}
use Rattle.world_turns.proofs.Indexing.{index_found, index_push, index_put_back}
use Rattle.world_turns.proofs.Advancing.{length-push}
use Rattle.world_turns.proofs.Replays.{EachTurn-push}
use Rattle.world_turns.proofs.Runs.{Runs-push}
use Rattle.wedge_core.proofs.LiveStack.{IsNewest, newest_of, live_where, ended_where, live_append, one_lives, none_newest, newest_is, named_in, put_in, nested_pop, nested_push, newest_waits_not, newest_busy_not}
use Rattle.world_turns.proofs.Turning.{set_get, set_length, not_ended}

-- ---- lists

at_last : {X : Type 0} (xs : List X) (x y : X) (n : ℕ) → n ≡ length xs → get_or (xs ++ x ∷ []) n y ≡ x
at_last [] x y zero e = refl
at_last [] x y (suc n) e = absurd (omega (arith, e))
at_last (z ∷ zs) x y zero e = absurd (omega (arith, e))
at_last (z ∷ zs) x y (suc n) e = at_last zs x y n (omega (arith, e))

last_of : {X : Type 0} (xs : List X) (x y : X) → y ≡ get_or (xs ++ x ∷ []) (length (xs ++ x ∷ []) - 1) y → y ≡ x
last_of xs x y is = is ∙ at_last xs x y (length (xs ++ x ∷ []) - 1) (let len = length-push xs x in omega (arith, len))

get_last : {X : Type 0} (xs : List X) (x : X) → slice_get (xs ++ x ∷ []) (length xs) ≡ Some x
get_last [] x = refl
get_last (y ∷ ys) x = get_last ys x

push_one : {X : Type 0} (xs ys : List X) (x y : X) → xs ++ x ∷ [] ≡ ys ++ y ∷ [] → xs ≡ ys
push_one [] [] x y e = refl
push_one [] (z ∷ []) x y e = absurd cc
push_one [] (z ∷ w ∷ ws) x y e = absurd cc
push_one (z ∷ []) [] x y e = absurd cc
push_one (z ∷ w ∷ ws) [] x y e = absurd cc
push_one (z ∷ zs) (w ∷ ws) x y e =
    let first : z ≡ w = cc in
    let others : zs ++ x ∷ [] ≡ ws ++ y ∷ [] = cc in
    ap (λ v. v ∷ zs) first ∙ ap (λ vs. w ∷ vs) (push_one zs ws x y others)

pub popped_one : {X : Type 0} (r : Option X) (old new : List X) → old ≡ new ++ option_to_list r → IsSome r → (x : X) × (old ≡ new ++ x ∷ [])
popped_one None old new is some = absurd cc
popped_one (Some x) old new is some = (x, is)

not_empty : {X A : Type 0} (xs : List X) (x : X) → xs ++ x ∷ [] ≡ [] → A
not_empty [] x e = absurd cc
not_empty (y ∷ ys) x e = absurd cc

-- ---- the newest actor in a serial run

pub record Newest (p : Progress) (name : List ℕ) : Type 0 where
  pub actor : ActorState
  pub is_newest : IsNewest p.state.actors actor
  pub own : actor.name ≡ name
  pub distinct : AreDistinct (is_newest.before ++ actor ∷ is_newest.behind)
  pub named : actor_named p.state.actors name ≡ Some actor

newest_by : (i : Image) (p : Progress) (turns : List Turn) (live : List (List ℕ)) (name : List ℕ) → Runs (initial_state i) turns p.state → live ≡ live_names p.state.actors → 0 < length live
    → name ≡ get_or live (length live - 1) name → Newest p name
newest_by i p turns live name run stack some at =
    let n = newest_of p.state.actors (subst (λ ns. 0 < length ns) stack some) in
    let names : live ≡ live_names n.1.before ++ n.0.name ∷ [] = stack ∙ (ap live_names n.1.is ∙ live_where n.1.before n.1.behind n.0 n.1.lives n.1.others) in
    let own : name ≡ n.0.name = last_of (live_names n.1.before) n.0.name name (subst (λ ns. name ≡ get_or ns (length ns - 1) name) names at) in
    let all : AreDistinct (n.1.before ++ n.0 ∷ n.1.behind) = subst AreDistinct n.1.is (run_family i turns p.state run).distinct in
    record {
      actor = n.0;
      is_newest = n.1;
      own = sym own;
      distinct = all;
      named = ap (actor_named p.state.actors) own ∙ (ap (λ as_. actor_named as_ n.0.name) n.1.is ∙ named_in n.1.before n.1.behind n.0 all);
    }

get_name : (live : List LiveActor) (n : ℕ) (l : LiveActor) → n < length live → l ≡ get_or live n l → l.name ≡ get_or (names_of_live live) n l.name
get_name [] n l lt is = absurd (omega (arith, lt))
get_name (x ∷ xs) zero l lt is = ap (λ (y : LiveActor). y.name) is
get_name (x ∷ xs) (suc n) l lt is = get_name xs n l (omega (arith, lt)) is

count_names : (live : List LiveActor) → length (names_of_live live) ≡ length live
count_names [] = refl
count_names (l ∷ ls) = ap suc (count_names ls)

-- the last of those that live is the newest, and is at its index
pub newest_named : (i : Image) (p : Progress) (live : List LiveActor) (l : LiveActor) → IsSerial i p live → 0 < length live → l ≡ get_or live (length live - 1) l → Newest p l.name
newest_named i p live l s some at =
    let count = count_names live in
    newest_by i p p.turns (names_of_live live) l.name s.run s.stack (omega (arith, some, count))
    (get_name live (length live - 1) l (omega (arith, some)) at ∙ ap (λ n. get_or (names_of_live live) (n - 1) l.name) (sym count))

indexed_at : (actors : List ActorState) (live : List LiveActor) (n : ℕ) (l : LiveActor) → AreIndexed actors live → n < length live → l ≡ get_or live n l → index_in actors l.name ≡ Some l.index
indexed_at actors [] n l all lt is = absurd (omega (arith, lt))
indexed_at actors (x ∷ xs) zero l all lt is = subst (λ (y : LiveActor). index_in actors y.name ≡ Some y.index) (sym is) all.0
indexed_at actors (x ∷ xs) (suc n) l all lt is = indexed_at actors xs n l all.1 (omega (arith, lt)) is

pub newest_indexed : (i : Image) (p : Progress) (live : List LiveActor) (l : LiveActor) → IsSerial i p live → 0 < length live → l ≡ get_or live (length live - 1) l → IsIndexOf p.state.actors l.name l.index
newest_indexed i p live l s some at =
    subst (λ o. IfSome o (IsIndexOf p.state.actors l.name)) (indexed_at p.state.actors live (length live - 1) l s.indexed (omega (arith, some)) at) (index_found p.state.actors l.name)

-- it has not ended, and it does not wait
pub newest_lives : {A : Type 0} (p : Progress) (name : List ℕ) → Newest p name → HasEnded p.state.actors name → A
newest_lives p name n ended = not_ended p.state.actors name n.actor n.named n.is_newest.lives ended

pub newest_goes_on : {A : Type 0} (i : Image) (p : Progress) (live : List LiveActor) (name : List ℕ) → IsSerial i p live → Newest p name → IsWaiting p.state name → A
newest_goes_on i p live name s n waits = absurd (newest_waits_not i p.turns p.state n.actor name s.run n.is_newest n.own waits)

-- and no gate that it is to enter is busy
pub newest_enters : {A : Type 0} (i : Image) (p : Progress) (live : List LiveActor) (name : List ℕ) → IsSerial i p live → Newest p name → IsBusy p.state name → A
newest_enters i p live name s n busy = absurd (newest_busy_not i p.turns p.state n.actor name s.run n.is_newest n.own s.nested busy)

-- ---- what its turn leaves

-- an event that begins an actor leaves both alive
run_alive : (b : ActorState) (run : List ℕ) (kept : Option PrivateMemory) (c : ActorState) (p : Phase) → run_at b run kept p ≡ Some c → (has_ended c.phase ≡ false) × (has_ended (has_entered b p).phase ≡ false)
run_alive b run kept c (phase.Entering x) is = let same_one : run_by b run kept x ≡ c = cc in (ap (λ (y : ActorState). has_ended y.phase) (sym same_one), refl)
run_alive b run kept c p is = absurd cc

begins_alive : (i : Image) (b : ActorState) (e : Event) (c : ActorState) → actor_begun i b e ≡ Some c → (has_ended c.phase ≡ false) × (has_ended (takes i b e).phase ≡ false)
unfolding takes
begins_alive i b (event.Start child) c is = let same_one : child_of i b child ≡ c = cc in (ap (λ (x : ActorState). has_ended x.phase) (sym same_one), refl)
begins_alive i b (event.Enter run) c is = run_alive b run None c b.phase is
begins_alive i b (event.Gate id (gate_ask.Enter run first) (gate_reply.Entered memory)) c is = run_alive b run (Some memory) c b.phase is
begins_alive i b e c is = absurd cc

-- and it is named as a child
begins_named : (v : WorldState) (b : ActorState) (e : Event) (c : ActorState) → Acts v b e → actor_begun v.image b e ≡ Some c → (k : ℕ) × (c.name ≡ child_name b.name k)
begins_named v b e c (ActsAlone one) is = let none : None ≡ Some c = sym (one_begins v.image b e one) ∙ is in absurd cc
begins_named v b e c (Starts s) is =
    let two : Some (child_of v.image b (child_name b.name (next_start b))) ≡ Some c = sym (ap (actor_begun v.image b) s.is) ∙ is in
    let one : child_of v.image b (child_name b.name (next_start b)) ≡ c = cc in
    (next_start b, ap (λ (x : ActorState). x.name) (sym one))
begins_named v b e c (Enters y) is =
    let two : Some (run_by b (child_name b.name (next_start b)) y.kept y.entrance) ≡ Some c = sym y.begins ∙ is in
    let one : run_by b (child_name b.name (next_start b)) y.kept y.entrance ≡ c = cc in
    (next_start b, ap (λ (x : ActorState). x.name) (sym one))
begins_named v b e c (Joins k listed j) is = let none : None ≡ Some c = sym (ap (actor_begun v.image b) j.is) ∙ is in absurd cc

-- the actor whose turn it was, and the one that began
record After (w : WorldState) (name : List ℕ) (new : WorldState) : Type 0 where
  after : ActorState
  begins : Option ActorState
  own : after.name ≡ name
  alive : (c : ActorState) → begins ≡ Some c → (has_ended c.phase ≡ false) × (has_ended after.phase ≡ false)
  named : AllReady w → (c : ActorState) → begins ≡ Some c → (k : ℕ) × (c.name ≡ child_name name k)
  are : new.actors ≡ with_begun (put_actor w.actors after) begins

turn_leaves : (w : WorldState) (name : List ℕ) (e : Event) (new : WorldState) → IsTurn w name e new → After w name new
turn_leaves w name e new turn =
    let t = turn_from w name e new turn in
    let i = w.image in
    let a = ready w.actors t.actor in
    let b = rest i t.parts.actor in
    let own : (takes i b e).name ≡ name = takes_name i b e ∙ (rest-name i t.parts.actor ∙ found_name (resumed w t.actor).actors name t.parts.actor t.parts.named) in
    let was : a.name ≡ name = ready_name w.actors t.actor ∙ found_name w.actors name t.actor t.named in
    record {
      after = takes i b e;
      begins = actor_begun i b e;
      own = own;
      alive = begins_alive i b e;
      named = λ all c is.
          let x = begins_named (resumed w t.actor) b e c (acts (resumed w t.actor) b e (turn_happens w name e new all t)) is in
          (x.0, x.1 ∙ ap (λ m. child_name m x.0) (rest-name i t.parts.actor ∙ found_name (resumed w t.actor).actors name t.parts.actor t.parts.named));
      are = ap (λ (x : WorldState). x.actors) t.parts.new_is ∙ ap (λ as_. with_begun as_ (actor_begun i b e)) (put_put w.actors a (takes i b e) (own ∙ sym was));
    }

record Left (p : Progress) (name : List ℕ) (n : Newest p name) (q : Progress) : Type 0 where
  after : ActorState
  begins : Option ActorState
  own : after.name ≡ name
  alive : (c : ActorState) → begins ≡ Some c → (has_ended c.phase ≡ false) × (has_ended after.phase ≡ false)
  named : AllReady p.state → (c : ActorState) → begins ≡ Some c → (k : ℕ) × (c.name ≡ child_name name k)
  put : put_actor p.state.actors after ≡ n.is_newest.before ++ after ∷ n.is_newest.behind
  are : q.state.actors ≡ with_begun (put_actor p.state.actors after) begins

left : (p : Progress) (name : List ℕ) (n : Newest p name) (q : Progress) → TookTurnOf p name q → Left p name n q
left p name n q g =
    let t = turn_leaves p.state name g.event q.state g.turn in
    record {
      after = t.after;
      begins = t.begins;
      own = t.own;
      alive = t.alive;
      named = t.named;
      put = ap (λ as_. put_actor as_ t.after) n.is_newest.is ∙ put_in n.is_newest.before n.is_newest.behind n.actor t.after n.distinct (t.own ∙ sym n.own);
      are = t.are;
    }

-- the names of those that live then
record NamesAfter (actors : List ActorState) (index count : ℕ) (old new : List (List ℕ)) : Type 0 where
  begun : count < length actors → (c : ActorState) × (slice_get actors count ≡ Some c) × (new ≡ old ++ c.name ∷ [])
  ended : length actors ≤ count → (a : ActorState) → slice_get actors index ≡ Some a → has_ended a.phase ≡ true → (name : List ℕ) × (old ≡ new ++ name ∷ [])
  goes_on : length actors ≤ count → (a : ActorState) → slice_get actors index ≡ Some a → has_ended a.phase ≡ false → new ≡ old

names_push : (live : List LiveActor) (l : LiveActor) → names_of_live (live ++ l ∷ []) ≡ names_of_live live ++ l.name ∷ []
names_push [] l = refl
names_push (x ∷ xs) l = ap (λ ns. x.name ∷ ns) (names_push xs l)

names_after : (actors : List ActorState) (index count : ℕ) (old new : List LiveActor) → LivesAfter actors index count old new → NamesAfter actors index count (names_of_live old) (names_of_live new)
names_after actors index count old new after = record {
  begun = λ more. let b = after.begun more in (b.0, b.1, ap names_of_live b.2 ∙ names_push old (record { name = b.0.name; index = count }));
  ended = λ few a at e. let l = after.ended few a at e in (l.0.name, ap names_of_live l.1 ∙ names_push new l.0);
  goes_on = λ few a at e. ap names_of_live (after.goes_on few a at e);
}

stack_after : (p q : Progress) (live new : List (List ℕ)) (name : List ℕ) (index : ℕ) (n : Newest p name) → live ≡ live_names p.state.actors → IsIndexOf p.state.actors name index
    → Left p name n q → NamesAfter q.state.actors index (length p.state.actors) live new → new ≡ live_names q.state.actors
stack_after p q live new name index n stack at l after = by_begun l.begins refl
  where
    before : List ActorState
    before = n.is_newest.before

    behind : List ActorState
    behind = n.is_newest.behind

    f : IsFirstNamed p.state.actors name index at.0
    f = at.1

    was : live ≡ live_names before ++ name ∷ []
    was = stack ∙ (ap live_names n.is_newest.is ∙ (live_where before behind n.actor n.is_newest.lives n.is_newest.others ∙ ap (λ m. live_names before ++ m ∷ []) n.own))

    set : put_actor p.state.actors l.after ≡ slice_set p.state.actors index l.after
    set = f.put l.after l.own

    count : length (put_actor p.state.actors l.after) ≡ length p.state.actors
    count = ap length set ∙ set_length p.state.actors index l.after

    goes_on : has_ended l.after.phase ≡ false → live_names (put_actor p.state.actors l.after) ≡ live
    goes_on e = ap live_names l.put ∙ (live_where before behind l.after e n.is_newest.others ∙ (ap (λ m. live_names before ++ m ∷ []) l.own ∙ sym was))

    there : q.state.actors ≡ put_actor p.state.actors l.after → slice_get q.state.actors index ≡ Some l.after
    there is = ap (λ as_. slice_get as_ index) (is ∙ set) ∙ set_get p.state.actors index l.after f.inside

    by_end : (t : Bool) → has_ended l.after.phase ≡ t → q.state.actors ≡ put_actor p.state.actors l.after → new ≡ live_names q.state.actors
    by_end true e is =
        let few : length q.state.actors ≤ length p.state.actors = let same_length = ap length is ∙ count in omega (arith, same_length) in
        let popped = after.ended few l.after (there is) e in
        push_one new (live_names before) popped.0 name (sym popped.1 ∙ was) ∙ sym (ap live_names (is ∙ l.put) ∙ ended_where before behind l.after e n.is_newest.others)
    by_end false e is =
        let few : length q.state.actors ≤ length p.state.actors = let same_length = ap length is ∙ count in omega (arith, same_length) in
        after.goes_on few l.after (there is) e ∙ sym (ap live_names is ∙ goes_on e)

    by_begun : (o : Option ActorState) → l.begins ≡ o → new ≡ live_names q.state.actors
    by_begun None e = by_end (has_ended l.after.phase) refl (l.are ∙ ap (with_begun (put_actor p.state.actors l.after)) e)
    by_begun (Some c) e =
        let put = put_actor p.state.actors l.after in
        let is : q.state.actors ≡ put ++ c ∷ [] = l.are ∙ ap (with_begun put) e in
        let alive = l.alive c e in
        let len = length-push put c in
        let more : length p.state.actors < length q.state.actors = let longer = ap length is in omega (arith, longer, len, count) in
        let pushed = after.begun more in
        let last : slice_get q.state.actors (length p.state.actors) ≡ Some c = ap (λ as_. slice_get as_ (length p.state.actors)) is ∙ (ap (slice_get (put ++ c ∷ [])) (sym count) ∙ get_last put c) in
        let one : pushed.0 ≡ c = one_of (sym pushed.1 ∙ last) in
        pushed.2 ∙ (ap (λ (x : ActorState). live ++ x.name ∷ []) one
        ∙ sym (ap live_names is ∙ (live_append put (c ∷ []) ∙ (ap (λ ns. ns ++ live_names (c ∷ [])) (goes_on alive.1) ∙ ap (λ ns. live ++ ns) (one_lives c [] alive.0)))))
      where
        one_of : {x y : ActorState} → Some x ≡ Some y → x ≡ y
        one_of e = cc

-- ---- and each is under those before it

nested_after : (p q : Progress) (name : List ℕ) (n : Newest p name) → AreNested (live_names p.state.actors) → AllReady p.state → Left p name n q → AreNested (live_names q.state.actors)
nested_after p q name n nested all l = by_begun l.begins refl
  where
    before : List ActorState
    before = n.is_newest.before

    behind : List ActorState
    behind = n.is_newest.behind

    put : List ActorState
    put = put_actor p.state.actors l.after

    was : AreNested (live_names before ++ name ∷ [])
    was = subst (λ m. AreNested (live_names before ++ m ∷ [])) n.own (subst AreNested (ap live_names n.is_newest.is ∙ live_where before behind n.actor n.is_newest.lives n.is_newest.others) nested)

    goes_on : has_ended l.after.phase ≡ false → live_names put ≡ live_names before ++ name ∷ []
    goes_on e = ap live_names l.put ∙ (live_where before behind l.after e n.is_newest.others ∙ ap (λ m. live_names before ++ m ∷ []) l.own)

    by_end : (t : Bool) → has_ended l.after.phase ≡ t → AreNested (live_names put)
    by_end true e = subst AreNested (sym (ap live_names l.put ∙ ended_where before behind l.after e n.is_newest.others)) (nested_pop (live_names before) name was)
    by_end false e = subst AreNested (sym (goes_on e)) was

    by_begun : (o : Option ActorState) → l.begins ≡ o → AreNested (live_names q.state.actors)
    by_begun None e = subst (λ as_. AreNested (live_names as_)) (sym (l.are ∙ ap (with_begun put) e)) (by_end (has_ended l.after.phase) refl)
    by_begun (Some c) e =
        let alive = l.alive c e in
        let child = l.named all c e in
        let are : live_names q.state.actors ≡ (live_names before ++ name ∷ []) ++ child_name name child.0 ∷ [] =
        ap live_names (l.are ∙ ap (with_begun put) e) ∙ (live_append put (c ∷ []) ∙ (ap (λ ns. ns ++ live_names (c ∷ [])) (goes_on alive.1)
        ∙ ap (λ ns. (live_names before ++ name ∷ []) ++ ns) (one_lives c [] alive.0 ∙ ap (λ m. m ∷ []) child.1))) in
        subst AreNested (sym are) (nested_push (live_names before) name child.0 was)

-- ---- each is at its index still

-- one of those behind whom another was added
indexed_before : (actors : List ActorState) (live : List LiveActor) (l : LiveActor) → AreIndexed actors (live ++ l ∷ []) → AreIndexed actors live
indexed_before actors [] l all = tt
indexed_before actors (x ∷ xs) l all = (all.0, indexed_before actors xs l all.1)

indexed_put : (actors : List ActorState) (index : ℕ) (a x : ActorState) (live : List LiveActor) → slice_get actors index ≡ Some a → x.name ≡ a.name → AreIndexed actors live → AreIndexed (slice_set actors index x) live
indexed_put actors index a x [] there own all = tt
indexed_put actors index a x (l ∷ ls) there own all = (index_put_back actors index a x there own l.name ∙ all.0, indexed_put actors index a x ls there own all.1)

-- the last of actors that have names of their own
last_fresh : (actors : List ActorState) (c : ActorState) → AreDistinct (actors ++ c ∷ []) → actor_named actors c.name ≡ None
last_fresh [] c all = refl
last_fresh (y ∷ ys) c all = ap (λ t. if t then Some y else actor_named ys c.name) (apart_too c.name y.name (new_last ys all.0)) ∙ last_fresh ys c all.1
  where
    new_last : (zs : List ActorState) → IsNew y.name (zs ++ c ∷ []) → same c.name y.name ≡ false
    new_last [] new = new.0
    new_last (z ∷ zs) new = new_last zs new.1

not_there : (actors : List ActorState) (name : List ℕ) (index : ℕ) → index_in actors name ≡ Some index → actor_named actors name ≡ None → ⊥
not_there actors name index is none = let found = subst (λ o. IfSome o (IsIndexOf actors name)) is (index_found actors name) in let there = found.1.named in cc

indexed_push : (actors : List ActorState) (c : ActorState) (live : List LiveActor) → actor_named actors c.name ≡ None → AreIndexed actors live → AreIndexed (actors ++ c ∷ []) (live ++ record { name = c.name; index = length actors } ∷ [])
indexed_push actors c [] none all = (index_push actors c c.name none ∙ ap (λ t. cond t (Some (length actors)) (index_in actors c.name)) (same_self c.name), tt)
indexed_push actors c (l ∷ ls) none all = (by_name (same c.name l.name) refl, indexed_push actors c ls none all.1)
  where
    by_name : (t : Bool) → same c.name l.name ≡ t → index_in (actors ++ c ∷ []) l.name ≡ Some l.index
    by_name true e = absurd (not_there actors l.name l.index all.0 (ap (actor_named actors) (sym (same_equal c.name l.name e)) ∙ none))
    by_name false e = index_push actors c l.name none ∙ (ap (λ t. cond t (Some (length actors)) (index_in actors l.name)) e ∙ all.0)

indexed_after : (p q : Progress) (live new : List LiveActor) (name : List ℕ) (index : ℕ) (n : Newest p name) → AreIndexed p.state.actors live → IsIndexOf p.state.actors name index
    → AreDistinct q.state.actors → Left p name n q → LivesAfter q.state.actors index (length p.state.actors) live new → AreIndexed q.state.actors new
indexed_after p q live new name index n all at distinct l after = by_begun l.begins refl
  where
    f : IsFirstNamed p.state.actors name index at.0
    f = at.1

    put : List ActorState
    put = put_actor p.state.actors l.after

    set : put ≡ slice_set p.state.actors index l.after
    set = f.put l.after l.own

    count : length put ≡ length p.state.actors
    count = ap length set ∙ set_length p.state.actors index l.after

    still : AreIndexed put live
    still = subst (λ as_. AreIndexed as_ live) (sym set)
        (indexed_put p.state.actors index at.0 l.after live f.there (l.own ∙ sym (found_name p.state.actors name at.0 f.named)) all)

    there : q.state.actors ≡ put → slice_get q.state.actors index ≡ Some l.after
    there is = ap (λ as_. slice_get as_ index) (is ∙ set) ∙ set_get p.state.actors index l.after f.inside

    by_end : (t : Bool) → has_ended l.after.phase ≡ t → q.state.actors ≡ put → AreIndexed q.state.actors new
    by_end true e is =
        let few : length q.state.actors ≤ length p.state.actors = let same_length = ap length is ∙ count in omega (arith, same_length) in
        let popped = after.ended few l.after (there is) e in
        subst (λ as_. AreIndexed as_ new) (sym is) (indexed_before put new popped.0 (subst (AreIndexed put) popped.1 still))
    by_end false e is =
        let few : length q.state.actors ≤ length p.state.actors = let same_length = ap length is ∙ count in omega (arith, same_length) in
        subst (λ as_. AreIndexed as_ new) (sym is) (subst (AreIndexed put) (sym (after.goes_on few l.after (there is) e)) still)

    by_begun : (o : Option ActorState) → l.begins ≡ o → AreIndexed q.state.actors new
    by_begun None e = by_end (has_ended l.after.phase) refl (l.are ∙ ap (with_begun put) e)
    by_begun (Some c) e =
        let is : q.state.actors ≡ put ++ c ∷ [] = l.are ∙ ap (with_begun put) e in
        let len = length-push put c in
        let more : length p.state.actors < length q.state.actors = let longer = ap length is in omega (arith, longer, len, count) in
        let pushed = after.begun more in
        let last : slice_get q.state.actors (length p.state.actors) ≡ Some c = ap (λ as_. slice_get as_ (length p.state.actors)) is ∙ (ap (slice_get (put ++ c ∷ [])) (sym count) ∙ get_last put c) in
        let one : pushed.0 ≡ c = one_of (sym pushed.1 ∙ last) in
        let are : new ≡ live ++ record { name = c.name; index = length put } ∷ [] = pushed.2 ∙ (ap (λ (x : ActorState). live ++ record { name = x.name; index = length p.state.actors } ∷ []) one
        ∙ ap (λ k. live ++ record { name = c.name; index = k } ∷ []) (sym count)) in
        subst (λ as_. AreIndexed as_ new) (sym is) (subst (AreIndexed (put ++ c ∷ [])) (sym are) (indexed_push put c live (last_fresh put c (subst AreDistinct is distinct)) still))
      where
        one_of : {x y : ActorState} → Some x ≡ Some y → x ≡ y
        one_of h = cc

-- ---- the root is first, and ends last

-- the root, and what it says of the others
root_after : (p q : Progress) (name : List ℕ) (n : Newest p name) → RootIsFirst p.state.actors → Left p name n q → RootIsFirst q.state.actors
root_after p q name n r l = by_before n.is_newest.before refl l.begins refl
  where
    behind : List ActorState
    behind = n.is_newest.behind

    as_begun : (y : ActorState) (ys : List ActorState) (o : Option ActorState) → with_begun (y ∷ ys) o ≡ y ∷ with_begun ys o
    as_begun y ys None = refl
    as_begun y ys (Some c) = refl

    by_before : (bs : List ActorState) → n.is_newest.before ≡ bs → (o : Option ActorState) → l.begins ≡ o → RootIsFirst q.state.actors
    by_before [] e o eo =
        let old : r.root_ ∷ r.others ≡ n.actor ∷ behind = sym r.first ∙ (n.is_newest.is ∙ ap (λ zs. zs ++ n.actor ∷ behind) e) in
        let first : r.root_ ≡ n.actor = cc in
        let root_own : l.after.name ≡ root_name = l.own ∙ (sym n.own ∙ (ap (λ (x : ActorState). x.name) (sym first) ∙ r.named)) in
        record {
          root_ = l.after;
          others = with_begun behind o;
          first = l.are ∙ (ap (λ as_. with_begun as_ l.begins) (l.put ∙ ap (λ zs. zs ++ l.after ∷ behind) e) ∙ (ap (with_begun (l.after ∷ behind)) eo ∙ as_begun l.after behind o));
          named = root_own;
          last = λ ended. by_o o eo ended;
        }
      where
        by_o : (x : Option ActorState) → l.begins ≡ x → has_ended l.after.phase ≡ true → live_names (with_begun behind x) ≡ []
        by_o None ex ended = n.is_newest.others
        by_o (Some c) ex ended = let alive = (l.alive c ex).1 in absurd cc
    by_before (y ∷ ys) e o eo =
        let old : r.root_ ∷ r.others ≡ y ∷ (ys ++ n.actor ∷ behind) = sym r.first ∙ (n.is_newest.is ∙ ap (λ zs. zs ++ n.actor ∷ behind) e) in
        let first : r.root_ ≡ y = cc in
        let others : r.others ≡ ys ++ n.actor ∷ behind = cc in
        record {
          root_ = y;
          others = with_begun (ys ++ l.after ∷ behind) o;
          first = l.are ∙ (ap (λ as_. with_begun as_ l.begins) (l.put ∙ ap (λ zs. zs ++ l.after ∷ behind) e) ∙ (ap (with_begun (y ∷ (ys ++ l.after ∷ behind))) eo ∙ as_begun y (ys ++ l.after ∷ behind) o));
          named = ap (λ (x : ActorState). x.name) (sym first) ∙ r.named;
          last = λ ended. not_empty (live_names ys) n.actor.name
              (sym (live_where ys behind n.actor n.is_newest.lives n.is_newest.others) ∙ (ap live_names (sym others) ∙ r.last (ap (λ (x : ActorState). has_ended x.phase) first ∙ ended)));
        }

-- the root of a world is the first of its actors
is_complete_first : (w : WorldState) (r : RootIsFirst w.actors) → is_complete w ≡ has_ended r.root_.phase
is_complete_first w r =
    ap (λ as_. is_ended (actor_named as_ root_name)) r.first
    ∙ ap (λ t. is_ended (if t then Some r.root_ else actor_named r.others root_name)) (ap (λ n. same n root_name) r.named ∙ same_self root_name)

-- while one lives, the root does
pub not_complete : (w : WorldState) (live : List (List ℕ)) → RootIsFirst w.actors → live ≡ live_names w.actors → 0 < length live → is_complete w ≡ false
not_complete w live r stack some = is_complete_first w r ∙ by_end (has_ended r.root_.phase) refl
  where
    by_end : (t : Bool) → has_ended r.root_.phase ≡ t → has_ended r.root_.phase ≡ false
    by_end false e = e
    by_end true e =
        let none : live ≡ [] = stack ∙ (ap live_names r.first ∙ (ap (λ t. if t then live_names r.others else r.root_.name ∷ live_names r.others) e ∙ r.last e)) in
        let no : length live ≡ 0 = ap length none in
        absurd (omega (arith, some, no))

-- once none does, it has ended
pub whole_at_last : (i : Image) (p : Progress) (live : List LiveActor) → IsSerial i p live → length live ≤ 0 → is_complete p.state ≡ true
whole_at_last i p live s none = let r = s.root_first in is_complete_first p.state r ∙ by_end r (has_ended r.root_.phase) refl
  where
    by_end : (r : RootIsFirst p.state.actors) (t : Bool) → has_ended r.root_.phase ≡ t → has_ended r.root_.phase ≡ true
    by_end r true e = e
    by_end r false e =
        let some : names_of_live live ≡ r.root_.name ∷ live_names r.others = s.stack ∙ (ap live_names r.first ∙ one_lives r.root_ r.others e) in
        let one : length (names_of_live live) ≡ suc (length (live_names r.others)) = ap length some in
        let count = count_names live in
        absurd (omega (arith, none, one, count))

-- ---- the next turn

pub serial_next : (i : Image) (p q : Progress) (live new : List LiveActor) (name : List ℕ) (index count : ℕ) → IsSerial i p live → 0 < length live → (n : Newest p name) → IsIndexOf p.state.actors name index
    → count ≡ length p.state.actors → TookTurnOf p name q → q.stopped ≡ false → LivesAfter q.state.actors index count live new → IsSerial i q new
serial_next i p q live new name index count s some n at many g going after =
    let t : Turn = record { actor = name; event = g.event } in
    let l = left p name n q g in
    let after_all = subst (λ k. LivesAfter q.state.actors index k live new) many after in
    let names = count_names live in
    let run : Runs (initial_state i) q.turns q.state = subst (λ ts. Runs (initial_state i) ts q.state) (sym g.noted) (Runs-push (initial_state i) p.state q.state p.turns t s.run g.turn) in
    let is_newest = ap newest n.is_newest.is ∙ (newest_is n.is_newest.before n.is_newest.behind n.actor n.is_newest.lives n.is_newest.others ∙ ap (λ m. Some m) n.own) in
    record {
      going = going;
      run = run;
      order = subst (λ ts. InSerialOrder (initial_state i) ts) (sym g.noted) (EachTurn-push _ (initial_state i) p.state q.state p.turns t s.order s.run g.turn is_newest);
      goes_on = subst (λ ts. RootGoesOn (initial_state i) ts) (sym g.noted) (EachTurn-push _ (initial_state i) p.state q.state p.turns t s.goes_on s.run g.turn (not_complete p.state (names_of_live live) s.root_first s.stack (omega (arith, some, names))));
      stack = stack_after p q (names_of_live live) (names_of_live new) name index n s.stack at l (names_after q.state.actors index (length p.state.actors) live new after_all);
      indexed = indexed_after p q live new name index n s.indexed at (run_family i q.turns q.state run).distinct l after_all;
      root_first = root_after p q name n s.root_first l;
      nested = nested_after p q name n s.nested (run_ready i p.turns p.state s.run) l;
    }

pub serial_less : (i : Image) (p q : Progress) (live : List LiveActor) (name : List ℕ) → IsSerial i p live → TookTurnOf p name q → work_left q.state < work_left p.state
serial_less i p q live name s g = turn_works p.state name g.event q.state (run_ready i p.turns p.state s.run) (run_family i p.turns p.state s.run) g.turn

-- an actor begun stands at the end
pub index_still : (p q : Progress) (name : List ℕ) (index : ℕ) → IsIndexOf p.state.actors name index → TookTurnOf p name q → index < length q.state.actors
index_still p q name index at g =
    let t = turn_leaves p.state name g.event q.state g.turn in
    let count : length (put_actor p.state.actors t.after) ≡ length p.state.actors = ap length (at.1.put t.after t.own) ∙ set_length p.state.actors index t.after in
    let are : length q.state.actors ≡ length (with_begun (put_actor p.state.actors t.after) t.begins) = ap length t.are in
    let inside = at.1.inside in
    let more = longer (put_actor p.state.actors t.after) t.begins in
    omega (arith, count, are, inside, more)
  where
    longer : (as_ : List ActorState) (o : Option ActorState) → length as_ ≤ length (with_begun as_ o)
    longer as_ None = omega arith
    longer as_ (Some c) = let h = length-push as_ c in omega (arith, h)

-- the actor at an index is one
pub ends_as : (actors : List ActorState) (index : ℕ) (a x : ActorState) → slice_get actors index ≡ Some a → slice_get actors index ≡ Some x → has_ended a.phase ≡ has_ended x.phase
ends_as actors index a x is at = let one : a ≡ x = one_of (sym is ∙ at) in ap (λ (y : ActorState). has_ended y.phase) one
  where
    one_of : {y z : ActorState} → Some y ≡ Some z → y ≡ z
    one_of e = cc

-- ---- a run in serial order, by its turns alone

newest_known : (w : WorldState) (turns : List Turn) (name : List ℕ) → AreDistinct w.actors → newest w.actors ≡ Some name → Newest (record { state = w; turns = turns; stopped = false }) name
newest_known w turns name distinct is = by_names (live_names w.actors) refl
  where
    by_names : (ns : List (List ℕ)) → live_names w.actors ≡ ns → Newest (record { state = w; turns = turns; stopped = false }) name
    by_names [] none = let f : None ≡ Some name = sym (none_newest w.actors none) ∙ is in absurd cc
    by_names (m ∷ ms) some =
        let count : length (live_names w.actors) ≡ suc (length ms) = ap length some in
        let n = newest_of w.actors (omega (arith, count)) in
        let found : newest w.actors ≡ Some n.0.name = ap newest n.1.is ∙ newest_is n.1.before n.1.behind n.0 n.1.lives n.1.others in
        let both : Some n.0.name ≡ Some name = sym found ∙ is in
        let own : n.0.name ≡ name = cc in
        let all : AreDistinct (n.1.before ++ n.0 ∷ n.1.behind) = subst AreDistinct n.1.is distinct in
        record {
          actor = n.0;
          is_newest = n.1;
          own = own;
          distinct = all;
          named = ap (actor_named w.actors) (sym own) ∙ (ap (λ as_. actor_named as_ n.0.name) n.1.is ∙ named_in n.1.before n.1.behind n.0 all);
        }

abbrev took : Event → WorldState → Taken
took e w = record { event = e; world = w }

-- a turn leads to one world
same_world : (e : Event) (v w : WorldState) → Some (took e v) ≡ Some (took e w) → v ≡ w
same_world e v w is = ap (λ (t : Taken). t.world) (one_of is)
  where
    one_of : {x y : Taken} → Some x ≡ Some y → x ≡ y
    one_of h = cc

serial_nested : (old : WorldState) (turns : List Turn) (new : WorldState) → AllReady old → Family old.actors → Runs old turns new → InSerialOrder old turns → AreNested (live_names old.actors) → AreNested (live_names new.actors)
serial_nested old [] new all family run order nested = subst (λ (w : WorldState). AreNested (live_names w.actors)) (sym run) nested
serial_nested old (t ∷ ts) new all family run order nested =
    let p : Progress = record { state = old; turns = []; stopped = false } in
    let q : Progress = record { state = run.0; turns = record { actor = t.actor; event = t.event } ∷ []; stopped = false } in
    let one = same_world t.event order.0 run.0 (sym order.1 ∙ run.1) in
    let g : TookTurnOf p t.actor q = record { event = t.event; turn = run.1; noted = refl } in
    let n = newest_known old [] t.actor family.distinct order.2 in
    let mid = nested_after p q t.actor n nested all (left p t.actor n q g) in
    serial_nested run.0 ts new (turn_ready old t.actor t.event run.0 all run.1) (turn_family old t.actor t.event run.0 all family run.1) run.2 (subst (λ (w : WorldState). InSerialOrder w ts) one order.3) mid

opening_nested : (i : Image) → AreNested (live_names (initial_state i).actors)
unfolding root
opening_nested i = (tt, tt)

-- an actor that lives has a turn, waits, or finds its gate busy
pub living_go_on : LivingGoOn
living_go_on i turns w name a run named live = elim (turning w name a named (run_ready i turns w run) live) [
  | HasTurn t is ↦ inl (ap is_some is)
  | Awaiting s ↦ inr (inl s)
  | AtBusy s ↦ inr (inr s)
]

-- and in serial order the actor whose turn it is has one
pub serial_goes_on : SerialOrderGoesOn
serial_goes_on i turns w name run order is =
    let n = newest_known w turns name (run_family i turns w run).distinct is in
    let nested = serial_nested (initial_state i) turns w (opening_ready i) (opening_family i) run order (opening_nested i) in
    elim (living_go_on i turns w name n.actor run n.named n.is_newest.lives) [
      | inl has ↦ has
      | inr (inl s) ↦ absurd (newest_waits_not i turns w n.actor name run n.is_newest n.own s)
      | inr (inr s) ↦ absurd (newest_busy_not i turns w n.actor name run n.is_newest n.own nested s)
    ]
