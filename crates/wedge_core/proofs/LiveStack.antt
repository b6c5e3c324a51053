-- Runs in serial order: the actor that was started last and has not ended never waits, and those that live are a stack.
use Rattle.std.proofs.Common.{◌≡◌, ℕ, suc, ◌<◌, Bool, true, false, true≢false, List, [], ◌∷◌, ◌++◌, length, refl, sym, ap, subst, ◌∙◌, append-nil, arith, inl, inr}
use Rattle.std.specs.Prelude.{Option, Some, None, IsSomeAnd, is_some, ◌==◌, ◌&&◌, if◌then◌else◌}
use Rattle.callgate.specs.declared.gate.Gate.{Gate}
use Rattle.cow_pages.specs.PrivateMemory.{PrivateMemory}
use Rattle.wedge_base.specs.Images.{Image}
use Rattle.wedge_base.specs.Names.{same, root_name}
use Rattle.wedge_base.specs.declared.grants.GateId.{GateId}
use Rattle.wedge_base.specs.declared.grants.GateKind.{GateKind}
use Rattle.wedge_base.specs.declared.grants.GateKind.TheVariants as gate_kind
use Rattle.wedge_base.specs.declared.rights.End.{End}
use Rattle.wedge_events.specs.declared.cells.GateAsk.TheVariants as gate_ask
use Rattle.wedge_events.specs.declared.events.Turn.{Turn}
use Rattle.wedge_events.specs.declared.events.Want.TheVariants as want
use Rattle.machine.specs.declared.copy_grant.CopyGrant.{CopyGrant}
use Rattle.machine.specs.declared.phase.Phase.{Phase}
use Rattle.machine.specs.declared.phase.Phase.TheVariants as phase
use Rattle.machine.specs.Actors.{ActorState, root}
use Rattle.machine.specs.Calls.{a0}
use Rattle.machine.specs.Children.{Children, is_number, fuel_given, is_child, without_child, child_name}
use Rattle.machine.specs.Entrance.{Entrance}
use Rattle.run_laws.specs.FamilyTrees.{Holds, AllBehind, WaitsForOwn, Family}
use Rattle.run_laws.specs.GatesWithin.{is_under}
use Rattle.run_laws.specs.Holding.{gate_for}
use Rattle.machine.specs.Local.{has_ended}
use Rattle.machine.specs.Opening.{FileOpening}
use Rattle.run_laws.specs.Names.{IsNew, AreDistinct}
use Rattle.machine.specs.Take.{next_start, making_want, starting_want, opening_want, entering_want, leaving_want, current_want, wanted_at, last_want, ending_want}
use Rattle.machine.specs.Worlds.{WorldState, initial_state, actor_named, put_actor, ready, at_rest, Runs, is_ended}
use Rattle.run_laws.proofs.EnteringGates.{IsEnterable}
use Rattle.run_laws.proofs.FamilyKept.{found_apart}
use Rattle.run_laws.proofs.FamilyRuns.{run_family}
use Rattle.machine.proofs.FuelGiven.{number_is, number_self, given_elsewhere, given_gone}
use Rattle.run_laws.proofs.GatesWithin.{under_itself, none_at_rest}
use Rattle.run_laws.proofs.GrantedCopies.{runs_alone}
use Rattle.run_laws.proofs.Meeting.{IsWanted, ReadsAs, LoadsAt}
use Rattle.run_laws.proofs.Named.{same_self, same_equal}
use Rattle.machine.proofs.Resting.{rest-uncalm}
use Rattle.run_laws.proofs.Settling.{AllReady, named_ready, run_ready}
use Rattle.run_laws.proofs.Trees.{apart_too}
use Rattle.run_laws.proofs.Turns.{Readies, Stays, Back, readies}
use Rattle.world_turns.specs.Progress.{Progress, Awaits, IsWaiting, IsBusy, initial_progress}
use Rattle.wedge_core.specs.Serial.{newest, live_names, AreUnder, AreNested, IsSerial}
use Rattle.wedge_core.specs.declared.serially.LiveActor.{LiveActor}
use Rattle.world_turns.proofs.AtRest.{unjoined_at_rest}
use Rattle.world_turns.proofs.FamilyTurns.{is_given}

-- ---- who lives

pub one_lives : (a : ActorState) (as_ : List ActorState) → has_ended a.phase ≡ false → live_names (a ∷ as_) ≡ a.name ∷ live_names as_
one_lives a as_ e = ap (λ t. if t then live_names as_ else a.name ∷ live_names as_) e

one_ended : (a : ActorState) (as_ : List ActorState) → has_ended a.phase ≡ true → live_names (a ∷ as_) ≡ live_names as_
one_ended a as_ e = ap (λ t. if t then live_names as_ else a.name ∷ live_names as_) e

pub live_append : (xs ys : List ActorState) → live_names (xs ++ ys) ≡ live_names xs ++ live_names ys
live_append [] ys = refl
live_append (a ∷ as_) ys = by_end (has_ended a.phase) refl (live_append as_ ys)
  where
    by_end : (t : Bool) → has_ended a.phase ≡ t → live_names (as_ ++ ys) ≡ live_names as_ ++ live_names ys → live_names (a ∷ (as_ ++ ys)) ≡ live_names (a ∷ as_) ++ live_names ys
    by_end true e others = one_ended a (as_ ++ ys) e ∙ (others ∙ ap (λ ns. ns ++ live_names ys) (sym (one_ended a as_ e)))
    by_end false e others = one_lives a (as_ ++ ys) e ∙ (ap (λ ns. a.name ∷ ns) others ∙ ap (λ ns. ns ++ live_names ys) (sym (one_lives a as_ e)))

-- the actor that was started last and has not ended
pub record IsNewest (actors : List ActorState) (a : ActorState) : Type 0 where
  pub before : List ActorState
  pub behind : List ActorState
  pub is : actors ≡ before ++ a ∷ behind
  pub lives : has_ended a.phase ≡ false
  pub others : live_names behind ≡ []

pub newest_of : (actors : List ActorState) → 0 < length (live_names actors) → (a : ActorState) × IsNewest actors a
newest_of [] lt = absurd (omega (arith, lt))
newest_of (y ∷ ys) lt = by_others (live_names ys) refl (newest_of ys)
  where
    later : (n : (a : ActorState) × IsNewest ys a) → (a : ActorState) × IsNewest (y ∷ ys) a
    later n = (n.0, record { before = y ∷ n.1.before; behind = n.1.behind; is = ap (λ zs. y ∷ zs) n.1.is; lives = n.1.lives; others = n.1.others })

    by_end : (t : Bool) → has_ended y.phase ≡ t → live_names ys ≡ [] → (a : ActorState) × IsNewest (y ∷ ys) a
    by_end true e none = let no : length (live_names (y ∷ ys)) ≡ 0 = ap length (one_ended y ys e ∙ none) in absurd (omega (arith, lt, no))
    by_end false e none = (y, record { before = []; behind = ys; is = refl; lives = e; others = none })

    by_others : (ns : List (List ℕ)) → live_names ys ≡ ns → (0 < length (live_names ys) → (a : ActorState) × IsNewest ys a) → (a : ActorState) × IsNewest (y ∷ ys) a
    by_others [] e rec_ = by_end (has_ended y.phase) refl e
    by_others (m ∷ ms) e rec_ = let count : length (live_names ys) ≡ suc (length ms) = ap length e in later (rec_ (omega (arith, count)))

-- the names of those that live: the newest is the last of them
pub live_where : (before behind : List ActorState) (a : ActorState) → has_ended a.phase ≡ false → live_names behind ≡ [] → live_names (before ++ a ∷ behind) ≡ live_names before ++ a.name ∷ []
live_where before behind a lives others = live_append before (a ∷ behind) ∙ ap (λ ns. live_names before ++ ns) (one_lives a behind lives ∙ ap (λ ns. a.name ∷ ns) others)

pub ended_where : (before behind : List ActorState) (a : ActorState) → has_ended a.phase ≡ true → live_names behind ≡ [] → live_names (before ++ a ∷ behind) ≡ live_names before
ended_where before behind a ended others = live_append before (a ∷ behind) ∙ (ap (λ ns. live_names before ++ ns) (one_ended a behind ended ∙ others) ∙ append-nil (live_names before))

pub none_newest : (as_ : List ActorState) → live_names as_ ≡ [] → newest as_ ≡ None
none_newest [] none = refl
none_newest (a ∷ as_) none = by_end (has_ended a.phase) refl (none_newest as_)
  where
    by_end : (t : Bool) → has_ended a.phase ≡ t → (live_names as_ ≡ [] → newest as_ ≡ None) → newest (a ∷ as_) ≡ None
    by_end false e others = let some = sym (one_lives a as_ e) ∙ none in absurd cc
    by_end true e others =
        ap (λ o. elim o [ Some name ↦ Some name | None ↦ if has_ended a.phase then None else Some a.name ]) (others (sym (one_ended a as_ e) ∙ none))
        ∙ ap (λ t. if t then None else Some a.name) e

pub newest_is : (before behind : List ActorState) (a : ActorState) → has_ended a.phase ≡ false → live_names behind ≡ [] → newest (before ++ a ∷ behind) ≡ Some a.name
newest_is [] behind a lives others =
    ap (λ o. elim o [ Some name ↦ Some name | None ↦ if has_ended a.phase then None else Some a.name ]) (none_newest behind others) ∙ ap (λ t. if t then None else Some a.name) lives
newest_is (y ∷ ys) behind a lives others =
    ap (λ o. elim o [ Some name ↦ Some name | None ↦ if has_ended y.phase then None else Some y.name ]) (newest_is ys behind a lives others)

-- ---- its index among actors of which no two have one name

new_in : (n : List ℕ) (before behind : List ActorState) (a : ActorState) → IsNew n (before ++ a ∷ behind) → same a.name n ≡ false
new_in n [] behind a new = new.0
new_in n (y ∷ ys) behind a new = new_in n ys behind a new.1

pub named_in : (before behind : List ActorState) (a : ActorState) → AreDistinct (before ++ a ∷ behind) → actor_named (before ++ a ∷ behind) a.name ≡ Some a
named_in [] behind a all = ap (λ t. if t then Some a else actor_named behind a.name) (same_self a.name)
named_in (y ∷ ys) behind a all =
    ap (λ t. if t then Some y else actor_named (ys ++ a ∷ behind) a.name) (apart_too a.name y.name (new_in y.name ys behind a all.0)) ∙ named_in ys behind a all.1

pub put_in : (before behind : List ActorState) (a x : ActorState) → AreDistinct (before ++ a ∷ behind) → x.name ≡ a.name → put_actor (before ++ a ∷ behind) x ≡ before ++ x ∷ behind
put_in [] behind a x all own = ap (λ t. if t then x ∷ behind else a ∷ put_actor behind x) (ap (same a.name) own ∙ same_self a.name)
put_in (y ∷ ys) behind a x all own =
    ap (λ t. if t then x ∷ (ys ++ a ∷ behind) else y ∷ put_actor (ys ++ a ∷ behind) x) (ap (same y.name) own ∙ apart_too a.name y.name (new_in y.name ys behind a all.0))
    ∙ ap (λ zs. y ∷ zs) (put_in ys behind a x all.1 own)

-- a child that is not joined stands behind it
behind_in : (before behind : List ActorState) (a : ActorState) (k g : ℕ) → AllBehind (before ++ a ∷ behind) → fuel_given a.unjoined k ≡ Some g → Holds (actor_named behind (child_name a.name k)) g
behind_in [] behind a k g all given = all.0 k g given
behind_in (y ∷ ys) behind a k g all given = behind_in ys behind a k g all.1 given

skip_first : (y : ActorState) (ys : List ActorState) (m : List ℕ) → same y.name m ≡ false → actor_named (y ∷ ys) m ≡ actor_named ys m
skip_first y ys m e = ap (λ t. if t then Some y else actor_named ys m) e

found_in : (before behind : List ActorState) (a : ActorState) (m : List ℕ) (g : ℕ) → AreDistinct (before ++ a ∷ behind) → Holds (actor_named behind m) g → actor_named (before ++ a ∷ behind) m ≡ actor_named behind m
found_in [] behind a m g all h = skip_first a behind m (found_apart a behind m g all.0 h)
found_in (y ∷ ys) behind a m g all h =
    let others = found_in ys behind a m g all.1 h in
    skip_first y (ys ++ a ∷ behind) m (found_apart y (ys ++ a ∷ behind) m g all.0 (subst (λ o. Holds o g) (sym others) h)) ∙ others

ended_in : (as_ : List ActorState) (m : List ℕ) → live_names as_ ≡ [] → IsSomeAnd (actor_named as_ m) (λ (c : ActorState). Unit {0}) → is_ended (actor_named as_ m) ≡ true
ended_in [] m none there = absurd there
ended_in (y ∷ ys) m none there = by_name (same y.name m) refl (ended_in ys m)
  where
    is_true : has_ended y.phase ≡ true
    is_true = by_end (has_ended y.phase) refl
      where
        by_end : (t : Bool) → has_ended y.phase ≡ t → has_ended y.phase ≡ true
        by_end true e = e
        by_end false e = let some = sym (one_lives y ys e) ∙ none in absurd cc

    by_name : (t : Bool) → same y.name m ≡ t → (live_names ys ≡ [] → IsSomeAnd (actor_named ys m) (λ (c : ActorState). Unit {0}) → is_ended (actor_named ys m) ≡ true) → is_ended (actor_named (y ∷ ys) m) ≡ true
    by_name true e others = ap (λ t. is_ended (if t then Some y else actor_named ys m)) e ∙ is_true
    by_name false e others =
        let skip = skip_first y ys m e in
        ap is_ended skip ∙ others (sym (one_ended y ys is_true) ∙ none) (subst (λ o. IsSomeAnd o (λ (c : ActorState). Unit {0})) skip there)

-- ---- it never waits

-- what is joined is a child that is not joined
first_listed : (c : ℕ × ℕ) (cs : Children) → is_child (c ∷ cs) c.0 ≡ true
first_listed c cs = ap (λ t. is_some (if t then Some c.1 else fuel_given cs c.0)) (number_self c.0)

last_joins : (o : Option Gate) (p : PrivateMemory) (x : End) (k : ℕ) → last_want o p x ≡ want.Join k → ⊥
last_joins None p x k is = cc
last_joins (Some g) p x k is = by_kind g.kind is
  where
    by_kind : (kind : GateKind) → leaving_want kind g.id p x ≡ want.Join k → ⊥
    by_kind gate_kind.Fresh h = cc
    by_kind gate_kind.Recycled h = cc

ending_listed : (b : ActorState) (cs : Children) (x : End) (k : ℕ) → ending_want b.run_of b.memory cs x ≡ want.Join k → is_child cs k ≡ true
ending_listed b [] x k is = absurd (last_joins b.run_of b.memory x k is)
ending_listed b (c ∷ cs) x k is = let one : c.0 ≡ k = cc in subst (λ n. is_child (c ∷ cs) n ≡ true) one (first_listed c cs)

starting_joins : (b : ActorState) (gs : List CopyGrant) (k : ℕ) → Some (starting_want b gs) ≡ Some (want.Join k) → ⊥
starting_joins b [] k is = cc
starting_joins b (g ∷ gs) k is = cc

making_joins : (gs : List CopyGrant) (k : ℕ) → making_want gs ≡ Some (want.Join k) → ⊥
making_joins [] k is = cc
making_joins (g ∷ gs) k is = cc

opening_joins : (o : FileOpening) (n : Option ℕ) (k : ℕ) → Some (opening_want o n) ≡ Some (want.Join k) → ⊥
opening_joins o None k is = cc
opening_joins o (Some fd) k is = cc

entering_joins : (kind : GateKind) (g : Gate) (run : List ℕ) (k : ℕ) → Some (entering_want kind g run) ≡ Some (want.Join k) → ⊥
entering_joins gate_kind.Fresh g run k is = cc
entering_joins gate_kind.Recycled g run k is = cc

waits_for : (i : Image) (b : ActorState) (p : Phase) (k : ℕ) → ReadsAs i b p → wanted_at b p ≡ Some (want.Join k) → is_child b.unjoined k ≡ true
waits_for i b phase.Running k reads wants = absurd cc
waits_for i b (phase.Within q) k reads wants = let is : q ≡ want.Join k = cc in (subst (λ x. IsWanted (LoadsAt i b.hart reads.0 reads.1) b x) is reads.3).0
waits_for i b (phase.Starting pre) k reads wants = absurd (starting_joins b pre.left k wants)
waits_for i b (phase.MakingGate pre) k reads wants = absurd (making_joins pre.left k wants)
waits_for i b (phase.Opening slot tag) k reads wants = absurd cc
waits_for i b (phase.Releasing slot) k reads wants = absurd cc
waits_for i b (phase.Entering entrance) k reads wants = absurd (entering_joins entrance.gate.kind entrance.gate (child_name b.name (next_start b)) k wants)
waits_for i b (phase.Waiting number) k reads wants = absurd cc
waits_for i b (phase.OpeningFile o) k reads wants = absurd (opening_joins o o.number k wants)
waits_for i b (phase.Ending x) k reads wants = ending_listed b b.unjoined x k cc
waits_for i b (phase.Ended x) k reads wants = absurd cc

-- a child that is there once another is away was there before
listed_before : (cs : Children) (j k : ℕ) → is_child (without_child cs j) k ≡ true → is_child cs k ≡ true
listed_before cs j k listed = by_number (is_number j k) refl
  where
    by_number : (t : Bool) → is_number j k ≡ t → is_child cs k ≡ true
    by_number true e = let is : j ≡ k = number_is j k e in absurd (true≢false (sym listed ∙ (ap (λ n. is_child (without_child cs j) n) (sym is) ∙ ap is_some (given_gone cs j))))
    by_number false e = sym (ap is_some (given_elsewhere cs j k (λ is. true≢false (sym (subst (λ n. is_number j n ≡ true) (sym is) (number_self j)) ∙ e)))) ∙ listed

-- what an actor at rest awaits is a child that is not joined
awaits_own : (w : WorldState) (name : List ℕ) (a : ActorState) (k : ℕ) → AllReady w → Family w.actors → actor_named w.actors name ≡ Some a → Awaits (at_rest w a) k → is_child a.unjoined k ≡ true
awaits_own w name a k all family named awaits = by_case (readies w.actors a) awaits
  where
    b : ActorState
    b = at_rest w a

    -- the children that it has at rest are those with which it goes on
    listed : current_want b ≡ Some (want.Join k) → is_child (ready w.actors a).unjoined k ≡ true
    listed wants = ap (λ cs. is_child cs k) (sym (unjoined_at_rest w.image (ready w.actors a))) ∙ waits_for w.image b b.phase k (named_ready w name a all named) wants

    waited : (ready w.actors a).phase ≡ phase.Waiting k → a.phase ≡ phase.Waiting k → is_child a.unjoined k ≡ true
    waited at is = subst (λ p. WaitsForOwn p a.unjoined) is (family.waits name a named)

    uncalm : b.phase ≡ phase.Waiting k → (ready w.actors a).phase ≡ phase.Waiting k
    uncalm at = rest-uncalm w.image (ready w.actors a) (phase.Waiting k) (λ h. h) at

    by_case : Readies w.actors a → Awaits b k → is_child a.unjoined k ≡ true
    by_case (Stays is) (inl wants) = ap (λ (x : ActorState). is_child x.unjoined k) (sym is) ∙ listed wants
    by_case (Stays is) (inr at) = waited (uncalm at) (ap (λ (x : ActorState). x.phase) (sym is) ∙ uncalm at)
    by_case (Back j at r is) (inl wants) = listed_before a.unjoined j k (ap (λ (x : ActorState). is_child x.unjoined k) (sym is) ∙ listed wants)
    by_case (Back j at r is) (inr waits) = let f : phase.Running ≡ phase.Waiting k = ap (λ (x : ActorState). x.phase) (sym is) ∙ uncalm waits in absurd cc

-- the newest actor of a run awaits no child and no run that has not ended
pub newest_waits_not : (i : Image) (turns : List Turn) (w : WorldState) (a : ActorState) (name : List ℕ) → Runs (initial_state i) turns w → IsNewest w.actors a → a.name ≡ name → IsWaiting w name → ⊥
newest_waits_not i turns w a name run n own s =
    let family = run_family i turns w run in
    let all : AreDistinct (n.before ++ a ∷ n.behind) = subst AreDistinct n.is family.distinct in
    let there : actor_named w.actors a.name ≡ Some a = ap (λ as_. actor_named as_ a.name) n.is ∙ named_in n.before n.behind a all in
    let same_one : s.actor ≡ a = one_of (sym s.named ∙ (ap (actor_named w.actors) (sym own) ∙ there)) in
    let here : is_child a.unjoined s.number ≡ true = ap (λ (x : ActorState). is_child x.unjoined s.number) (sym same_one) ∙ awaits_own w name s.actor s.number (run_ready i turns w run) family s.named s.awaits in
    let given = is_given (fuel_given a.unjoined s.number) here in
    let holds = behind_in n.before n.behind a s.number given.0 (subst AllBehind n.is family.behind) given.1 in
    let m = child_name a.name s.number in
    let ended : is_ended (actor_named n.behind m) ≡ true = ended_in n.behind m n.others (there_of (actor_named n.behind m) given.0 holds) in
    let whole : is_ended (actor_named w.actors m) ≡ true = ap (λ as_. is_ended (actor_named as_ m)) n.is ∙ (ap is_ended (found_in n.before n.behind a m given.0 all holds) ∙ ended) in
    let not_so : is_ended (actor_named w.actors m) ≡ false = ap (λ l. is_ended (actor_named w.actors (child_name l s.number))) own ∙ s.not_ended in
    true≢false (sym whole ∙ not_so)
  where
    one_of : {x y : ActorState} → Some x ≡ Some y → x ≡ y
    one_of e = cc

    there_of : (o : Option ActorState) (g : ℕ) → Holds o g → IsSomeAnd o (λ (c : ActorState). Unit {0})
    there_of None g h = h
    there_of (Some c) g h = tt

-- ---- those that live are each under those before it

under_grows : (m n : List ℕ) (k : ℕ) → is_under m n ≡ true → is_under m (child_name n k) ≡ true
under_grows [] n k e = refl
under_grows (x ∷ xs) [] k e = absurd cc
under_grows (x ∷ xs) (y ∷ ys) k e = by_first (x == y) e (under_grows xs ys k)
  where
    by_first : (t : Bool) → (t && is_under xs ys) ≡ true → (is_under xs ys ≡ true → is_under xs (child_name ys k) ≡ true) → (t && is_under xs (child_name ys k)) ≡ true
    by_first true h others = others h
    by_first false h others = h

under_last : (n : List ℕ) (ms : List (List ℕ)) (x : List ℕ) → AreUnder n (ms ++ x ∷ []) → is_under n x ≡ true
under_last n [] x h = h.0
under_last n (m ∷ ms) x h = under_last n ms x h.1

under_pop : (n : List ℕ) (ms : List (List ℕ)) (x : List ℕ) → AreUnder n (ms ++ x ∷ []) → AreUnder n ms
under_pop n [] x h = tt
under_pop n (m ∷ ms) x h = (h.0, under_pop n ms x h.1)

under_push : (n : List ℕ) (ms : List (List ℕ)) (x : List ℕ) → AreUnder n ms → is_under n x ≡ true → AreUnder n (ms ++ x ∷ [])
under_push n [] x h under = (under, tt)
under_push n (m ∷ ms) x h under = (h.0, under_push n ms x h.1 under)

pub nested_pop : (ns : List (List ℕ)) (x : List ℕ) → AreNested (ns ++ x ∷ []) → AreNested ns
nested_pop [] x h = tt
nested_pop (n ∷ ns) x h = (under_pop n ns x h.0, nested_pop ns x h.1)

-- a child of the last of them comes behind it
pub nested_push : (ns : List (List ℕ)) (x : List ℕ) (k : ℕ) → AreNested (ns ++ x ∷ []) → AreNested ((ns ++ x ∷ []) ++ child_name x k ∷ [])
nested_push [] x k h = ((under_grows x x k (under_itself x), tt), (tt, tt))
nested_push (n ∷ ns) x k h = (under_push n (ns ++ x ∷ []) (child_name x k) h.0 (under_grows n x k (under_last n ns x h.0)), nested_push ns x k h.1)

-- so the newest is under whoever lives
under_in : (before behind : List ActorState) (a r : ActorState) (m : List ℕ) → AreNested (live_names (before ++ a ∷ behind)) → has_ended a.phase ≡ false → live_names behind ≡ [] → actor_named (before ++ a ∷ behind) m ≡ Some r
    → has_ended r.phase ≡ false → is_under m a.name ≡ true
under_in [] behind a r m nested lives others found live = by_name (same a.name m) refl found
  where
    by_name : (t : Bool) → same a.name m ≡ t → (if t then Some a else actor_named behind m) ≡ Some r → is_under m a.name ≡ true
    by_name true e is = ap (is_under m) (same_equal a.name m e) ∙ under_itself m
    by_name false e is =
        let ended : is_ended (actor_named behind m) ≡ true = ended_in behind m others (subst (λ o. IsSomeAnd o (λ (c : ActorState). Unit {0})) (sym is) tt) in
        absurd (true≢false (sym ended ∙ (ap is_ended is ∙ live)))
under_in (y ∷ ys) behind a r m nested lives others found live = by_name (same y.name m) refl found (λ below there. under_in ys behind a r m below lives others there live)
  where
    by_end : (t : Bool) → has_ended y.phase ≡ t → AreNested (live_names (ys ++ a ∷ behind))
    by_end true e = subst AreNested (one_ended y (ys ++ a ∷ behind) e) nested
    by_end false e = (subst AreNested (one_lives y (ys ++ a ∷ behind) e) nested).1

    by_name : (t : Bool) → same y.name m ≡ t → (if t then Some y else actor_named (ys ++ a ∷ behind) m) ≡ Some r → (AreNested (live_names (ys ++ a ∷ behind)) → actor_named (ys ++ a ∷ behind) m ≡ Some r → is_under m a.name ≡ true) → is_under m a.name ≡ true
    by_name true e is later =
        let one : y ≡ r = cc in
        let alive : has_ended y.phase ≡ false = ap (λ (z : ActorState). has_ended z.phase) one ∙ live in
        let all = (subst AreNested (one_lives y (ys ++ a ∷ behind) alive) nested).0 in
        ap (λ n. is_under n a.name) (sym (same_equal y.name m e)) ∙ under_last y.name (live_names ys) a.name (subst (AreUnder y.name) (live_where ys behind a lives others) all)
    by_name false e is later = later (by_end (has_ended y.phase) refl) is

-- ---- it finds no gate busy

-- who wants to enter a recycled gate holds it
record EntersHeld (b : ActorState) (id : GateId) : Type 0 where
  gate : Gate
  held : gate_for b (a0 b) ≡ Some gate
  is : gate.id ≡ id

entering_held : (b : ActorState) (x : Entrance) (k : GateKind) (name run : List ℕ) (id : GateId) (m : PrivateMemory) → IsEnterable b x → entering_want k x.gate name ≡ want.Gate id (gate_ask.Enter run m) → EntersHeld b id
entering_held b x gate_kind.Fresh name run id m may is = absurd cc
entering_held b x gate_kind.Recycled name run id m may is = let one : x.gate.id ≡ id = cc in record { gate = x.gate; held = may.held; is = one }

last_enters : (o : Option Gate) (p : PrivateMemory) (x : End) (run : List ℕ) (id : GateId) (m : PrivateMemory) → last_want o p x ≡ want.Gate id (gate_ask.Enter run m) → ⊥
last_enters None p x run id m is = cc
last_enters (Some g) p x run id m is = by_kind g.kind is
  where
    by_kind : (k : GateKind) → leaving_want k g.id p x ≡ want.Gate id (gate_ask.Enter run m) → ⊥
    by_kind gate_kind.Fresh h = cc
    by_kind gate_kind.Recycled h = cc

ending_enters : (o : Option Gate) (p : PrivateMemory) (cs : Children) (x : End) (run : List ℕ) (id : GateId) (m : PrivateMemory) → ending_want o p cs x ≡ want.Gate id (gate_ask.Enter run m) → ⊥
ending_enters o p [] x run id m is = last_enters o p x run id m is
ending_enters o p (c ∷ cs) x run id m is = cc

starting_enters : (b : ActorState) (gs : List CopyGrant) (run : List ℕ) (id : GateId) (m : PrivateMemory) → Some (starting_want b gs) ≡ Some (want.Gate id (gate_ask.Enter run m)) → ⊥
starting_enters b [] run id m is = cc
starting_enters b (g ∷ gs) run id m is = cc

making_enters : (gs : List CopyGrant) (run : List ℕ) (id : GateId) (m : PrivateMemory) → making_want gs ≡ Some (want.Gate id (gate_ask.Enter run m)) → ⊥
making_enters [] run id m is = cc
making_enters (g ∷ gs) run id m is = cc

opening_enters : (o : FileOpening) (n : Option ℕ) (run : List ℕ) (id : GateId) (m : PrivateMemory) → Some (opening_want o n) ≡ Some (want.Gate id (gate_ask.Enter run m)) → ⊥
opening_enters o None run id m is = cc
opening_enters o (Some fd) run id m is = cc

enters_held : (i : Image) (b : ActorState) (p : Phase) (run : List ℕ) (id : GateId) (m : PrivateMemory) → ReadsAs i b p → wanted_at b p ≡ Some (want.Gate id (gate_ask.Enter run m)) → EntersHeld b id
enters_held i b phase.Running run id m reads wants = absurd cc
enters_held i b (phase.Within q) run id m reads wants = let is : q ≡ want.Gate id (gate_ask.Enter run m) = cc in absurd (subst (λ x. IsWanted (LoadsAt i b.hart reads.0 reads.1) b x) is reads.3)
enters_held i b (phase.Starting pre) run id m reads wants = absurd (starting_enters b pre.left run id m wants)
enters_held i b (phase.MakingGate pre) run id m reads wants = absurd (making_enters pre.left run id m wants)
enters_held i b (phase.Opening slot tag) run id m reads wants = absurd cc
enters_held i b (phase.Releasing slot) run id m reads wants = absurd cc
enters_held i b (phase.Entering x) run id m reads wants = entering_held b x x.gate.kind (child_name b.name (next_start b)) run id m reads cc
enters_held i b (phase.Waiting number) run id m reads wants = absurd cc
enters_held i b (phase.OpeningFile o) run id m reads wants = absurd (opening_enters o o.number run id m wants)
enters_held i b (phase.Ending x) run id m reads wants = absurd (ending_enters b.run_of b.memory b.unjoined x run id m cc)
enters_held i b (phase.Ended x) run id m reads wants = absurd cc

-- so the newest actor, which is under every run that lives, is to enter none of their gates
pub newest_busy_not : (i : Image) (turns : List Turn) (w : WorldState) (a : ActorState) (name : List ℕ) → Runs (initial_state i) turns w → IsNewest w.actors a → a.name ≡ name → AreNested (live_names w.actors) → IsBusy w name → ⊥
newest_busy_not i turns w a name run n own nested s =
    let x = (runs_alone i turns w run).lived s.gate s.entered in
    let b = at_rest w s.actor in
    let under : is_under x.name name ≡ true =
    ap (is_under x.name) (sym own) ∙ under_in n.before n.behind a x.actor x.name (subst (λ as_. AreNested (live_names as_)) n.is nested) n.lives n.others (ap (λ as_. actor_named as_ x.name) (sym n.is) ∙ x.there) x.inside.live in
    let h = enters_held w.image b b.phase s.run s.gate s.first (named_ready w name s.actor (run_ready i turns w run) s.named) s.wants in
    none_at_rest i turns w run x.name name x.actor s.actor x.inside.gate h.gate (a0 b) x.there x.inside.own s.named under h.held (h.is ∙ sym x.inside.named)

-- ---- the stack of those that live

pub opening_serial : (i : Image) (p : Progress) (live : List LiveActor) → p ≡ initial_progress i → live ≡ record { name = root_name; index = 0 } ∷ [] → IsSerial i p live
unfolding root
opening_serial i p live is one = subst (λ q. IsSerial i q live) (sym is) (subst (λ ls. IsSerial i (initial_progress i) ls) (sym one) (record {
  going = refl;
  run = refl;
  order = tt;
  goes_on = tt;
  stack = refl;
  indexed = (refl, tt);
  root_first = record { root_ = root i; others = []; first = refl; named = refl; last = λ e. refl };
  nested = (tt, tt);
}))
