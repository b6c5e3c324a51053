-- In every run no actor at or under a run of a gate holds that gate: what it holds is older than the gate, or was made at or under the run.
use Rattle.std.proofs.Common.{◌≡◌, ◌⊎◌, inl, inr, ℕ, zero, suc, ◌+◌, ◌≤◌, Bool, true, false, true≢false, List, [], ◌∷◌, ◌++◌, refl, sym, ap, subst, ◌∙◌, arith}
use Rattle.std.proofs.lemmas.Bool.{eqb-true, eq-eqb}
use Rattle.std.specs.Prelude.{Option, Some, None, is_some, length, ◌==◌, ◌&&◌, if◌then◌else◌}
use Rattle.std.specs.Option.{option_or}
use Rattle.wedge_base.specs.Identities.{same_gate}
use Rattle.wedge_base.specs.Images.{Image}
use Rattle.wedge_base.specs.Maps.{at, with}
use Rattle.wedge_base.specs.Names.{same, root_name}
use Rattle.wedge_base.specs.Sheets.{Sheet, gate_at, lent_to}
use Rattle.wedge_base.specs.declared.grants.GateId.{GateId}
use Rattle.wedge_events.specs.declared.events.Event.{Event}
use Rattle.wedge_events.specs.declared.events.Event.TheVariants as event
use Rattle.wedge_events.specs.declared.events.Turn.{Turn}
use Rattle.callgate.specs.Gate.{gate_named}
use Rattle.callgate.specs.declared.gate.Gate.{Gate}
use Rattle.machine.specs.Actors.{ActorState, root}
use Rattle.machine.specs.Calls.{a0}
use Rattle.machine.specs.Children.{child_name}
use Rattle.run_laws.specs.FamilyTrees.{Family, IsOfTree}
use Rattle.run_laws.specs.GatesWithin.{is_under, before, IsOlder, MayBeHeld}
use Rattle.run_laws.specs.KnownGates.{AreAmong, AreInOrder}
use Rattle.run_laws.specs.Laws.{NoneRunsWithin, GatesHeldAreOlder}
use Rattle.machine.specs.Entering.{sheet_lent}
use Rattle.run_laws.specs.Holding.{gate_for}
use Rattle.machine.specs.Local.{is_running, step, run_local, rest}
use Rattle.machine.specs.Take.{next_start, takes, actor_begun, child_of, run_by}
use Rattle.machine.specs.Worlds.{WorldState, initial_state, actor_named, put_actor, with_begun, turn_of, ready, resumed, at_rest, Runs, with_actor}
use Rattle.run_laws.proofs.Between.{takes_name}
use Rattle.run_laws.proofs.Bounding.{with_same, with_other}
use Rattle.run_laws.proofs.Families.{takes_sheet, child_begins}
use Rattle.run_laws.proofs.FamilyKept.{has_name, next_is_new}
use Rattle.run_laws.proofs.FamilyRuns.{Acts, ActsAlone, Starts, Enters, Joins, acts, one_begins, kept_at_rest, resumed_family, turn_family, opening_family}
use Rattle.run_laws.proofs.GateMoments.{event_makes_gates}
use Rattle.run_laws.proofs.GateRuns.{held_is}
use Rattle.run_laws.proofs.KnownGates.{named_still, named_or_last, order_known, Grows, Keeps, Adds, step_grows, by_phase, AreHeld, rest_held, resumed_held, turn_held, opening_held}
use Rattle.run_laws.proofs.Named.{found_name, put_put}
use Rattle.run_laws.proofs.RecycledRuns.{named_id, entered_known, takes_run_of}
use Rattle.machine.proofs.Resting.{steps_step, stays, goes_on, rest-name}
use Rattle.run_laws.proofs.Settling.{AllReady, turn_happens, turn_ready, opening_ready, turned_there}
use Rattle.run_laws.proofs.Trees.{IsPut, IsDoer, IsOther, find_put, found_put, found_or_last}
use Rattle.run_laws.proofs.Turns.{ready_is, ready_name, ready_sheet, turn_from}

-- ---- names

pub under_itself : (n : List ℕ) → is_under n n ≡ true
under_itself [] = refl
under_itself (x ∷ xs) = ap (λ t. t && is_under xs xs) (eq-eqb x x refl) ∙ under_itself xs

both_of : (t u : Bool) → (t && u) ≡ true → (t ≡ true) × (u ≡ true)
both_of true u e = (refl, e)
both_of false u e = absurd cc

-- whoever is at or under a name is the one of the name, or its starter is at or under it
under_child : (m n : List ℕ) (k : ℕ) → is_under m (child_name n k) ≡ true → (m ≡ child_name n k) ⊎ (is_under m n ≡ true)
under_child [] n k e = inr refl
under_child (x ∷ []) [] k e = let h = both_of (x == k) true e in inl (ap (λ y. y ∷ []) (eqb-true x k h.0))
under_child (x ∷ y ∷ ys) [] k e = let h = both_of (x == k) false e in absurd (true≢false (sym h.1))
under_child (x ∷ xs) (z ∷ zs) k e =
    let h = both_of (x == z) (is_under xs (child_name zs k)) e in
    elim (under_child xs zs k h.1) [
      | inl is ↦ inl (ap (λ y. y ∷ xs) (eqb-true x z h.0) ∙ ap (λ ys. z ∷ ys) is)
      | inr u ↦ inr (ap (λ t. t && is_under xs zs) h.0 ∙ u)
    ]

child_not_empty : (n : List ℕ) (k : ℕ) → is_under (child_name n k) [] ≡ false
child_not_empty [] k = refl
child_not_empty (x ∷ xs) k = refl

child_not_above : (x : ℕ) (xs : List ℕ) (k : ℕ) → is_under (child_name (x ∷ xs) k) root_name ≡ false
child_not_above x xs k = by_first (x == 0) (child_not_empty xs k)
  where
    by_first : (t : Bool) → is_under (child_name xs k) [] ≡ false → (t && is_under (child_name xs k) []) ≡ false
    by_first true e = e
    by_first false e = refl

longer_by_one : (n : List ℕ) (k : ℕ) → length (child_name n k) ≡ suc (length n)
longer_by_one [] k = refl
longer_by_one (x ∷ xs) k = ap suc (longer_by_one xs k)

-- nobody is at or under the name of a start to come
none_under : (actors : List ActorState) → Family actors → (a : ActorState) → actor_named actors a.name ≡ Some a → (bound : ℕ) (n : List ℕ) (y : ActorState) → length n ≤ bound → actor_named actors n ≡ Some y
    → is_under (child_name a.name (a.starts + 1)) n ≡ true → ⊥
none_under actors f a there zero [] y few found under = true≢false (sym under ∙ child_not_empty a.name (a.starts + 1))
none_under actors f a there zero (x ∷ xs) y few found under = absurd (omega (arith, few))
none_under actors f a there (suc bound) n y few found under = by_tree (f.tree n y found) (λ m z less found_ u. none_under actors f a there bound m z less found_ u)
  where
    by_tree : IsOfTree actors n → ((m : List ℕ) (z : ActorState) → length m ≤ bound → actor_named actors m ≡ Some z → is_under (child_name a.name (a.starts + 1)) m ≡ true → ⊥) → ⊥
    by_tree (inl is) others =
        let own = has_name actors f a there in
        true≢false (sym (ap (is_under (child_name a.name (a.starts + 1))) (sym is) ∙ under) ∙ (ap (λ m. is_under (child_name m (a.starts + 1)) root_name) own.2 ∙ child_not_above own.0 own.1 (a.starts + 1)))
    by_tree (inr c) others =
        let long : length n ≡ suc (length c.starter) = ap length c.named ∙ longer_by_one c.starter c.number in
        elim (under_child (child_name a.name (a.starts + 1)) c.starter c.number (ap (is_under (child_name a.name (a.starts + 1))) (sym c.named) ∙ under)) [
          | inl is ↦ let none : None ≡ Some y = sym (next_is_new actors f a there) ∙ (ap (actor_named actors) (is ∙ sym c.named) ∙ found) in absurd cc
          | inr u ↦ others c.starter c.actor (omega (arith, few, long)) c.there u
        ]

-- ---- the gates of a list before one of them

-- that one is not among them
before_lacks : (id : GateId) (gs : List Gate) → gate_named (before id gs) id ≡ None
unfolding before
before_lacks id [] = refl
before_lacks id (x ∷ xs) = by_id (same_gate x.id id) refl (before_lacks id xs)
  where
    by_id : (t : Bool) → same_gate x.id id ≡ t → gate_named (before id xs) id ≡ None → gate_named (if t then [] else x ∷ before id xs) id ≡ None
    by_id true is others = refl
    by_id false is others = ap (λ t. if t then Some x else gate_named (before id xs) id) is ∙ others

-- they stay so where others come behind
before_more : (gs ys : List Gate) (id : GateId) (g : Gate) → gate_named gs id ≡ Some g → before id (gs ++ ys) ≡ before id gs
unfolding before
before_more [] ys id g e = absurd cc
before_more (x ∷ xs) ys id g e = by_id (same_gate x.id id) e (before_more xs ys id g)
  where
    by_id : (t : Bool) → (if t then Some x else gate_named xs id) ≡ Some g → (gate_named xs id ≡ Some g → before id (xs ++ ys) ≡ before id xs) → (if t then [] else x ∷ before id (xs ++ ys)) ≡ (if t then [] else x ∷ before id xs)
    by_id true k others = refl
    by_id false k others = ap (λ zs. x ∷ zs) (others k)

-- one of them is the one that the list has
before_same : (gs : List Gate) (id x : GateId) (h : Gate) → gate_named (before id gs) x ≡ Some h → gate_named gs x ≡ Some h
unfolding before
before_same [] id x h e = absurd cc
before_same (y ∷ ys) id x h e = by_id (same_gate y.id id) e (before_same ys id x h)
  where
    by_name : (t : Bool) → (if t then Some y else gate_named (before id ys) x) ≡ Some h → (gate_named (before id ys) x ≡ Some h → gate_named ys x ≡ Some h) → (if t then Some y else gate_named ys x) ≡ Some h
    by_name true k others = k
    by_name false k others = others k

    by_id : (t : Bool) → gate_named (if t then [] else y ∷ before id ys) x ≡ Some h → (gate_named (before id ys) x ≡ Some h → gate_named ys x ≡ Some h) → gate_named (y ∷ ys) x ≡ Some h
    by_id true k others = absurd cc
    by_id false k others = by_name (same_gate y.id x) k others

-- and they are in the order in which they were made
before_ordered : (old gs : List Gate) (id : GateId) → AreInOrder old gs → AreInOrder old (before id gs)
unfolding before
before_ordered old [] id order = tt
before_ordered old (x ∷ xs) id order = by_id (same_gate x.id id) (before_ordered (old ++ x ∷ []) xs id order.1)
  where
    by_id : (t : Bool) → AreInOrder (old ++ x ∷ []) (before id xs) → AreInOrder old (if t then [] else x ∷ before id xs)
    by_id true others = tt
    by_id false others = (order.0, others)

one_by_one : (xs : List Gate) (y : Gate) (ys : List Gate) → (xs ++ y ∷ []) ++ ys ≡ xs ++ y ∷ ys
one_by_one [] y ys = refl
one_by_one (x ∷ xs) y ys = ap (λ zs. x ∷ zs) (one_by_one xs y ys)

without_more : (xs : List Gate) → xs ++ [] ≡ xs
without_more [] = refl
without_more (x ∷ xs) = ap (λ ys. x ∷ ys) (without_more xs)

-- a gate's sheet names none but these
older_alone : (old gs : List Gate) (id : GateId) (g : Gate) → AreInOrder old gs → gate_named gs id ≡ Some g → AreAmong (old ++ before id gs) g.sheet.gates
unfolding before
older_alone old [] id g order e = absurd cc
older_alone old (x ∷ xs) id g order e = by_id (same_gate x.id id) e (older_alone (old ++ x ∷ []) xs id g order.1)
  where
    by_id : (t : Bool) → (if t then Some x else gate_named xs id) ≡ Some g → (gate_named xs id ≡ Some g → AreAmong ((old ++ x ∷ []) ++ before id xs) g.sheet.gates) → AreAmong (old ++ (if t then [] else x ∷ before id xs)) g.sheet.gates
    by_id true k others =
        let is : x ≡ g = cc in
        subst (λ (y : Gate). AreAmong (old ++ []) y.sheet.gates) is (subst (λ ys. AreAmong ys x.sheet.gates) (sym (without_more old)) order.0.older)
    by_id false k others = subst (λ ys. AreAmong ys g.sheet.gates) (one_by_one old x (before id xs)) (others k)

-- ---- what may be held at or under the run of a gate: a gate made before it, or one made at or under the run

record IsClean (m : List ℕ) (g : Gate) (a : ActorState) : Type 0 where
  known : gate_named a.gates g.id ≡ Some g
  given : (entry : ℕ) (id : GateId) → at a.sheet.gates entry ≡ Some id → MayBeHeld m g a.gates id
  made : (entry : ℕ) (id : GateId) → at a.made.gates entry ≡ Some id → MayBeHeld m g a.gates id
  later : (id : GateId) (h : Gate) → gate_named a.gates id ≡ Some h → is_under m id.maker ≡ true → (entry : ℕ) (x : GateId) → at h.sheet.gates entry ≡ Some x → MayBeHeld m g a.gates x

record AreClean (actors : List ActorState) : Type 0 where
  each : (m n : List ℕ) (r a : ActorState) (g : Gate) → actor_named actors m ≡ Some r → r.run_of ≡ Some g → actor_named actors n ≡ Some a → is_under m n ≡ true → IsClean m g a
  outside : (m : List ℕ) (r : ActorState) (g : Gate) → actor_named actors m ≡ Some r → r.run_of ≡ Some g → is_under m g.id.maker ≡ false

-- whatever such an actor holds
clean_held : (m : List ℕ) (g : Gate) (a : ActorState) → IsClean m g a → (entry : ℕ) (id : GateId) → gate_at a.sheet a.made entry ≡ Some id → MayBeHeld m g a.gates id
clean_held m g a c entry id e = by_made (at a.made.gates entry) refl e
  where
    by_made : (o : Option GateId) → at a.made.gates entry ≡ o → option_or o (at a.sheet.gates entry) ≡ Some id → MayBeHeld m g a.gates id
    by_made None is k = c.given entry id k
    by_made (Some x) is k = c.made entry id (is ∙ k)

-- ---- an actor goes on

held_still : (m : List ℕ) (g h : Gate) (gates : List Gate) (id : GateId) → gate_named gates g.id ≡ Some g → MayBeHeld m g gates id → MayBeHeld m g (gates ++ h ∷ []) id
held_still m g h gates id known (inl older) = inl (ap (λ gs. is_some (gate_named gs id)) (before_more gates (h ∷ []) g.id g known) ∙ older)
held_still m g h gates id known (inr under) = inr under

clean_after : (m : List ℕ) (g : Gate) (a b : ActorState) → b.sheet ≡ a.sheet → is_under m a.name ≡ true → IsClean m g a → Grows a b → IsClean m g b
clean_after m g a b sheet under c (Keeps known held count) = record {
  known = ap (λ gs. gate_named gs g.id) known ∙ c.known;
  given = λ entry id e. subst (λ gs. MayBeHeld m g gs id) (sym known) (c.given entry id (ap (λ (s : Sheet). at s.gates entry) (sym sheet) ∙ e));
  made = λ entry id e. subst (λ gs. MayBeHeld m g gs id) (sym known) (c.made entry id (ap (λ gs. at gs entry) (sym held) ∙ e));
  later = λ id h e u entry x k. subst (λ gs. MayBeHeld m g gs x) (sym known) (c.later id h (ap (λ gs. gate_named gs id) (sym known) ∙ e) u entry x k);
}
clean_after m g a b sheet under c (Adds h is within known held count) = record {
  known = ap (λ gs. gate_named gs g.id) known ∙ named_still a.gates h g.id g c.known;
  given = λ entry id e. still id (c.given entry id (ap (λ (s : Sheet). at s.gates entry) (sym sheet) ∙ e));
  made = λ entry id e. by_entry entry id (ap (λ gs. at gs entry) (sym held) ∙ e) (entry == h.entry) refl;
  later = λ id k e u entry x f. elim (named_or_last a.gates h id k (ap (λ gs. gate_named gs id) (sym known) ∙ e)) [
    | inl old ↦ still x (c.later id k old u entry x f)
    | inr last ↦ still x (clean_held m g a c entry x (within.gates entry x (ap (λ (y : Gate). at y.sheet.gates entry) (sym last.0) ∙ f)))
  ];
}
  where
    still : (id : GateId) → MayBeHeld m g a.gates id → MayBeHeld m g b.gates id
    still id h_ = subst (λ gs. MayBeHeld m g gs id) (sym known) (held_still m g h a.gates id c.known h_)

    by_entry : (entry : ℕ) (id : GateId) → at (with a.made.gates h.entry h.id) entry ≡ Some id → (t : Bool) → (entry == h.entry) ≡ t → MayBeHeld m g b.gates id
    by_entry entry id e true same_one =
        let two : Some h.id ≡ Some id = sym (with_same a.made.gates h.entry h.id) ∙ (ap (at (with a.made.gates h.entry h.id)) (sym (eqb-true entry h.entry same_one)) ∙ e) in
        let one : h.id ≡ id = cc in
        inr (ap (λ (y : GateId). is_under m y.maker) (sym one ∙ is) ∙ under)
    by_entry entry id e false apart_so =
        let apart : entry ≡ h.entry → ⊥ = λ k. let f : true ≡ false = sym (eq-eqb entry h.entry k) ∙ apart_so in absurd cc in
        still id (c.made entry id (sym (with_other a.made.gates h.entry h.id entry apart) ∙ e))

clean_put : (actors : List ActorState) (a b : ActorState) → IsPut actors a b → b.sheet ≡ a.sheet → b.run_of ≡ a.run_of → Grows a b → AreClean actors → AreClean (put_actor actors b)
clean_put actors a b put sheet run_of grows h = record {
  each = λ m n r y g p own q under.
      let old = run_was m r g p own in
      elim (find_put actors a b n y put q) [
        | IsDoer is one ↦ subst (IsClean m g) (sym one) (clean_after m g a b sheet (ap (is_under m) (sym is) ∙ under) (h.each m n old.0 a g old.1 old.2 (ap (actor_named actors) is ∙ put.there) under) grows)
        | IsOther apart there ↦ h.each m n old.0 y g old.1 old.2 there under
      ];
  outside = λ m r g p own. let old = run_was m r g p own in h.outside m old.0 g old.1 old.2;
}
  where
    run_was : (m : List ℕ) (r : ActorState) (g : Gate) → actor_named (put_actor actors b) m ≡ Some r → r.run_of ≡ Some g → (s : ActorState) × (actor_named actors m ≡ Some s) × (s.run_of ≡ Some g)
    run_was m r g p own = elim (find_put actors a b m r put p) [
      | IsDoer is one ↦ (a, ap (actor_named actors) is ∙ put.there, sym run_of ∙ (ap (λ (z : ActorState). z.run_of) (sym one) ∙ own))
      | IsOther apart there ↦ (r, there, own)
    ]

run_name : (i : Image) (n : ℕ) (a : ActorState) (t : Bool) → is_running a.phase ≡ t → (run_local i n a).name ≡ a.name
run_name i n a false e = ap (λ (x : ActorState). x.name) (stays i n a e)
run_name i zero a true e = unfold run_local in refl
run_name i (suc n) a true e = ap (λ (x : ActorState). x.name) (goes_on i n a e) ∙ (run_name i n (step i a) _ refl ∙ (steps_step i a).name)

run_clean : (w : WorldState) (n : ℕ) (actors : List ActorState) (a : ActorState) (t : Bool) → is_running a.phase ≡ t → actor_named actors a.name ≡ Some a → AreClean actors → AreClean (put_actor actors (run_local w.image n a))
run_clean w n actors a false e there h =
    subst (λ x. AreClean (put_actor actors x)) (sym (stays w.image n a e)) (clean_put actors a a (record { name = refl; there = there }) refl refl (Keeps refl refl refl) h)
run_clean w zero actors a true e there h = unfold run_local in clean_put actors a a (record { name = refl; there = there }) refl refl (Keeps refl refl refl) h
run_clean w (suc n) actors a true e there h =
    let b = step w.image a in
    let s = steps_step w.image a in
    let put : IsPut actors a b = record { name = s.name; there = there } in
    let first = clean_put actors a b put s.sheet s.run_of (step_grows w a e) h in
    let found : actor_named (put_actor actors b) b.name ≡ Some b = ap (actor_named (put_actor actors b)) s.name ∙ found_put actors a b put in
    let later = run_clean w n (put_actor actors b) b _ refl found first in
    subst (λ x. AreClean (put_actor actors x)) (sym (goes_on w.image n a e))
    (subst AreClean (put_put actors b (run_local w.image n b) (run_name w.image n b _ refl)) later)

rest_clean : (w : WorldState) (a : ActorState) → actor_named w.actors a.name ≡ Some a → AreClean w.actors → AreClean (put_actor w.actors (rest w.image a))
unfolding rest
rest_clean w a there h = run_clean w (a.fuel + 1) w.actors a _ refl there h

resumed_clean : (w : WorldState) (a : ActorState) → actor_named w.actors a.name ≡ Some a → AreClean w.actors → AreClean (resumed w a).actors
resumed_clean w a there h =
    let grows = ready_is (Grows a) w.actors a (Keeps refl refl refl) (λ k e fuel. Keeps refl refl refl) in
    let run_of = ready_is (λ x. x.run_of ≡ a.run_of) w.actors a refl (λ k e fuel. refl) in
    clean_put w.actors a (ready w.actors a) (record { name = ready_name w.actors a; there = there }) (ready_sheet w.actors a) run_of grows h

-- ---- an actor begins

-- one that knows what its starter knows, and holds what may be held wherever its starter may hold what it holds
record Begins (actors : List ActorState) (b c : ActorState) : Type 0 where
  knows : c.gates ≡ b.gates
  makes : (entry : ℕ) (id : GateId) → at c.made.gates entry ≡ Some id → ⊥
  given : (m : List ℕ) (g : Gate) → IsClean m g b → (entry : ℕ) (id : GateId) → at c.sheet.gates entry ≡ Some id → MayBeHeld m g b.gates id
  named : (number : ℕ) × (c.name ≡ child_name b.name number)
  alone : (n : List ℕ) (y : ActorState) → actor_named actors n ≡ Some y → is_under c.name n ≡ true → ⊥
  there : actor_named actors b.name ≡ Some b
  -- a run of a gate holds what its gate's sheet names, and nobody else has made anything under its name
  runs : (g : Gate) → c.run_of ≡ Some g → (gate_named b.gates g.id ≡ Some g) × ((entry : ℕ) (id : GateId) → at c.sheet.gates entry ≡ Some id → IsOlder g b.gates id)
  makers : (id : GateId) (h : Gate) → gate_named b.gates id ≡ Some h → is_under c.name id.maker ≡ false

clean_begun : (m : List ℕ) (g : Gate) (actors : List ActorState) (b c : ActorState) → Begins actors b c → IsClean m g b → IsClean m g c
clean_begun m g actors b c s k = record {
  known = ap (λ gs. gate_named gs g.id) s.knows ∙ k.known;
  given = λ entry id e. subst (λ gs. MayBeHeld m g gs id) (sym s.knows) (s.given m g k entry id e);
  made = λ entry id e. absurd (s.makes entry id e);
  later = λ id h e u entry x f. subst (λ gs. MayBeHeld m g gs x) (sym s.knows) (k.later id h (ap (λ gs. gate_named gs id) (sym s.knows) ∙ e) u entry x f);
}

clean_itself : (actors : List ActorState) (b c : ActorState) (g : Gate) → Begins actors b c → c.run_of ≡ Some g → IsClean c.name g c
clean_itself actors b c g s own = record {
  known = ap (λ gs. gate_named gs g.id) s.knows ∙ (s.runs g own).0;
  given = λ entry id e. inl (ap (λ gs. is_some (gate_named (before g.id gs) id)) s.knows ∙ (s.runs g own).1 entry id e);
  made = λ entry id e. absurd (s.makes entry id e);
  later = λ id h e u entry x f. absurd (true≢false (sym u ∙ s.makers id h (ap (λ gs. gate_named gs id) (sym s.knows) ∙ e)));
}

clean_behind : (actors : List ActorState) (b c : ActorState) → Begins actors b c → AreClean actors → AreClean (actors ++ c ∷ [])
clean_behind actors b c s h = record {
  each = λ m n r y g p own q under. elim (found_or_last actors c m r p) [
    | inl run ↦ elim (found_or_last actors c n y q) [
      | inl there ↦ h.each m n r y g run own there under
      | inr is ↦ subst (IsClean m g) (sym is) (under_run m n r g run own (own_name n y q is) under)
    ]
    | inr is ↦ elim (found_or_last actors c n y q) [
      | inl there ↦ absurd (s.alone n y there (ap (λ z. is_under z n) (own_name m r p is) ∙ under))
      | inr also ↦ subst (IsClean m g) (sym also) (subst (λ z. IsClean z g c) (own_name m r p is) (clean_itself actors b c g s (ap (λ (z : ActorState). z.run_of) (sym is) ∙ own)))
    ]
  ];
  outside = λ m r g p own. elim (found_or_last actors c m r p) [
    | inl run ↦ h.outside m r g run own
    | inr is ↦ ap (λ z. is_under z g.id.maker) (sym (own_name m r p is)) ∙ s.makers g.id g (s.runs g (ap (λ (z : ActorState). z.run_of) (sym is) ∙ own)).0
  ];
}
  where
    own_name : (n : List ℕ) (y : ActorState) → actor_named (actors ++ c ∷ []) n ≡ Some y → y ≡ c → c.name ≡ n
    own_name n y q is = ap (λ (z : ActorState). z.name) (sym is) ∙ found_name (actors ++ c ∷ []) n y q

    under_run : (m n : List ℕ) (r : ActorState) (g : Gate) → actor_named actors m ≡ Some r → r.run_of ≡ Some g → c.name ≡ n → is_under m n ≡ true → IsClean m g c
    under_run m n r g run own name under =
        elim (under_child m b.name s.named.0 (ap (is_under m) (sym (sym name ∙ s.named.1)) ∙ under)) [
          | inl is ↦ absurd (s.alone m r run (ap (is_under c.name) (is ∙ sym s.named.1) ∙ under_itself c.name))
          | inr u ↦ clean_begun m g actors b c s (h.each m b.name r b g run own s.there u)
        ]

-- what is lent has no gate
lent_gates : (g : Sheet) (lent : Option Sheet) → (lent_to g lent).gates ≡ g.gates
lent_gates g None = refl
lent_gates g (Some s) = refl

-- what a gate's run holds may be held wherever the gate may
through_gate : (m : List ℕ) (g : Gate) (b : ActorState) (id : GateId) (h : Gate) → AreInOrder [] b.gates → gate_named b.gates id ≡ Some h → IsClean m g b → MayBeHeld m g b.gates id → (entry : ℕ) (x : GateId) → at h.sheet.gates entry ≡ Some x
    → MayBeHeld m g b.gates x
through_gate m g b id h order known c (inl older) entry x e = by_found (gate_named (before g.id b.gates) id) refl older
  where
    by_found : (o : Option Gate) → gate_named (before g.id b.gates) id ≡ o → is_some o ≡ true → MayBeHeld m g b.gates x
    by_found None is k = absurd cc
    by_found (Some y) is k =
        let two : Some y ≡ Some h = sym (before_same b.gates g.id id y is) ∙ known in
        let one : y ≡ h = cc in
        inl (order_known [] (before g.id b.gates) id h (before_ordered [] b.gates g.id order) (is ∙ ap (λ z. Some z) one) entry x e)
through_gate m g b id h order known c (inr under) entry x e = c.later id h known under entry x e

-- ---- turns

started_gates : (i : Image) (b : ActorState) (name : List ℕ) → (takes i b (event.Start name)).gates ≡ b.gates
unfolding takes
started_gates i b name = refl

started_made : (i : Image) (b : ActorState) (name : List ℕ) → (takes i b (event.Start name)).made ≡ b.made
unfolding takes
started_made i b name = refl

turn_clean : (w : WorldState) (name : List ℕ) (e : Event) (new : WorldState) → AllReady w → Family w.actors → AreHeld w.actors → AreClean w.actors → turn_of w name ≡ Some (record { event = e; world = new }) → AreClean new.actors
turn_clean w name e new all family held clean t =
    let p = turn_from w name e new t in
    let v = resumed w p.actor in
    let a = p.parts.actor in
    let b = rest w.image a in
    let x = takes w.image b e in
    let happens = turn_happens w name e new all p in
    let there = turned_there v name a p.parts.named in
    let goes = resumed_family w name p.actor family p.named in
    let rested : IsPut v.actors a b = record { name = rest-name w.image a; there = there } in
    let held_so = rest_held v a there (resumed_held w p.actor (turned_there w name p.actor p.named) held) in
    let clean_so = rest_clean v a there (resumed_clean w p.actor (turned_there w name p.actor p.named) clean) in
    let found : actor_named (put_actor v.actors b) b.name ≡ Some b = ap (actor_named (put_actor v.actors b)) (rest-name w.image a) ∙ found_put v.actors a b rested in
    let put : IsPut (put_actor v.actors b) b x = record { name = takes_name w.image b e; there = found } in
    let grows = by_phase (with_actor v b) b x b.phase e (event_makes_gates v b e happens) in
    let after = clean_put (put_actor v.actors b) b x put (takes_sheet w.image b e) (takes_run_of w.image b e) grows clean_so in
    let done = subst AreClean (put_put v.actors b x (takes_name w.image b e)) after in
    subst (λ (y : WorldState). AreClean y.actors) (sym p.parts.new_is) (by_begun v a there goes rested held_so (acts v b e happens) done)
  where
    -- under the next name of the actor nobody was before, nor has made a gate
    free : (v : WorldState) (a : ActorState) → actor_named v.actors a.name ≡ Some a → Family v.actors → (n : List ℕ) (y : ActorState) → actor_named v.actors n ≡ Some y
        → is_under (child_name (rest v.image a).name (next_start (rest v.image a))) n ≡ true → ⊥
    free v a there family n y found under =
        let kept = kept_at_rest v.image a _ refl in
        let next : child_name (rest v.image a).name (next_start (rest v.image a)) ≡ child_name a.name (a.starts + 1) = ap (λ m. child_name m (next_start (rest v.image a))) (rest-name v.image a) ∙ ap (λ m. child_name a.name (m + 1)) kept.starts in
        none_under v.actors family a there (length n) n y (omega arith) found (ap (λ m. is_under m n) (sym next) ∙ under)

    -- nor where the actor of the turn was put
    put_free : (v : WorldState) (a x : ActorState) → IsPut v.actors a x → Family v.actors → (n : List ℕ) (y : ActorState) → actor_named (put_actor v.actors x) n ≡ Some y
        → is_under (child_name (rest v.image a).name (next_start (rest v.image a))) n ≡ true → ⊥
    put_free v a x put family n y found under = elim (find_put v.actors a x n y put found) [
      | IsDoer is one ↦ free v a put.there family n a (ap (actor_named v.actors) is ∙ put.there) under
      | IsOther apart there ↦ free v a put.there family n y there under
    ]

    unmade : (v : WorldState) (a : ActorState) → IsPut v.actors a (rest v.image a) → Family v.actors → AreHeld (put_actor v.actors (rest v.image a)) → (id : GateId) (h : Gate) → gate_named (rest v.image a).gates id ≡ Some h
        → is_under (child_name (rest v.image a).name (next_start (rest v.image a))) id.maker ≡ false
    unmade v a put family held_so id h known = by_under (is_under (child_name (rest v.image a).name (next_start (rest v.image a))) id.maker) refl
      where
        by_under : (t : Bool) → is_under (child_name (rest v.image a).name (next_start (rest v.image a))) id.maker ≡ t → t ≡ false
        by_under false u = refl
        by_under true u =
            let b = rest v.image a in
            let found : actor_named (put_actor v.actors b) b.name ≡ Some b = ap (actor_named (put_actor v.actors b)) put.name ∙ found_put v.actors a b put in
            let of = held_so.makers b.name b id h found known in
            absurd (put_free v a b put family id.maker of.maker of.there u)

    by_begun : (v : WorldState) (a : ActorState) → actor_named v.actors a.name ≡ Some a → Family v.actors → IsPut v.actors a (rest v.image a) → AreHeld (put_actor v.actors (rest v.image a)) → Acts v (rest v.image a) e
        → AreClean (put_actor v.actors (takes v.image (rest v.image a) e)) → AreClean (with_begun (put_actor v.actors (takes v.image (rest v.image a) e)) (actor_begun v.image (rest v.image a) e))
    by_begun v a there family rested held_so (ActsAlone one) done =
        subst (λ o. AreClean (with_begun (put_actor v.actors (takes v.image (rest v.image a) e)) o)) (sym (one_begins v.image (rest v.image a) e one)) done
    by_begun v a there family rested held_so (Joins k listed j) done =
        subst (λ o. AreClean (with_begun (put_actor v.actors (takes v.image (rest v.image a) e)) o)) (sym (ap (actor_begun v.image (rest v.image a)) j.is)) done
    by_begun v a there family rested held_so (Starts s) done =
        let b = rest v.image a in
        let x = takes v.image b e in
        let c = child_of v.image b (child_name b.name (next_start b)) in
        let child = child_begins v.image b s.preparation s.at s.complete s.ready in
        let put : IsPut v.actors a x = record { name = takes_name v.image b e ∙ rested.name; there = there } in
        let same_gates : x.gates ≡ b.gates = ap (λ y. (takes v.image b y).gates) s.is ∙ started_gates v.image b (child_name b.name (next_start b)) in
        let same_made : x.made ≡ b.made = ap (λ y. (takes v.image b y).made) s.is ∙ started_made v.image b (child_name b.name (next_start b)) in
        subst (λ o. AreClean (with_begun (put_actor v.actors x) o)) (sym (ap (actor_begun v.image b) s.is))
        (clean_behind (put_actor v.actors x) x c
        (record {
          knows = sym same_gates;
          makes = λ entry id k. absurd cc;
          given = λ m g k entry id f.
              clean_held m g x k entry id (ap (λ (z : Sheet). gate_at z x.made entry) (takes_sheet v.image b e) ∙ (ap (λ made. gate_at b.sheet made entry) same_made ∙ child.within.gates entry id f));
          named = (next_start b, ap (λ n. child_name n (next_start b)) (sym (takes_name v.image b e)));
          alone = put_free v a x put family;
          there = ap (actor_named (put_actor v.actors x)) put.name ∙ found_put v.actors a x put;
          runs = λ g own. absurd cc;
          makers = λ id h known. unmade v a rested family held_so id h (ap (λ gs. gate_named gs id) (sym same_gates) ∙ known);
        })
        done)
    by_begun v a there family rested held_so (Enters y) done =
        let b = rest v.image a in
        let x = takes v.image b e in
        let c = run_by b (child_name b.name (next_start b)) y.kept y.entrance in
        let found : actor_named (put_actor v.actors b) b.name ≡ Some b = ap (actor_named (put_actor v.actors b)) rested.name ∙ found_put v.actors a b rested in
        let knows = held_so.each b.name b found in
        let sheet_gates : c.sheet.gates ≡ y.entrance.gate.sheet.gates = ap (λ (s : Sheet). s.gates) y.may.sheet ∙ lent_gates y.entrance.gate.sheet (sheet_lent b y.may.lent) in
        let h = held_is b (a0 b) y.entrance.gate y.may.held in
        let known = entered_known v b e y in
        let put : IsPut v.actors a x = record { name = takes_name v.image b e ∙ rested.name; there = there } in
        let same_gates : x.gates ≡ b.gates = ap (λ (z : ActorState). z.gates) y.takes_so in
        let same_made : x.made ≡ b.made = ap (λ (z : ActorState). z.made) y.takes_so in
        let same_id : y.entrance.gate.id ≡ h.id = named_id b.gates h.id y.entrance.gate h.known in
        subst (λ o. AreClean (with_begun (put_actor v.actors x) o)) (sym y.begins)
        (clean_behind (put_actor v.actors x) x c
        (record {
          knows = sym same_gates;
          makes = λ entry id k. absurd cc;
          given = λ m g k entry id f.
              let there_so : gate_at x.sheet x.made (a0 b) ≡ Some h.id = ap (λ (s : Sheet). gate_at s x.made (a0 b)) (takes_sheet v.image b e) ∙ (ap (λ made. gate_at b.sheet made (a0 b)) same_made ∙ h.there) in
              through_gate m g x h.id y.entrance.gate (subst (AreInOrder []) (sym same_gates) knows.order) (ap (λ gs. gate_named gs h.id) same_gates ∙ h.known) k (clean_held m g x k (a0 b) h.id there_so) entry id
              (ap (λ gs. at gs entry) (sym sheet_gates) ∙ f);
          named = (next_start b, ap (λ n. child_name n (next_start b)) (sym (takes_name v.image b e)));
          alone = put_free v a x put family;
          there = ap (actor_named (put_actor v.actors x)) put.name ∙ found_put v.actors a x put;
          runs = λ g own.
              let one : y.entrance.gate ≡ g = cc in
              subst (λ z. (gate_named x.gates z.id ≡ Some z) × ((entry : ℕ) (id : GateId) → at c.sheet.gates entry ≡ Some id → IsOlder z x.gates id)) one (
                ap (λ gs. gate_named gs y.entrance.gate.id) same_gates ∙ known,
                λ entry id f. ap (λ gs. is_some (gate_named (before y.entrance.gate.id gs) id)) same_gates ∙ older_alone [] b.gates y.entrance.gate.id y.entrance.gate knows.order known entry id (ap (λ gs. at gs entry) (sym sheet_gates) ∙ f),
              );
          makers = λ id k known_so. unmade v a rested family held_so id k (ap (λ gs. gate_named gs id) (sym same_gates) ∙ known_so);
        })
        done)

-- ---- runs

opening_clean : (i : Image) → AreClean (initial_state i).actors
unfolding root
opening_clean i = record {
  each = λ m n r a g p own q under. let none : None ≡ Some g = of_root m r p ∙ own in absurd cc;
  outside = λ m r g p own. let none : None ≡ Some g = of_root m r p ∙ own in absurd cc;
}
  where
    by_name : (a : ActorState) (t : Bool) → (if t then Some (root i) else None) ≡ Some a → None ≡ a.run_of
    by_name a true e = let one : root i ≡ a = cc in ap (λ (x : ActorState). x.run_of) one
    by_name a false e = absurd cc

    of_root : (m : List ℕ) (a : ActorState) → actor_named (initial_state i).actors m ≡ Some a → None ≡ a.run_of
    of_root m a found = by_name a (same (root i).name m) found

runs_clean : (old : WorldState) (turns : List Turn) (new : WorldState) → AllReady old → Family old.actors → AreHeld old.actors → AreClean old.actors → Runs old turns new → AreClean new.actors
runs_clean old [] new all family held clean run = subst (λ (w : WorldState). AreClean w.actors) (sym run) clean
runs_clean old (t ∷ ts) new all family held clean run =
    runs_clean run.0 ts new (turn_ready old t.actor t.event run.0 all run.1) (turn_family old t.actor t.event run.0 all family run.1) (turn_held old t.actor t.event run.0 all held run.1)
    (turn_clean old t.actor t.event run.0 all family held clean run.1) run.2

-- whoever is clean of a run does not hold its gate
unheld : (m : List ℕ) (g : Gate) (a : ActorState) → IsClean m g a → is_under m g.id.maker ≡ false → (h : Gate) (entry : ℕ) → gate_for a entry ≡ Some h → h.id ≡ g.id → ⊥
unheld m g a c outside h entry held id =
    let k = held_is a entry h held in
    let same_one : k.id ≡ g.id = sym (named_id a.gates k.id h k.known) ∙ id in
    elim (clean_held m g a c entry k.id k.there) [
      | inl older ↦ let some : is_some (gate_named (before g.id a.gates) g.id) ≡ true = ap (λ x. is_some (gate_named (before g.id a.gates) x)) (sym same_one) ∙ older in
          let none : is_some (gate_named (before g.id a.gates) g.id) ≡ false = ap is_some (before_lacks g.id a.gates) in
          true≢false (sym some ∙ none)
      | inr made ↦ true≢false (sym made ∙ (ap (λ (x : GateId). is_under m x.maker) same_one ∙ outside))
    ]

run_is_clean : (i : Image) (turns : List Turn) (new : WorldState) → Runs (initial_state i) turns new → AreClean new.actors
run_is_clean i turns new run = runs_clean (initial_state i) turns new (opening_ready i) (opening_family i) (opening_held i) (opening_clean i) run

pub none_within : NoneRunsWithin
none_within i turns new run m n r a g h entry p own q under held id =
    let clean = run_is_clean i turns new run in
    unheld m g a (clean.each m n r a g p own q under) (clean.outside m r g p own) h entry held id

pub held_older : GatesHeldAreOlder
held_older i turns new run m n r a g h entry p own q under held =
    let clean = run_is_clean i turns new run in
    let k = held_is a entry h held in
    subst (MayBeHeld m g a.gates) (sym (named_id a.gates k.id h k.known)) (clean_held m g a (clean.each m n r a g p own q under) entry k.id k.there)

-- ---- nor does one that has come to rest
run_after : (w : WorldState) (m : List ℕ) (g : Gate) (n : ℕ) (a : ActorState) (t : Bool) → is_running a.phase ≡ t → is_under m a.name ≡ true → IsClean m g a → IsClean m g (run_local w.image n a)
run_after w m g n a false e under c = subst (IsClean m g) (sym (stays w.image n a e)) c
run_after w m g zero a true e under c = unfold run_local in c
run_after w m g (suc n) a true e under c =
    let b = step w.image a in
    let s = steps_step w.image a in
    let later = run_after w m g n b _ refl (ap (is_under m) s.name ∙ under) (clean_after m g a b s.sheet under c (step_grows w a e)) in
    subst (IsClean m g) (sym (goes_on w.image n a e)) later

rest_after : (w : WorldState) (m : List ℕ) (g : Gate) (a : ActorState) → is_under m a.name ≡ true → IsClean m g a → IsClean m g (rest w.image a)
unfolding rest
rest_after w m g a under c = run_after w m g (a.fuel + 1) a _ refl under c

pub none_at_rest : (i : Image) (turns : List Turn) (w : WorldState) → Runs (initial_state i) turns w → (m n : List ℕ) (r a : ActorState) (g h : Gate) (entry : ℕ) → actor_named w.actors m ≡ Some r → r.run_of ≡ Some g
    → actor_named w.actors n ≡ Some a → is_under m n ≡ true → gate_for (at_rest w a) entry ≡ Some h → h.id ≡ g.id → ⊥
none_at_rest i turns w run m n r a g h entry p own q under held id =
    let clean = run_is_clean i turns w run in
    let b = ready w.actors a in
    let below : is_under m a.name ≡ true = ap (is_under m) (found_name w.actors n a q) ∙ under in
    let grows = ready_is (Grows a) w.actors a (Keeps refl refl refl) (λ k e fuel. Keeps refl refl refl) in
    let goes : IsClean m g b = clean_after m g a b (ready_sheet w.actors a) below (clean.each m n r a g p own q under) grows in
    unheld m g (at_rest w a) (rest_after w m g b (ap (is_under m) (ready_name w.actors a) ∙ below) goes) (clean.outside m r g p own) h entry held id
