-- The actors that a walk begins: their names count up, and an entry names each of them.
use Rattle.std.proofs.Common.{◌≡◌, ℕ, ◌+◌, ◌<◌, List, [], ◌∷◌, refl, sym, ap, subst, ◌∙◌, arith, inl, inr}
use Rattle.std.specs.Prelude.{Option, Some, None}
use Rattle.cow_pages.specs.PrivateMemory.{PrivateMemory}
use Rattle.wedge_base.specs.Images.{Image}
use Rattle.wedge_events.specs.declared.cells.GateAsk.TheVariants as gate_ask
use Rattle.wedge_events.specs.declared.cells.GateReply.TheVariants as gate_reply
use Rattle.wedge_events.specs.declared.events.Event.{Event}
use Rattle.wedge_events.specs.declared.events.Event.TheVariants as event
use Rattle.wedge_events.specs.declared.events.LogEntry.{LogEntry}
use Rattle.machine.specs.declared.phase.Phase.{Phase}
use Rattle.machine.specs.declared.phase.Phase.TheVariants as phase
use Rattle.machine.specs.Actors.{ActorState}
use Rattle.machine.specs.Children.{child_name, without_child}
use Rattle.machine.specs.Local.{is_running}
use Rattle.machine.specs.Take.{takes, has_entered, has_joined, actor_begun, run_at}
use Rattle.machine.proofs.Resting.{rest-name}
use Rattle.run_laws.proofs.Between.{joined_is, takes_name}
use Rattle.run_laws.proofs.Families.{takes_same}
use Rattle.run_laws.proofs.FamilyRuns.{kept_at_rest, join_keeps_starts}
use Rattle.thread_laws.specs.Executions.{LearnedEnd, learned_of, resumed_by, resumed_at, at_next_event, name_begun, Begins, IsWalkWith, Creation, with_creation, creations}
use Rattle.thread_laws.specs.Merging.{IsNamedBy}
use Rattle.thread_laws.proofs.Turning.{begun_name}

-- ---- an actor as it does its next event

by_learned : (Q : ActorState → Type 0) (a : ActorState) (k : ℕ) (o : Option LearnedEnd) → Q a → ((t : LearnedEnd) → Q (has_joined a k t.how t.fuel)) → Q (resumed_by a k o)
by_learned Q a k None own other = own
by_learned Q a k (Some t) own other = other t

pub goes_is : (Q : ActorState → Type 0) (learned : List LearnedEnd) (a : ActorState) (p : Phase) → Q a → ((k : ℕ) (t : LearnedEnd) → Q (has_joined a k t.how t.fuel)) → Q (resumed_at learned a p)
goes_is Q learned a (phase.Waiting k) own other = by_learned Q a k (learned_of learned k) own (other k)
goes_is Q learned a phase.Running own other = own
goes_is Q learned a (phase.Within q) own other = own
goes_is Q learned a (phase.Starting pre) own other = own
goes_is Q learned a (phase.MakingGate pre) own other = own
goes_is Q learned a (phase.Opening slot tag) own other = own
goes_is Q learned a (phase.Releasing slot) own other = own
goes_is Q learned a (phase.OpeningFile o) own other = own
goes_is Q learned a (phase.Entering x) own other = own
goes_is Q learned a (phase.Ending e) own other = own
goes_is Q learned a (phase.Ended e) own other = own

pub named_still : (i : Image) (learned : List LearnedEnd) (a : ActorState) → (at_next_event i learned a).name ≡ a.name
named_still i learned a =
    rest-name i (resumed_at learned a a.phase)
    ∙ goes_is (λ x. x.name ≡ a.name) learned a a.phase refl (λ k t. joined_is (λ x. x.name ≡ a.name) (record a { fuel = a.fuel + t.fuel; unjoined = without_child a.unjoined k }) a.phase t.how refl refl)

pub starts_still : (i : Image) (learned : List LearnedEnd) (a : ActorState) → (at_next_event i learned a).starts ≡ a.starts
starts_still i learned a =
    (kept_at_rest i (resumed_at learned a a.phase) (is_running (resumed_at learned a a.phase).phase) refl).starts
    ∙ goes_is (λ x. x.starts ≡ a.starts) learned a a.phase refl (λ k t. joined_is (λ x. x.starts ≡ a.starts) (record a { fuel = a.fuel + t.fuel; unjoined = without_child a.unjoined k }) a.phase t.how refl refl)

pub taken_name : (i : Image) (learned : List LearnedEnd) (a : ActorState) (e : Event) → (takes i (at_next_event i learned a) e).name ≡ a.name
taken_name i learned a e = takes_name i (at_next_event i learned a) e ∙ named_still i learned a

-- ---- the count of its starts

entered_starts : (b : ActorState) (run : List ℕ) (kept : Option PrivateMemory) (p : Phase) (c : ActorState) → run_at b run kept p ≡ Some c → (has_entered b p).starts ≡ b.starts + 1
entered_starts b run kept (phase.Entering x) c is = refl
entered_starts b run kept p c is = absurd cc

abbrev pub more_starts : Option ActorState → ℕ → ℕ
more_starts None n = n
more_starts (Some c) n = n + 1

pub takes_starts : (i : Image) (b : ActorState) (e : Event) → Begins i b e (name_begun e) → (takes i b e).starts ≡ more_starts (actor_begun i b e) b.starts
unfolding takes
takes_starts i b (event.Start child) h = refl
takes_starts i b (event.Enter run) h = entered_starts b run None b.phase h.child h.begun ∙ sym (ap (λ o. more_starts o b.starts) h.begun)
takes_starts i b (event.Gate id (gate_ask.Enter run first) (gate_reply.Entered memory)) h = entered_starts b run (Some memory) b.phase h.child h.begun ∙ sym (ap (λ o. more_starts o b.starts) h.begun)
takes_starts i b (event.Gate id (gate_ask.Enter run first) gate_reply.Left) h = let f : None ≡ Some h.child = h.begun in absurd cc
takes_starts i b (event.Join k how fuel) h = (join_keeps_starts i b k how fuel).0
takes_starts i b (event.Gate id (gate_ask.Leave how memory) r) h = (takes_same i b (event.Gate id (gate_ask.Leave how memory) r) tt).starts
takes_starts i b (event.Slots q r) h = (takes_same i b (event.Slots q r) tt).starts
takes_starts i b (event.Slot slot q r) h = (takes_same i b (event.Slot slot q r) tt).starts
takes_starts i b (event.Fds q r) h = (takes_same i b (event.Fds q r) tt).starts
takes_starts i b (event.Fd fd q r) h = (takes_same i b (event.Fd fd q r) tt).starts
takes_starts i b (event.Lives q r) h = (takes_same i b (event.Lives q r) tt).starts
takes_starts i b (event.Leave how) h = (takes_same i b (event.Leave how) tt).starts

-- whoever begins has the next name
next_name : (i : Image) (b : ActorState) (e : Event) (c : ActorState) (n : Option (List ℕ)) → name_begun e ≡ n → Begins i b e n → actor_begun i b e ≡ Some c → (name_begun e ≡ Some c.name) × (c.name ≡ child_name b.name (b.starts + 1))
next_name i b e c None is h begun = let f : None ≡ Some c = sym h ∙ begun in absurd cc
next_name i b e c (Some name) is h begun =
    let named = begun_name i b e c name begun is in
    (is ∙ ap (λ x. Some x) (sym named), named ∙ h.next)

-- ---- creations

-- they are numbered upwards, from above a number on
abbrev pub AreNumbered : List ℕ → ℕ → List Creation → Type 0
AreNumbered name floor [] = Unit {0}
AreNumbered name floor (b ∷ bs) = (n : ℕ) × (b.began.name ≡ child_name name n) × (floor < n) × AreNumbered name n bs

pub creations_numbered : (i : Image) (learned : List LearnedEnd) (a : ActorState) (clock : ℕ) (es : List LogEntry) → IsWalkWith i learned a clock es → AreNumbered a.name a.starts (creations i learned a es)
creations_numbered i learned a clock [] w = tt
creations_numbered i learned a clock (e ∷ es) w = by_creation (creations_numbered i learned (takes i (at_next_event i learned a) e.event) e.stamp es w.1) (actor_begun i b e.event) refl
  where
    b : ActorState
    b = at_next_event i learned a

    x : ActorState
    x = takes i b e.event

    name : b.name ≡ a.name
    name = named_still i learned a

    count : x.starts ≡ more_starts (actor_begun i b e.event) b.starts
    count = takes_starts i b e.event w.0.begins

    of_name : AreNumbered x.name x.starts (creations i learned x es) → AreNumbered a.name x.starts (creations i learned x es)
    of_name others = subst (λ n. AreNumbered n x.starts (creations i learned x es)) (takes_name i b e.event ∙ name) others

    by_creation : AreNumbered x.name x.starts (creations i learned x es) → (o : Option ActorState) → actor_begun i b e.event ≡ o → AreNumbered a.name a.starts (with_creation o e.stamp (creations i learned x es))
    by_creation others None is = subst (λ n. AreNumbered a.name n (creations i learned x es)) (count ∙ (ap (λ o. more_starts o b.starts) is ∙ starts_still i learned a)) (of_name others)
    by_creation others (Some c) is =
        let so : x.starts ≡ b.starts + 1 = count ∙ ap (λ o. more_starts o b.starts) is in
        let was : b.starts ≡ a.starts = starts_still i learned a in
        let named = (next_name i b e.event c (name_begun e.event) refl w.0.begins is).1 in
        (x.starts, named ∙ (ap (λ n. child_name n (b.starts + 1)) name ∙ ap (child_name a.name) (sym so)), omega (arith, so, was), of_name others)

-- each is named by an entry
abbrev pub AreNamed : List LogEntry → List Creation → Type 0
AreNamed es [] = Unit {0}
AreNamed es (b ∷ bs) = IsNamedBy b.began.name b.stamp es × AreNamed es bs

named_more : (e : LogEntry) (es : List LogEntry) (bs : List Creation) → AreNamed es bs → AreNamed (e ∷ es) bs
named_more e es [] h = tt
named_more e es (b ∷ bs) h = (inr h.0, named_more e es bs h.1)

pub creations_named : (i : Image) (learned : List LearnedEnd) (a : ActorState) (clock : ℕ) (es : List LogEntry) → IsWalkWith i learned a clock es → AreNamed es (creations i learned a es)
creations_named i learned a clock [] w = tt
creations_named i learned a clock (e ∷ es) w = by_creation (named_more e es (creations i learned (takes i (at_next_event i learned a) e.event) es) (creations_named i learned (takes i (at_next_event i learned a) e.event) e.stamp es w.1)) (actor_begun i b e.event) refl
  where
    b : ActorState
    b = at_next_event i learned a

    x : ActorState
    x = takes i b e.event

    by_creation : AreNamed (e ∷ es) (creations i learned x es) → (o : Option ActorState) → actor_begun i b e.event ≡ o → AreNamed (e ∷ es) (with_creation o e.stamp (creations i learned x es))
    by_creation others None is = others
    by_creation others (Some c) is = (inl ((next_name i b e.event c (name_begun e.event) refl w.0.begins is).0, refl), others)
