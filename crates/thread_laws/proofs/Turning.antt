-- A turn of a world in which an actor is at a place of its execution, and the cells answer as its next entry says.
use Rattle.std.proofs.Common.{◌≡◌, ℕ, Bool, true, false, List, [], ◌∷◌, ◌++◌, refl, sym, ap, subst, ◌∙◌, inl, inr}
use Rattle.std.proofs.lemmas.List.{map-append, append-nil}
use Rattle.std.specs.Prelude.{Option, Some, None, map, option_map, ◌⊎◌, if◌then◌else◌}
use Rattle.cow_pages.specs.PrivateMemory.{PrivateMemory}
use Rattle.wedge_base.specs.Images.{Image}
use Rattle.wedge_base.specs.Names.{same}
use Rattle.wedge_base.specs.declared.rights.End.{End}
use Rattle.wedge_events.specs.Journals.{event_ask}
use Rattle.wedge_events.specs.Slots.{Segment, IsPair, SlotFits}
use Rattle.wedge_events.specs.Wants.{slot_ask_with}
use Rattle.wedge_events.specs.declared.cells.GateAsk.TheVariants as gate_ask
use Rattle.wedge_events.specs.declared.cells.GateReply.TheVariants as gate_reply
use Rattle.wedge_events.specs.declared.cells.SlotAsk.TheVariants as slot_ask
use Rattle.wedge_events.specs.declared.events.Ask.TheVariants as ask
use Rattle.wedge_events.specs.declared.events.Event.{Event}
use Rattle.wedge_events.specs.declared.events.Event.TheVariants as event
use Rattle.wedge_events.specs.declared.events.SlotWant.{SlotWant}
use Rattle.wedge_events.specs.declared.events.SlotWant.TheVariants as slot_want
use Rattle.wedge_events.specs.declared.events.Want.{Want}
use Rattle.wedge_events.specs.declared.events.Want.TheVariants as want
use Rattle.machine.specs.declared.phase.Phase.{Phase}
use Rattle.machine.specs.declared.phase.Phase.TheVariants as phase
use Rattle.machine.specs.Actors.{ActorState}
use Rattle.machine.specs.Children.{child_name}
use Rattle.machine.specs.Local.{rest}
use Rattle.machine.specs.Take.{current_want, pair, asks, takes, child_of, run_by, run_at, actor_begun}
use Rattle.machine.proofs.Resting.{rest-name}
use Rattle.machine.specs.Cells.{slot_in, kept_in, tag_in, event_of}
use Rattle.run_laws.specs.Walks.{Asks}
use Rattle.machine.specs.Worlds.{WorldState, actor_named, put_actor, with_begun, ended_with, event_at, apply_event, wanting, resumes, ready_at, ready, resumed, turn_with, turn_of}
use Rattle.run_laws.proofs.Between.{takes_name}
use Rattle.run_laws.proofs.Named.{named_put, named_put_other, named_begun, same_equal}
use Rattle.run_laws.proofs.Settling.{resumed_event}
use Rattle.run_laws.proofs.Turns.{ready_name, ready_else, waits_or}
use Rattle.thread_laws.specs.Executions.{LearnedEnd, learned_of, resumed_by, resumed_at, at_next_event, name_begun, with_named, Begins}
use Rattle.thread_laws.proofs.Alike.{FitsAsk, Answers, IsOfCell}

-- ---- what an actor asks

-- whichever tag it thought to live in a slot, it asked for the one that does, where that matters
pair_is : (a : ActorState) (g : Option Segment) (live : Option ℕ) → IsPair g (pair a live) → pair a live ≡ pair a (option_map (λ s. s.tag) g)
pair_is a None None h = refl
pair_is a None (Some tag) h = absurd cc
pair_is a (Some g) None h = absurd h
pair_is a (Some g) (Some tag) h = ap (λ n. pair a (Some n)) h

slot_asks : (a : ActorState) (g : Option Segment) (live : Option ℕ) (q : SlotWant) → SlotFits g (slot_ask_with q (pair a live)) → slot_ask_with q (pair a live) ≡ slot_ask_with q (pair a (option_map (λ s. s.tag) g))
slot_asks a g live (slot_want.Open tag pages) h = refl
slot_asks a g live (slot_want.Close tag) h = refl
slot_asks a g live (slot_want.Load offset width) h = ap (λ p. slot_ask.Load width offset p) (pair_is a g live h.1)
slot_asks a g live (slot_want.Store offset width value) h = ap (λ p. slot_ask.Store width offset value p) (pair_is a g live h.1)
slot_asks a g live (slot_want.Smalloc tag size) h = refl
slot_asks a g live (slot_want.Sfree offset) h = ap (λ p. slot_ask.Sfree offset p) (pair_is a g live h.1)
slot_asks a g live (slot_want.Snap tag) h = refl

-- ---- the event of what was asked

start_is : (e : Event) (child : List ℕ) → event_ask e ≡ ask.Start child → e ≡ event.Start child
start_is (event.Start c) child h = cc
start_is e child h = absurd cc

enter_is : (e : Event) (run : List ℕ) → event_ask e ≡ ask.Enter run → e ≡ event.Enter run
enter_is (event.Enter r) run h = cc
enter_is e run h = absurd cc

leave_is : (e : Event) (how : End) → event_ask e ≡ ask.Leave how → e ≡ event.Leave how
leave_is (event.Leave x) how h = cc
leave_is e how h = absurd cc

record IsJoinOf (e : Event) (k : ℕ) : Type 0 where
  how : End
  fuel : ℕ
  is : e ≡ event.Join k how fuel

join_is : (e : Event) (k : ℕ) → event_ask e ≡ ask.Join k → IsJoinOf e k
join_is (event.Join j how fuel) k h = record { how = how; fuel = fuel; is = cc }
join_is e k h = absurd cc

-- a child that is joined has ended as the join says
abbrev pub IsJoinable : WorldState → ActorState → Event → Type 0
IsJoinable w a (event.Join k how fuel) = ended_with (actor_named w.actors (child_name a.name k)) ≡ Some (how, fuel)
IsJoinable w a e = Unit {0}

-- an event that the cells answer so is the one to which its actor comes
event_comes : (w : WorldState) (b : ActorState) (q : Want) (live : Option ℕ) (e : Event) → event_ask e ≡ asks b live q → (IsOfCell (event_ask e) → Answers w.cells e) → IsJoinable w b e → event_at w b q ≡ Some e
event_comes w b (want.Slots q) live e asked answers joins = subst (λ x. event_of w.cells x ≡ Some e) asked (answers (subst IsOfCell (sym asked) tt)).reply
event_comes w b (want.Slot slot q) live e asked answers joins =
    let a = answers (subst IsOfCell (sym asked) tt) in
    let fits : SlotFits (slot_in w.cells slot) (slot_ask_with q (pair b live)) = subst (FitsAsk w.cells) asked a.fits in
    let so : ask.Slot slot (slot_ask_with q (pair b live)) ≡ ask.Slot slot (slot_ask_with q (pair b (tag_in w.cells slot))) = ap (λ x. ask.Slot slot x) (slot_asks b (slot_in w.cells slot) live q fits) in
    subst (λ x. event_of w.cells x ≡ Some e) (asked ∙ so) a.reply
event_comes w b (want.Fds q) live e asked answers joins = subst (λ x. event_of w.cells x ≡ Some e) asked (answers (subst IsOfCell (sym asked) tt)).reply
event_comes w b (want.Fd fd q) live e asked answers joins = subst (λ x. event_of w.cells x ≡ Some e) asked (answers (subst IsOfCell (sym asked) tt)).reply
event_comes w b (want.Lives q) live e asked answers joins = subst (λ x. event_of w.cells x ≡ Some e) asked (answers (subst IsOfCell (sym asked) tt)).reply
event_comes w b (want.Gate id (gate_ask.Enter run first)) live e asked answers joins =
    let a = answers (subst IsOfCell (sym asked) tt) in
    let free : (kept_in w.cells id).entered ≡ false = subst (FitsAsk w.cells) asked a.fits in
    ap (λ t. if t then None else event_of w.cells (ask.Gate id (gate_ask.Enter run first))) free ∙ subst (λ x. event_of w.cells x ≡ Some e) asked a.reply
event_comes w b (want.Gate id (gate_ask.Leave how memory)) live e asked answers joins = subst (λ x. event_of w.cells x ≡ Some e) asked (answers (subst IsOfCell (sym asked) tt)).reply
event_comes w b (want.Start child) live e asked answers joins = ap (λ x. Some x) (sym (start_is e child asked))
event_comes w b (want.Join k) live e asked answers joins =
    let j = join_is e k asked in
    let ended : ended_with (actor_named w.actors (child_name b.name k)) ≡ Some (j.how, j.fuel) = subst (IsJoinable w b) j.is joins in
    ap (option_map (λ (x : End × ℕ). event.Join k x.0 x.1)) ended ∙ ap (λ x. Some x) (sym j.is)
event_comes w b (want.Enter run) live e asked answers joins = ap (λ x. Some x) (sym (enter_is e run asked))
event_comes w b (want.Leave how) live e asked answers joins = ap (λ x. Some x) (sym (leave_is e how asked))

-- ---- how it goes on

-- the run for which an actor waits has ended as the actor learned
abbrev pub IsLearned : WorldState → ActorState → List LearnedEnd → Phase → Type 0
IsLearned w a learned (phase.Waiting k) = (t : LearnedEnd) × (learned_of learned k ≡ Some t) × (ended_with (actor_named w.actors (child_name a.name k)) ≡ Some (t.how, t.fuel))
IsLearned w a learned p = Unit {0}

goes_else : (learned : List LearnedEnd) (a : ActorState) (p : Phase) → ((k : ℕ) → p ≡ phase.Waiting k → ⊥) → resumed_at learned a p ≡ a
goes_else learned a (phase.Waiting k) none = absurd (none k refl)
goes_else learned a p none = refl

goes_ready : (w : WorldState) (a : ActorState) (learned : List LearnedEnd) → IsLearned w a learned a.phase → ready w.actors a ≡ resumed_at learned a a.phase
goes_ready w a learned h = by_phase (waits_or a.phase)
  where
    by_phase : ((k : ℕ) × (a.phase ≡ phase.Waiting k)) ⊎ ((k : ℕ) → a.phase ≡ phase.Waiting k → ⊥) → ready w.actors a ≡ resumed_at learned a a.phase
    by_phase (inl (k, at)) =
        let t = subst (IsLearned w a learned) at h in
        ap (ready_at w.actors a) at ∙ (ap (resumes a k) t.2 ∙ (ap (resumed_by a k) (sym t.1) ∙ sym (ap (resumed_at learned a) at)))
    by_phase (inr none) = ready_else w.actors a none ∙ sym (goes_else learned a a.phase none)

-- ---- the turn

-- the world after an event of an actor at rest
abbrev pub world_after : WorldState → ActorState → ActorState → Event → WorldState
world_after w a b e = (apply_event (resumed w a) b e).world

pub takes_turn : (w : WorldState) (learned : List LearnedEnd) (a : ActorState) (e : Event) → actor_named w.actors a.name ≡ Some a → IsLearned w a learned a.phase → Asks (at_next_event w.image learned a) e
    → (IsOfCell (event_ask e) → Answers w.cells e) → IsJoinable w (at_next_event w.image learned a) e
    → turn_of w a.name ≡ Some (record { event = e; world = world_after w a (at_next_event w.image learned a) e })
unfolding turn_of
takes_turn w learned a e there h asked answers joins =
    let b = at_next_event w.image learned a in
    let v = resumed w a in
    let goes : rest w.image (ready w.actors a) ≡ b = ap (rest w.image) (goes_ready w a learned h) in
    let comes : event_at v b asked.want ≡ Some e = resumed_event w a b asked.want there ∙ event_comes w b asked.want asked.live e asked.asks_it answers joins in
    ap (turn_with w) there ∙ (ap (λ (y : ActorState). wanting v y (current_want y)) goes ∙ (ap (wanting v b) asked.wants ∙ ap (option_map (apply_event v b)) comes))

-- ---- who is there after it

goes_name : (learned : List LearnedEnd) (w : WorldState) (a : ActorState) → IsLearned w a learned a.phase → (resumed_at learned a a.phase).name ≡ a.name
goes_name learned w a h = ap (λ (x : ActorState). x.name) (sym (goes_ready w a learned h)) ∙ ready_name w.actors a

pub next_event_name : (w : WorldState) (learned : List LearnedEnd) (a : ActorState) → IsLearned w a learned a.phase → (at_next_event w.image learned a).name ≡ a.name
next_event_name w learned a h = rest-name w.image (resumed_at learned a a.phase) ∙ goes_name learned w a h

-- the actor itself
pub own_after : (w : WorldState) (a b : ActorState) (e : Event) → actor_named w.actors a.name ≡ Some a → b.name ≡ a.name → actor_named (world_after w a b e).actors a.name ≡ Some (takes w.image b e)
own_after w a b e there name =
    let v = resumed w a in
    let x = takes w.image b e in
    let own : x.name ≡ a.name = takes_name w.image b e ∙ name in
    let on : (ready w.actors a).name ≡ a.name = ready_name w.actors a in
    let here : actor_named v.actors a.name ≡ Some (ready w.actors a) = subst (λ n. actor_named v.actors n ≡ Some (ready w.actors a)) on (named_put w.actors (ready w.actors a) a (ap (actor_named w.actors) on ∙ there)) in
    let put : actor_named (put_actor v.actors x) a.name ≡ Some x = subst (λ n. actor_named (put_actor v.actors x) n ≡ Some x) own (named_put v.actors x (ready w.actors a) (ap (actor_named v.actors) own ∙ here)) in
    named_begun (put_actor v.actors x) (actor_begun w.image b e) a.name x put

-- the others before anyone begins
others_put : (w : WorldState) (a b : ActorState) (e : Event) (m : List ℕ) → b.name ≡ a.name → same a.name m ≡ false → actor_named (put_actor (resumed w a).actors (takes w.image b e)) m ≡ actor_named w.actors m
others_put w a b e m name apart =
    named_put_other (resumed w a).actors (takes w.image b e) m (ap (λ n. same n m) (takes_name w.image b e ∙ name) ∙ apart)
    ∙ named_put_other w.actors (ready w.actors a) m (ap (λ n. same n m) (ready_name w.actors a) ∙ apart)

-- another that is there stays
pub other_after : (w : WorldState) (a b : ActorState) (e : Event) (m : List ℕ) (y : ActorState) → b.name ≡ a.name → same a.name m ≡ false → actor_named w.actors m ≡ Some y → actor_named (world_after w a b e).actors m ≡ Some y
other_after w a b e m y name apart there =
    named_begun (put_actor (resumed w a).actors (takes w.image b e)) (actor_begun w.image b e) m y (others_put w a b e m name apart ∙ there)

-- where none of a name is there, one is that begins under it
abbrev pub begun_as : Option ActorState → List ℕ → Option ActorState
begun_as None m = None
begun_as (Some c) m = if same c.name m then Some c else None

begun_last : (actors : List ActorState) (o : Option ActorState) (m : List ℕ) → actor_named actors m ≡ None → actor_named (with_begun actors o) m ≡ begun_as o m
begun_last actors None m none = none
begun_last [] (Some c) m none = refl
begun_last (y ∷ ys) (Some c) m none = by_name (same y.name m) none (begun_last ys (Some c) m)
  where
    by_name : (t : Bool) → (if t then Some y else actor_named ys m) ≡ None → (actor_named ys m ≡ None → actor_named (with_begun ys (Some c)) m ≡ begun_as (Some c) m)
        → (if t then Some y else actor_named (with_begun ys (Some c)) m) ≡ begun_as (Some c) m
    by_name true n others = absurd cc
    by_name false n others = others n

pub none_after : (w : WorldState) (a b : ActorState) (e : Event) (m : List ℕ) → b.name ≡ a.name → same a.name m ≡ false → actor_named w.actors m ≡ None
    → actor_named (world_after w a b e).actors m ≡ begun_as (actor_begun w.image b e) m
none_after w a b e m name apart none =
    begun_last (put_actor (resumed w a).actors (takes w.image b e)) (actor_begun w.image b e) m (others_put w a b e m name apart ∙ none)

-- who begins has the name that the event says
pub run_name : (b : ActorState) (run : List ℕ) (kept : Option PrivateMemory) (p : Phase) (c : ActorState) → run_at b run kept p ≡ Some c → c.name ≡ run
run_name b run kept (phase.Entering x) c is = let one : run_by b run kept x ≡ c = cc in ap (λ (y : ActorState). y.name) (sym one)
run_name b run kept p c is = absurd cc

pub begun_name : (i : Image) (b : ActorState) (e : Event) (c : ActorState) (name : List ℕ) → actor_begun i b e ≡ Some c → name_begun e ≡ Some name → c.name ≡ name
begun_name i b (event.Start child) c name is named =
    let one : child_of i b child ≡ c = cc in
    let two : child ≡ name = cc in
    ap (λ (y : ActorState). y.name) (sym one) ∙ two
begun_name i b (event.Enter run) c name is named = let two : run ≡ name = cc in run_name b run None b.phase c is ∙ two
begun_name i b (event.Gate id (gate_ask.Enter run first) (gate_reply.Entered memory)) c name is named = let two : run ≡ name = cc in run_name b run (Some memory) b.phase c is ∙ two
begun_name i b e c name is named = absurd cc

-- ---- the names of all, in their order

abbrev pub names_of : List ActorState → List (List ℕ)
names_of actors = map (λ a. a.name) actors

put_names : (actors : List ActorState) (x y : ActorState) → actor_named actors x.name ≡ Some y → names_of (put_actor actors x) ≡ names_of actors
put_names [] x y there = absurd cc
put_names (z ∷ zs) x y there = by_name (same z.name x.name) refl there (put_names zs x y)
  where
    by_name : (t : Bool) → same z.name x.name ≡ t → (if t then Some z else actor_named zs x.name) ≡ Some y → (actor_named zs x.name ≡ Some y → names_of (put_actor zs x) ≡ names_of zs) → names_of (if t then x ∷ zs else z ∷ put_actor zs x) ≡ names_of (z ∷ zs)
    by_name true is h others = ap (λ n. n ∷ names_of zs) (sym (same_equal z.name x.name is))
    by_name false is h others = ap (λ ns. z.name ∷ ns) (others h)

begun_names : (actors : List ActorState) (i : Image) (b : ActorState) (e : Event) (n : Option (List ℕ)) → name_begun e ≡ n → Begins i b e n → names_of (with_begun actors (actor_begun i b e)) ≡ names_of actors ++ with_named n []
begun_names actors i b e None is h = ap (λ o. names_of (with_begun actors o)) h ∙ sym (append-nil (names_of actors))
begun_names actors i b e (Some name) is h =
    ap (λ o. names_of (with_begun actors o)) h.begun
    ∙ (map-append (λ (a : ActorState). a.name) actors (h.child ∷ []) ∙ ap (λ m. names_of actors ++ m ∷ []) (begun_name i b e h.child name h.begun is))

pub names_after : (w : WorldState) (a b : ActorState) (e : Event) → actor_named w.actors a.name ≡ Some a → b.name ≡ a.name → Begins w.image b e (name_begun e) → names_of (world_after w a b e).actors ≡ names_of w.actors ++ with_named (name_begun e) []
names_after w a b e there name h =
    let v = resumed w a in
    let x = takes w.image b e in
    let on : (ready w.actors a).name ≡ a.name = ready_name w.actors a in
    let own : x.name ≡ a.name = takes_name w.image b e ∙ name in
    let here : actor_named v.actors a.name ≡ Some (ready w.actors a) = subst (λ n. actor_named v.actors n ≡ Some (ready w.actors a)) on (named_put w.actors (ready w.actors a) a (ap (actor_named w.actors) on ∙ there)) in
    begun_names (put_actor v.actors x) w.image b e (name_begun e) refl h
    ∙ (ap (λ ns. ns ++ with_named (name_begun e) []) (put_names v.actors x (ready w.actors a) (ap (actor_named v.actors) own ∙ here))
    ∙ ap (λ ns. ns ++ with_named (name_begun e) []) (put_names w.actors (ready w.actors a) a (ap (actor_named w.actors) on ∙ there)))
