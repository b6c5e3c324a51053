-- In each run the entries of an actor are a walk of its own.
use Rattle.std.proofs.Common.{◌≡◌, ℕ, ◌+◌, ◌<◌, Bool, true, false, List, [], ◌∷◌, refl, sym, ap, subst, ◌∙◌, arith, inl, inr}
use Rattle.std.specs.Prelude.{Some, ◌⊎◌, if◌then◌else◌}
use Rattle.wedge_base.specs.Images.{Image}
use Rattle.wedge_base.specs.Names.{same}
use Rattle.wedge_events.specs.Journals.{event_ask}
use Rattle.wedge_events.specs.declared.events.Ask.{Ask}
use Rattle.wedge_events.specs.declared.events.Ask.TheVariants as ask
use Rattle.wedge_events.specs.declared.events.Want.{Want}
use Rattle.wedge_events.specs.declared.events.Want.TheVariants as want
use Rattle.wedge_events.specs.declared.events.Event.{Event}
use Rattle.wedge_events.specs.declared.events.LogEntry.{LogEntry}
use Rattle.wedge_events.specs.declared.events.Turn.{Turn}
use Rattle.machine.specs.declared.phase.Phase.{Phase}
use Rattle.machine.specs.declared.phase.Phase.TheVariants as phase
use Rattle.machine.specs.Actors.{ActorState, root}
use Rattle.machine.specs.Local.{rest, is_running}
use Rattle.machine.specs.Take.{asks, takes, actor_begun, current_want, wanted_at, answered_end}
use Rattle.machine.specs.Children.{without_child}
use Rattle.machine.specs.Cells.{Cells, live_at, event_of}
use Rattle.machine.specs.Worlds.{WorldState, initial_state, actor_named, put_actor, ready, resumed, event_at, turn_of, Runs}
use Rattle.run_laws.specs.Walks.{Asks, GoesOnBy, IsWalk, entries_in, RootsWalk}
use Rattle.machine.proofs.Resting.{rest-name, rest-stays}
use Rattle.run_laws.proofs.Between.{comes_of, takes_name}
use Rattle.run_laws.proofs.Turns.{Readies, Stays, Back, readies, ready_name, waits_or, turn_from}
use Rattle.run_laws.proofs.Waits.{IsAwake}
use Rattle.run_laws.proofs.Named.{same_equal, found_name, named_put, named_put_other, named_begun}

-- an event is that of the ask of which it came
asked_of : (c : Cells) (q : Ask) (e : Event) → event_of c q ≡ Some e → event_ask e ≡ q
asked_of c (ask.Slots q) e at = cc
asked_of c (ask.Slot slot q) e at = cc
asked_of c (ask.Fds q) e at = cc
asked_of c (ask.Fd fd q) e at = cc
asked_of c (ask.Lives q) e at = cc
asked_of c (ask.Gate id q) e at = cc
asked_of c (ask.Start child) e at = absurd cc
asked_of c (ask.Join child) e at = absurd cc
asked_of c (ask.Enter run) e at = absurd cc
asked_of c (ask.Leave end) e at = absurd cc

-- and so is the event of what an actor wants
asked_at : (w : WorldState) (b : ActorState) (q : Want) (e : Event) → event_at w b q ≡ Some e → event_ask e ≡ asks b (live_at w.cells q) q
asked_at w b (want.Start child) e at = ap event_ask (comes_of w b (want.Start child) e at)
asked_at w b (want.Join k) e at = ap event_ask (comes_of w b (want.Join k) e at).is
asked_at w b (want.Slots q) e at = asked_of w.cells _ e at
asked_at w b (want.Slot slot q) e at = asked_of w.cells _ e at
asked_at w b (want.Fds q) e at = asked_of w.cells _ e at
asked_at w b (want.Fd fd q) e at = asked_of w.cells _ e at
asked_at w b (want.Lives q) e at = asked_of w.cells _ e at
asked_at w b (want.Gate id q) e at = ap event_ask (comes_of w b (want.Gate id q) e at).1
asked_at w b (want.Enter run) e at = ap event_ask (comes_of w b (want.Enter run) e at)
asked_at w b (want.Leave end) e at = ap event_ask (comes_of w b (want.Leave end) e at)

-- an actor that waits for no run goes on as it is; and one that takes a turn goes on
goes_as_is : (a : ActorState) (p : Phase) → IsAwake p → GoesOnBy a p a
goes_as_is a phase.Running h = refl
goes_as_is a (phase.Within q) h = refl
goes_as_is a (phase.Starting pre) h = refl
goes_as_is a (phase.MakingGate pre) h = refl
goes_as_is a (phase.Opening slot tag) h = refl
goes_as_is a (phase.Releasing slot) h = refl
goes_as_is a (phase.OpeningFile o) h = refl
goes_as_is a (phase.Entering x) h = refl
goes_as_is a (phase.Waiting k) h = absurd (h k refl)
goes_as_is a (phase.Ending e) h = refl
goes_as_is a (phase.Ended e) h = refl

goes_on_by : (i : Image) (actors : List ActorState) (a : ActorState) (q : Want) → current_want (rest i (ready actors a)) ≡ Some q → GoesOnBy a a.phase (ready actors a)
goes_on_by i actors a q wants = by_case (readies actors a)
  where
    stays_so : ready actors a ≡ a → ((k : ℕ) × (a.phase ≡ phase.Waiting k)) ⊎ ((k : ℕ) → a.phase ≡ phase.Waiting k → ⊥) → GoesOnBy a a.phase (ready actors a)
    stays_so is (inl (k, at)) =
        let rests_so : rest i (ready actors a) ≡ a = ap (rest i) is ∙ rest-stays i a (ap is_running at) in
        let none = sym (ap (λ (x : ActorState). current_want x) rests_so ∙ ap (wanted_at a) at) ∙ wants in
        absurd cc
    stays_so is (inr none) = subst (GoesOnBy a a.phase) (sym is) (goes_as_is a a.phase none)

    by_case : Readies actors a → GoesOnBy a a.phase (ready actors a)
    by_case (Stays is) = stays_so is (waits_or a.phase)
    by_case (Back k at r is) =
        subst (λ p. GoesOnBy a p (ready actors a)) (sym at)
        (r.how, r.run.fuel, is ∙ sym (ap (λ p. answered_end (record a { fuel = a.fuel + r.run.fuel; unjoined = without_child a.unjoined k }) p r.how) at))

-- what a turn of an actor makes of it as it goes on, and that it asked its event
record OwnTurn (w : WorldState) (a : ActorState) (e : Event) (new : WorldState) : Type 0 where
  on : ActorState
  goes : GoesOnBy a a.phase on
  name : on.name ≡ a.name
  event : Asks (rest w.image on) e
  now : actor_named new.actors a.name ≡ Some (takes w.image (rest w.image on) e)
  image : new.image ≡ w.image

own_turn : (w : WorldState) (name : List ℕ) (a : ActorState) (e : Event) (new : WorldState) → actor_named w.actors a.name ≡ Some a → name ≡ a.name
    → turn_of w name ≡ Some (record { event = e; world = new }) → OwnTurn w a e new
own_turn w name a e new named is t =
    let turn = turn_from w name e new t in
    let p = turn.parts in
    let v = resumed w turn.actor in
    let here : actor_named w.actors name ≡ Some a = ap (actor_named w.actors) is ∙ named in
    let same_actor : turn.actor ≡ a = let f : Some turn.actor ≡ Some a = sym turn.named ∙ here in cc in
    let on_is : p.actor ≡ ready w.actors a = turn.is ∙ ap (ready w.actors) same_actor in
    let b = rest w.image p.actor in
    let x = takes w.image b e in
    let name_is : p.actor.name ≡ a.name = found_name v.actors name p.actor p.named ∙ is in
    let own : x.name ≡ a.name = takes_name w.image b e ∙ (rest-name w.image p.actor ∙ name_is) in
    let there : actor_named v.actors a.name ≡ Some p.actor = ap (actor_named v.actors) (sym is) ∙ p.named in
    let put : actor_named (put_actor v.actors x) a.name ≡ Some x = subst (λ n. actor_named (put_actor v.actors x) n ≡ Some x) own (named_put v.actors x p.actor (ap (actor_named v.actors) own ∙ there)) in
    record {
      on = p.actor;
      goes = subst (GoesOnBy a a.phase) (sym on_is) (goes_on_by w.image w.actors a p.want (ap (λ (y : ActorState). current_want (rest w.image y)) (sym on_is) ∙ p.wants));
      name = name_is;
      event = record { want = p.want; live = live_at w.cells p.want; wants = p.wants; asks_it = asked_at v b p.want e p.comes };
      now = ap (λ (y : WorldState). actor_named y.actors a.name) p.new_is ∙ named_begun (put_actor v.actors x) (actor_begun w.image b e) a.name x put;
      image = ap (λ (y : WorldState). y.image) p.new_is;
    }

-- a turn of another leaves it
record OtherTurn (w : WorldState) (a : ActorState) (new : WorldState) : Type 0 where
  now : actor_named new.actors a.name ≡ Some a
  image : new.image ≡ w.image

other_turn : (w : WorldState) (doer : List ℕ) (a : ActorState) (e : Event) (new : WorldState) → actor_named w.actors a.name ≡ Some a → same doer a.name ≡ false
    → turn_of w doer ≡ Some (record { event = e; world = new }) → OtherTurn w a new
other_turn w doer a e new named apart t =
    let turn = turn_from w doer e new t in
    let p = turn.parts in
    let v = resumed w turn.actor in
    let b = rest w.image p.actor in
    let x = takes w.image b e in
    let first : (ready w.actors turn.actor).name ≡ doer = ready_name w.actors turn.actor ∙ found_name w.actors doer turn.actor turn.named in
    let own : x.name ≡ doer = takes_name w.image b e ∙ (rest-name w.image p.actor ∙ found_name v.actors doer p.actor p.named) in
    let still : actor_named v.actors a.name ≡ Some a = named_put_other w.actors (ready w.actors turn.actor) a.name (ap (λ n. same n a.name) first ∙ apart) ∙ named in
    let put : actor_named (put_actor v.actors x) a.name ≡ Some a = named_put_other v.actors x a.name (ap (λ n. same n a.name) own ∙ apart) ∙ still in
    record {
      now = ap (λ (y : WorldState). actor_named y.actors a.name) p.new_is ∙ named_begun (put_actor v.actors x) (actor_begun w.image b e) a.name a put;
      image = ap (λ (y : WorldState). y.image) p.new_is;
    }

-- the entries of an actor from here on are a walk of it, which leads to what it is in the end
pub record Walks (i : Image) (a : ActorState) (clock : ℕ) (es : List LogEntry) (new : WorldState) : Type 0 where
  pub last : ActorState
  pub walk : IsWalk i a clock es last
  pub leads : actor_named new.actors a.name ≡ Some last

with_entry : (i : Image) (a : ActorState) (clock : ℕ) (e : LogEntry) (es : List LogEntry) (new : WorldState) (t : Bool) → same e.actor a.name ≡ t
    → (same e.actor a.name ≡ true → Walks i a clock (e ∷ es) new) → (same e.actor a.name ≡ false → Walks i a clock es new)
    → Walks i a clock (if t then e ∷ es else es) new
with_entry i a clock e es new true is own other = own is
with_entry i a clock e es new false is own other = other is

pub actor_walks : (old : WorldState) (turns : List Turn) (new : WorldState) (a : ActorState) (clock stamp : ℕ) → clock < stamp → actor_named old.actors a.name ≡ Some a → Runs old turns new
    → Walks old.image a clock (entries_in a.name stamp turns) new
actor_walks old [] new a clock stamp above named run = record { last = a; walk = refl; leads = ap (λ (w : WorldState). actor_named w.actors a.name) run ∙ named }
actor_walks old (t ∷ ts) new a clock stamp above named run =
    let e : LogEntry = record { stamp = stamp; actor = t.actor; event = t.event } in
    with_entry old.image a clock e (entries_in a.name (stamp + 1) ts) new (same t.actor a.name) refl
    (λ is.
    let own_name : t.actor ≡ a.name = same_equal t.actor a.name is in
    let o = own_turn old t.actor a t.event run.0 named own_name run.1 in
    let b = rest old.image o.on in
    let x = takes old.image b t.event in
    let rests_so : b.name ≡ a.name = rest-name old.image o.on ∙ o.name in
    let name : x.name ≡ a.name = takes_name old.image b t.event ∙ rests_so in
    let rest_ = actor_walks run.0 ts new x stamp (stamp + 1) (omega arith) (ap (actor_named run.0.actors) name ∙ o.now) run.2 in
    let walked : Walks old.image x stamp (entries_in a.name (stamp + 1) ts) new =
    subst (λ j. Walks j x stamp (entries_in a.name (stamp + 1) ts) new) o.image (subst (λ n. Walks run.0.image x stamp (entries_in n (stamp + 1) ts) new) name rest_) in
    record {
      last = walked.last;
      walk = (o.on, o.goes, record { above = above; own = own_name ∙ sym rests_so; event = o.event }, walked.walk);
      leads = ap (actor_named new.actors) (sym name) ∙ walked.leads;
    })
    (λ is.
    let o = other_turn old t.actor a t.event run.0 named is run.1 in
    subst (λ j. Walks j a clock (entries_in a.name (stamp + 1) ts) new) o.image (actor_walks run.0 ts new a clock (stamp + 1) (omega (arith, above)) o.now run.2))

pub roots_walk : RootsWalk
unfolding root
roots_walk i turns new run =
    let w = actor_walks (initial_state i) turns new (root i) 0 1 (omega arith) refl run in
    record { last = w.last; walk = w.walk; leads = w.leads }
