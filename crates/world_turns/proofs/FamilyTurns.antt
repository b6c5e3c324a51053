-- What the actor at an index wants that other actors have part in.
use Rattle.std.proofs.Common.{◌≡◌, ℕ, zero, suc, ◌+◌, ◌≤◌, Bool, true, false, List, [], ◌∷◌, ◌++◌, refl, sym, ap, subst, ◌∙◌, arith, inl}
use Rattle.std.specs.Prelude.{Result, Ok, Err, IfOk, IfSome, IfNone, Option, Some, None, IsSomeAnd, is_some, option_map, unwrap_or, slice_get, slice_set, if◌then◌else◌}
use Rattle.wedge_base.specs.Images.{Image}
use Rattle.wedge_base.specs.Names.{same}
use Rattle.wedge_base.specs.declared.grants.GateId.{GateId}
use Rattle.wedge_base.specs.declared.rights.End.{End}
use Rattle.callgate.specs.declared.gate.Gate.{Gate}
use Rattle.cow_pages.specs.PrivateMemory.{PrivateMemory}
use Rattle.wedge_events.specs.Gates.{gate_reply}
use Rattle.wedge_events.specs.declared.cells.GateAsk.{GateAsk}
use Rattle.wedge_events.specs.declared.cells.GateAsk.TheVariants as gate_ask
use Rattle.wedge_events.specs.declared.cells.GateReply.TheVariants as gate_replies
use Rattle.wedge_events.specs.declared.events.Ask.TheVariants as ask
use Rattle.wedge_events.specs.declared.events.Want.{Want}
use Rattle.wedge_events.specs.declared.events.Want.TheVariants as want
use Rattle.wedge_events.specs.declared.events.Event.{Event}
use Rattle.wedge_events.specs.declared.events.Event.TheVariants as event
use Rattle.wedge_events.specs.declared.events.LogEntry.{LogEntry}
use Rattle.machine.specs.declared.phase.Phase.{Phase}
use Rattle.machine.specs.declared.phase.Phase.TheVariants as phase
use Rattle.machine.specs.Actors.{ActorState}
use Rattle.machine.specs.Between.{IsAtGate, RunsIn, TakesFit}
use Rattle.machine.specs.Cells.{Cells, cells_after, event_of, kept_in}
use Rattle.machine.specs.Children.{fuel_given, is_child, child_name}
use Rattle.run_laws.specs.FamilyTrees.{worth, Family}
use Rattle.machine.specs.Local.{rest, has_ended, end_reached}
use Rattle.machine.specs.Take.{current_want, wanted_at, takes, actor_begun, child_of, run_by, run_at}
use Rattle.machine.specs.Worlds.{WorldState, actor_named, put_actor, with_begun, event_at, join_event, is_ended, ended_with, ready}
use Rattle.run_laws.proofs.Between.{takes_name}
use Rattle.run_laws.proofs.FamilyKept.{brings_back, next_is_new}
use Rattle.run_laws.proofs.Named.{found_name}
use Rattle.machine.proofs.Resting.{rest-name}
use Rattle.run_laws.proofs.Settling.{put_ends}
use Rattle.run_laws.proofs.Turns.{ready_else}
use Rattle.run_laws.proofs.Waits.{IsAwake}
use Rattle.world_turns.specs.Progress.{IsFirstNamed, IsRecorded, state_of, rested, rested_in}
use Rattle.world_turns.specs.Progress.{Notes}
use Rattle.world_turns.specs.Turning.{IsOfCell, IsEventDone, IsLeft, WantsOfFamily, MayCreate, IsGoingAlone, IsJoining, HasTaken, HasDone, IsDoneAt, FindsBusy, WasTaken, HasWaited, HasMetBusy}
use Rattle.world_turns.proofs.AtRest.{family_rests, rest_end, recorded_at_rest}
use Rattle.world_turns.proofs.Turning.{found_set, cell_turn, family_turn, ended_alike}

-- a name that no actor has, where one goes on under its own
pub none_set : (actors : List ActorState) (index : ℕ) (a new : ActorState) (m : List ℕ) → slice_get actors index ≡ Some a → new.name ≡ a.name → actor_named actors m ≡ None
    → actor_named (slice_set actors index new) m ≡ None
none_set [] index a new m there own none = none
none_set (y ∷ ys) index a new m there own none = by_name (same y.name m) refl none index there (λ n at others. none_set ys n a new m at own others)
  where
    skip : same y.name m ≡ false → (as_ : List ActorState) → actor_named (y ∷ as_) m ≡ actor_named as_ m
    skip e as_ = ap (λ t. if t then Some y else actor_named as_ m) e

    first : same y.name m ≡ false → Some y ≡ Some a → actor_named (new ∷ ys) m ≡ actor_named ys m
    first e is =
        let one : y ≡ a = cc in
        let name : new.name ≡ y.name = own ∙ ap (λ (z : ActorState). z.name) (sym one) in
        ap (λ t. if t then Some new else actor_named ys m) (ap (λ n. same n m) name ∙ e)

    by_name : (t : Bool) → same y.name m ≡ t → (if t then Some y else actor_named ys m) ≡ None → (n : ℕ) → slice_get (y ∷ ys) n ≡ Some a
        → ((k : ℕ) → slice_get ys k ≡ Some a → actor_named ys m ≡ None → actor_named (slice_set ys k new) m ≡ None) → actor_named (slice_set (y ∷ ys) n new) m ≡ None
    by_name true e is n at others = absurd cc
    by_name false e is zero at others = first e at ∙ is
    by_name false e is (suc n) at others = skip e (slice_set ys n new) ∙ others n at is

-- ---- an event by which another begins
-- no actor had its name, and none has
pub begun_fresh : (i : Image) (actors : List ActorState) (index : ℕ) (e : Event) (c : ActorState) (mid : List ActorState) → MayCreate i actors index e → HasTaken i actors index e (Some c) mid → actor_named mid c.name ≡ None
begun_fresh i actors index e c mid b t =
    let is : t.actor ≡ b.actor = one_of (sym t.there ∙ b.there) in
    let same_one : b.begun_ ≡ c = one_of (sym b.begins ∙ (ap (λ x. actor_begun i x e) (sym is) ∙ sym t.begins)) in
    ap (λ as_. actor_named as_ c.name) t.new_is ∙ none_set actors index t.actor (takes i t.actor e) c.name t.there (takes_name i t.actor e) (ap (λ (x : ActorState). actor_named actors x.name) (sym same_one) ∙ b.fresh)
  where
    one_of : {x y : ActorState} → Some x ≡ Some y → x ≡ y
    one_of h = cc

-- one always begins
pub begins_some : (i : Image) (actors : List ActorState) (index : ℕ) (e : Event) (o : Option ActorState) (mid : List ActorState) → MayCreate i actors index e → HasTaken i actors index e o mid → o ≡ None → ⊥
begins_some i actors index e o mid b t none =
    let is : t.actor ≡ b.actor = one_of (sym t.there ∙ b.there) in
    let f : Some b.begun_ ≡ None = sym b.begins ∙ (ap (λ x. actor_begun i x e) (sym is) ∙ (sym t.begins ∙ none)) in
    absurd cc
  where
    one_of : {x y : ActorState} → Some x ≡ Some y → x ≡ y
    one_of h = cc

pub begun_done : (i : Image) (actors : List ActorState) (index : ℕ) (e : Event) (c : ActorState) (mid new : List ActorState) (name : List ℕ) (entries new_entries : List LogEntry)
    → HasTaken i actors index e (Some c) mid → new ≡ mid ++ c ∷ [] → Notes entries name e new_entries → HasDone i actors index e entries name new new_entries
begun_done i actors index e c mid new name entries new_entries t is noted = record {
  actor = t.actor;
  there = t.there;
  new_is = is ∙ (ap (λ as_. as_ ++ c ∷ []) t.new_is ∙ ap (with_begun (slice_set actors index (takes i t.actor e))) t.begins);
  noted = noted;
}

-- ---- an event by which none begins
pub alone_done : (i : Image) (actors : List ActorState) (index : ℕ) (e : Event) (o : Option ActorState) (new : List ActorState) (name : List ℕ) (entries new_entries : List LogEntry)
    → IsGoingAlone i actors index e → HasTaken i actors index e o new → Notes entries name e new_entries → HasDone i actors index e entries name new new_entries
alone_done i actors index e o new name entries new_entries g t noted =
    let is : t.actor ≡ g.actor = one_of (sym t.there ∙ g.there) in
    record {
      actor = t.actor;
      there = t.there;
      new_is = t.new_is ∙ ap (with_begun (slice_set actors index (takes i t.actor e))) (sym (ap (λ x. actor_begun i x e) is ∙ g.begins_none));
      noted = noted;
    }
  where
    one_of : {x y : ActorState} → Some x ≡ Some y → x ≡ y
    one_of h = cc

-- ---- what is wanted is done
pub done_at : (i : Image) (cells new_cells : Cells) (actors : List ActorState) (index : ℕ) (name : List ℕ) (q : Want) (e : Event) (entries : List LogEntry) (new : List ActorState) (new_entries : List LogEntry)
    → WantsOfFamily i cells actors index name q → ((a : ActorState) → event_at (state_of i cells actors) a q ≡ Some e) → new_cells ≡ cells_after cells e
    → HasDone i actors index e entries name new new_entries → IsDoneAt i cells actors index q entries name new_cells new new_entries
done_at i cells new_cells actors index name q e entries new new_entries w comes after d = record {
  actor = d.actor;
  inside = w.inside;
  there = d.there;
  event = e;
  comes = comes d.actor;
  cells_are = after;
  new_is = d.new_is;
  noted = d.noted;
}

-- ---- a join
-- what the join of a child that has ended is
pub record JoinsOne (k : ℕ) (o : Option ActorState) (e : End) (fuel : ℕ) : Type 0 where
  pub child : ActorState
  pub there : o ≡ Some child
  pub fuel_is : fuel ≡ child.fuel

pub joins_one : (k : ℕ) (o : Option ActorState) (e : End) (fuel : ℕ) → ended_with o ≡ Some (e, fuel) → JoinsOne k o e fuel
joins_one k None e fuel ends = absurd cc
joins_one k (Some c) e fuel ends = by_end (end_reached c.phase) ends
  where
    by_end : (x : Option End) → option_map {U = End × ℕ} (λ (y : End). (y, c.fuel)) x ≡ Some (e, fuel) → JoinsOne k (Some c) e fuel
    by_end None h = absurd cc
    by_end (Some y) h = let both : (y, c.fuel) ≡ (e, fuel) = cc in record { child = c; there = refl; fuel_is = sym (ap (λ (p : End × ℕ). p.1) both) }

pub is_given : (o : Option ℕ) → is_some o ≡ true → (g : ℕ) × (o ≡ Some g)
is_given None h = absurd cc
is_given (Some g) h = (g, refl)

-- it brings back at most what the child was given
pub given_back : (actors : List ActorState) (a : ActorState) (k : ℕ) (e : End) (fuel : ℕ) → Family actors → actor_named actors a.name ≡ Some a → is_child a.unjoined k ≡ true → ended_with (actor_named actors (child_name a.name k)) ≡ Some (e, fuel)
    → IsSomeAnd (fuel_given a.unjoined k) (λ g. fuel ≤ g)
given_back actors a k e fuel f there listed ends =
    let o = joins_one k (actor_named actors (child_name a.name k)) e fuel ends in
    let given = is_given (fuel_given a.unjoined k) listed in
    let least : worth o.child ≤ given.0 = brings_back actors a o.child k given.0 f there o.there given.1 in
    let small : fuel ≤ given.0 = omega (arith, least, o.fuel_is) in
    subst (λ p. IsSomeAnd p (λ g. fuel ≤ g)) (sym given.1) small

pub joining_alone : (i : Image) (actors : List ActorState) (index : ℕ) (name : List ℕ) (child : ℕ) (e : End) (fuel : ℕ) → IsJoining actors index name child → ended_with (actor_named actors (child_name name child)) ≡ Some (e, fuel)
    → IsGoingAlone i actors index (event.Join child e fuel)
joining_alone i actors index name child e fuel j ends =
    let named : actor_named actors j.actor.name ≡ Some j.actor = ap (actor_named actors) j.own ∙ j.named in
    let own_ends = ap (λ n. ended_with (actor_named actors (child_name n child))) j.own ∙ ends in
    record {
      actor = j.actor;
      inside = j.inside;
      there = j.there;
      fits = (tt, given_back actors j.actor child e fuel j.family named j.listed own_ends);
      begins_none = refl;
    }

pub joined : (i : Image) (cells : Cells) (actors : List ActorState) (index : ℕ) (name : List ℕ) (child : ℕ) (e : End) (fuel : ℕ) (new : List ActorState) (entries new_entries : List LogEntry)
    → (j : IsJoining actors index name child) → ended_with (actor_named actors (child_name name child)) ≡ Some (e, fuel) → HasDone i actors index (event.Join child e fuel) entries name new new_entries
    → IsDoneAt i cells actors index (want.Join child) entries name cells new new_entries
joined i cells actors index name child e fuel new entries new_entries j ends d =
    let is : d.actor ≡ j.actor = one_of (sym d.there ∙ j.there) in
    let own : d.actor.name ≡ name = ap (λ (x : ActorState). x.name) is ∙ j.own in
    record {
      actor = d.actor;
      inside = j.inside;
      there = d.there;
      event = event.Join child e fuel;
      comes = ap (λ n. join_event child (actor_named actors (child_name n child))) own ∙ ap (option_map (λ (x : End × ℕ). event.Join child x.0 x.1)) ends;
      cells_are = refl;
      new_is = d.new_is;
      noted = d.noted;
    }
  where
    one_of : {x y : ActorState} → Some x ≡ Some y → x ≡ y
    one_of h = cc

-- ---- what an actor at rest wants that other actors have part in
-- the name of its next start is that of nobody
next_fresh : (i : Image) (cells : Cells) (actors : List ActorState) (index : ℕ) (name : List ℕ) (q : Want) (child : List ℕ) → (w : WantsOfFamily i cells actors index name q) → child ≡ child_name w.actor.name (w.actor.starts + 1) → actor_named actors child ≡ None
next_fresh i cells actors index name q child w is = ap (actor_named actors) is ∙ next_is_new actors w.family w.actor (ap (actor_named actors) w.own ∙ w.named)

-- an actor that wants to start a child may
pub starting : (i : Image) (cells : Cells) (actors : List ActorState) (index : ℕ) (name child : List ℕ) → WantsOfFamily i cells actors index name (want.Start child) → MayCreate i actors index (event.Start child)
starting i cells actors index name child w = record {
  actor = w.actor;
  inside = w.inside;
  there = w.there;
  fits = (tt, w.fits.0);
  begun_ = child_of i w.actor child;
  begins = refl;
  fresh = next_fresh i cells actors index name (want.Start child) child w w.fits.1;
}

-- one that is about to enter a gate may, in a run of its next name
run_begins : (i : Image) (cells : Cells) (actors : List ActorState) (index : ℕ) (name run : List ℕ) (q : Want) (e : Event) (kept : Option PrivateMemory) (w : WantsOfFamily i cells actors index name q) → run ≡ child_name w.actor.name (w.actor.starts + 1)
    → ((a : ActorState) → TakesFit a e) → ((a : ActorState) → actor_begun i a e ≡ run_at a run kept a.phase) → (p : Phase) → w.actor.phase ≡ p → IsAtGate p → MayCreate i actors index e
run_begins i cells actors index name run q e kept w next fits begins (phase.Entering x) at gate = record {
  actor = w.actor;
  inside = w.inside;
  there = w.there;
  fits = fits w.actor;
  begun_ = run_by w.actor run kept x;
  begins = begins w.actor ∙ ap (run_at w.actor run kept) at;
  fresh = next_fresh i cells actors index name q run w next;
}
run_begins i cells actors index name run q e kept w next fits begins p at gate = absurd gate

pub entering : (i : Image) (cells : Cells) (actors : List ActorState) (index : ℕ) (name run : List ℕ) → WantsOfFamily i cells actors index name (want.Enter run) → MayCreate i actors index (event.Enter run)
entering i cells actors index name run w = run_begins i cells actors index name run (want.Enter run) (event.Enter run) None w w.fits.1 (λ a. (tt, tt)) (λ a. refl) w.actor.phase refl w.fits.0

-- ---- a recycled gate
-- whoever wants to leave one is in it
pub leaves_entered : (i : Image) (cells : Cells) (actors : List ActorState) (index : ℕ) (name : List ℕ) (id : GateId) (x : End) (m : PrivateMemory) → WantsOfFamily i cells actors index name (want.Gate id (gate_ask.Leave x m))
    → (kept_in cells id).entered ≡ true
leaves_entered i cells actors index name id x m w = by_run w.actor.run_of refl w.fits
  where
    live : has_ended w.actor.phase ≡ false
    live = by_phase w.actor.phase refl
      where
        by_phase : (p : Phase) → w.actor.phase ≡ p → has_ended w.actor.phase ≡ false
        by_phase (phase.Ended e) at = let none : None ≡ Some (want.Gate id (gate_ask.Leave x m)) = sym (ap (wanted_at w.actor) at) ∙ w.wants in absurd cc
        by_phase p at = ap has_ended at

    by_run : (o : Option Gate) → w.actor.run_of ≡ o → RunsIn o id → (kept_in cells id).entered ≡ true
    by_run None own h = absurd h
    by_run (Some g) own h = w.recorded id (record { gate = g; own = own; recycled = h.0; named = h.1; live = live })

entry_is : (cells : Cells) (id : GateId) (q : GateAsk) (e : Event) → event_of cells (ask.Gate id q) ≡ Some e → event.Gate id q (gate_reply (kept_in cells id) q) ≡ e
entry_is cells id q e is = cc

-- whoever wants to enter one may
pub entering_gate : (i : Image) (cells : Cells) (actors : List ActorState) (index : ℕ) (name run : List ℕ) (id : GateId) (m : PrivateMemory) (e : Event) → WantsOfFamily i cells actors index name (want.Gate id (gate_ask.Enter run m))
    → event_of cells (ask.Gate id (gate_ask.Enter run m)) ≡ Some e → MayCreate i actors index e
entering_gate i cells actors index name run id m e w comes =
    let memory = unwrap_or (kept_in cells id).kept m in
    let x : Event = event.Gate id (gate_ask.Enter run m) (gate_replies.Entered memory) in
    subst (MayCreate i actors index) (entry_is cells id (gate_ask.Enter run m) e comes)
    (run_begins i cells actors index name run (want.Gate id (gate_ask.Enter run m)) x (Some memory) w w.fits.1 (λ a. (tt, tt)) (λ a. refl) w.actor.phase refl w.fits.0)

-- and whoever wants to leave one leaves it alone
pub leaving_gate : (i : Image) (cells : Cells) (actors : List ActorState) (index : ℕ) (name : List ℕ) (id : GateId) (x : End) (m : PrivateMemory) (e : Event) → WantsOfFamily i cells actors index name (want.Gate id (gate_ask.Leave x m))
    → event_of cells (ask.Gate id (gate_ask.Leave x m)) ≡ Some e → IsGoingAlone i actors index e
leaving_gate i cells actors index name id x m e w comes =
    subst (IsGoingAlone i actors index) (entry_is cells id (gate_ask.Leave x m) e comes)
    (record { actor = w.actor; inside = w.inside; there = w.there; fits = (tt, tt); begins_none = refl })

-- the entry comes where no run is in the gate
pub entry_comes : (w : WorldState) (a : ActorState) (id : GateId) (run : List ℕ) (m : PrivateMemory) (e : Event) → (kept_in w.cells id).entered ≡ false → event_of w.cells (ask.Gate id (gate_ask.Enter run m)) ≡ Some e
    → event_at w a (want.Gate id (gate_ask.Enter run m)) ≡ Some e
entry_comes w a id run m e free comes = ap (λ t. if t then None else event_of w.cells (ask.Gate id (gate_ask.Enter run m))) free ∙ comes

pub leaving : (i : Image) (cells : Cells) (actors : List ActorState) (index : ℕ) (name : List ℕ) (x : End) → WantsOfFamily i cells actors index name (want.Leave x) → IsGoingAlone i actors index (event.Leave x)
leaving i cells actors index name x w = record { actor = w.actor; inside = w.inside; there = w.there; fits = (tt, tt); begins_none = refl }

pub joining : (i : Image) (cells : Cells) (actors : List ActorState) (index : ℕ) (name : List ℕ) (child : ℕ) → WantsOfFamily i cells actors index name (want.Join child) → IsJoining actors index name child
joining i cells actors index name child w = record {
  actor = w.actor;
  inside = w.inside;
  there = w.there;
  named = w.named;
  own = w.own;
  listed = w.fits;
  family = w.family;
}

-- an actor that has come to rest, at its index
pub wants_of_family : (i : Image) (cells : Cells) (actors : List ActorState) (index : ℕ) (name : List ℕ) (a : ActorState) (q : Want) (new : ActorState) → IsFirstNamed actors name index a → has_ended a.phase ≡ false → IsAwake a.phase → Family actors
    → IsRecorded cells a → IsLeft i a q new → WantsOfFamily i cells (slice_set actors index new) index name q
wants_of_family i cells actors index name a q new found lives awake family recorded left =
    let b = rest i a in
    let name_is = found_name actors name a found.named in
    let own : b.name ≡ name = rest-name i a ∙ name_is in
    let at = found_set actors name index a b found own in
    let there : actor_named actors a.name ≡ Some a = ap (actor_named actors) name_is ∙ found.named in
    subst (λ x. WantsOfFamily i cells (slice_set actors index x) index name q) (sym left.rests)
    (record {
      actor = b;
      inside = at.inside;
      there = at.there;
      named = at.named;
      own = own;
      wants = left.wants;
      fits = left.fits;
      of_family = left.of_family;
      family = subst Family (found.put b own) (family_rests i actors a family there lives awake);
      recorded = recorded_at_rest cells i a recorded;
    })

-- an actor that has come to rest, at its index, and takes no turn
module _ (i : Image) (cells new_cells : Cells) (actors new : List ActorState) (index : ℕ) (name : List ℕ) (a : ActorState) (q : Want) (b : ActorState) (found : IsFirstNamed actors name index a) (awake : IsAwake a.phase) (left : IsLeft i a q b) where
  at_rest_so : rest i (ready actors a) ≡ rest i a
  at_rest_so = ap (rest i) (ready_else actors a awake)

  put_so : slice_set actors index b ≡ put_actor actors (rest i a)
  put_so =
      let own : b.name ≡ name = ap (λ (x : ActorState). x.name) left.rests ∙ (rest-name i a ∙ found_name actors name a found.named) in
      sym (found.put b own) ∙ ap (put_actor actors) left.rests

  rested_so : new ≡ slice_set actors index b → new_cells ≡ cells → state_of i new_cells new ≡ rested (state_of i cells actors) name
  rested_so is same_cells =
      ap (λ c. state_of i c new) same_cells ∙ (ap (λ as_. state_of i cells as_) (is ∙ put_so) ∙ (ap (λ x. state_of i cells (put_actor actors x)) (sym at_rest_so) ∙ ap (λ o. state_of i cells (rested_in i actors o)) (sym found.named)))

  -- it has to wait for a child
  pub waited : (child : ℕ) → q ≡ want.Join child → is_ended (actor_named (slice_set actors index b) (child_name name child)) ≡ false → new ≡ slice_set actors index b → new_cells ≡ cells
      → HasWaited i cells actors name new_cells new
  waited child join not_ended is same_cells =
      let there : actor_named actors a.name ≡ Some a = ap (actor_named actors) (found_name actors name a found.named) ∙ found.named in
      let ends = put_ends actors a (rest i a) there (rest-name i a) (rest_end i a) in
      record {
        waits = record {
          actor = a;
          number = child;
          named = found.named;
          awaits = inl (ap (λ (x : ActorState). current_want x) at_rest_so ∙ (left.wants ∙ ap (λ x. Some x) join));
          not_ended = sym (ended_alike (put_actor actors (rest i a)) actors (child_name name child) ends) ∙ (ap (λ as_. is_ended (actor_named as_ (child_name name child))) (sym put_so) ∙ not_ended);
        };
        rests = rested_so is same_cells;
      }

  -- a run is in the gate that it is to enter
  pub met_busy : FindsBusy cells q → new ≡ slice_set actors index b → new_cells ≡ cells → HasMetBusy i cells actors name new_cells new
  met_busy busy is same_cells = record {
    busy = record {
      actor = a;
      gate = busy.gate;
      run = busy.run;
      first = busy.first;
      named = found.named;
      wants = ap (λ (x : ActorState). current_want x) at_rest_so ∙ (left.wants ∙ ap (λ x. Some x) busy.is);
      entered = busy.entered;
    };
    rests = rested_so is same_cells;
  }

-- ---- a turn that other actors have part in

pub if_ok : {X E : Type 0} {A B : X → Type 0} (r : Result X E) → ((x : X) → A x → B x) → IfOk r A → IfOk r B
if_ok (Ok x) f h = f x h
if_ok (Err e) f h = tt

pub if_both : {X E : Type 0} {A B C : X → Type 0} (r : Result X E) → ((x : X) → A x → B x → C x) → IfOk r A → IfOk r B → IfOk r C
if_both (Ok x) f h k = f x h k
if_both (Err e) f h k = tt

pub if_none : {X A : Type 0} (o : Option X) → o ≡ None → IfNone o A → A
if_none None e h = h
if_none (Some x) e h = absurd cc

pub if_some : {X A : Type 0} (o : Option X) (x : X) → o ≡ Some x → IfSome o (λ _. A) → A
if_some None x e h = absurd cc
if_some (Some y) x e h = h

pub family_taken : (i : Image) (cells mid_cells new_cells : Cells) (actors new : List ActorState) (index : ℕ) (name : List ℕ) (a : ActorState) (q : Want) (b : ActorState) (entries mid_entries new_entries : List LogEntry)
    → IsFirstNamed actors name index a → IsAwake a.phase → IsLeft i a q b → IsDoneAt i mid_cells (slice_set actors index b) index q mid_entries name new_cells new new_entries → mid_cells ≡ cells → mid_entries ≡ entries
    → WasTaken i cells actors entries name new_cells new new_entries
family_taken i cells mid_cells new_cells actors new index name a q b entries mid_entries new_entries found awake left done same_cells same =
    let at : IsDoneAt i cells (slice_set actors index (rest i a)) index q entries name new_cells new new_entries =
    subst (λ x. IsDoneAt i cells (slice_set actors index x) index q entries name new_cells new new_entries) left.rests
    (subst (λ es. IsDoneAt i cells (slice_set actors index b) index q es name new_cells new new_entries) same
    (subst (λ c. IsDoneAt i c (slice_set actors index b) index q mid_entries name new_cells new new_entries) same_cells done)) in
    record {
      event = at.event;
      turn = family_turn i cells new_cells actors new index name a q entries new_entries found awake left.wants at;
      noted = at.noted;
    }

pub cell_taken : (i : Image) (cells new_cells : Cells) (actors : List ActorState) (index : ℕ) (name : List ℕ) (a new : ActorState) (q : Want) (entries new_entries : List LogEntry)
    → IsFirstNamed actors name index a → IsAwake a.phase → current_want (rest i a) ≡ Some q → IsOfCell q → IsEventDone i cells (rest i a) q entries name new_cells new new_entries
    → WasTaken i cells actors entries name new_cells (slice_set actors index new) new_entries
cell_taken i cells new_cells actors index name a new q entries new_entries found awake wants of_cell m = record {
  event = m.event;
  turn = cell_turn i cells new_cells actors index name a new q m.event found awake wants of_cell m.comes m.cells_are m.takes_it (m.name_stays ∙ (rest-name i a ∙ found_name actors name a found.named));
  noted = m.noted;
}
