-- What makes a turn.
use Rattle.std.proofs.Common.{◌≡◌, ℕ, zero, suc, ◌<◌, Bool, true, false, List, [], ◌∷◌, ◌++◌, length, get_or, refl, sym, ap, subst, ◌∙◌, arith, inr}
use Rattle.std.specs.Prelude.{Option, Some, None, IsSomeAnd, option_map, slice_get, slice_set, is_some}
use Rattle.wedge_base.specs.Images.{Image}
use Rattle.wedge_base.specs.Names.{same}
use Rattle.wedge_events.specs.declared.events.Want.{Want}
use Rattle.wedge_events.specs.declared.events.Event.{Event}
use Rattle.wedge_events.specs.declared.events.LogEntry.{LogEntry}
use Rattle.wedge_events.specs.declared.events.Turn.{Turn}
use Rattle.machine.specs.Actors.{ActorState}
use Rattle.machine.specs.Local.{rest, has_ended, is_running}
use Rattle.machine.specs.Take.{current_want, takes, actor_begun}
use Rattle.machine.specs.Cells.{Cells, cells_after}
use Rattle.machine.specs.Worlds.{WorldState, initial_state, actor_named, put_actor, all_at_rest, with_begun, event_at, apply_event, wanting, turn_with, turn_of, turn_in, is_ended, ended_with, resumes, ready_at, ready, resumed}
use Rattle.run_laws.proofs.Between.{takes_name}
use Rattle.run_laws.proofs.Named.{found_name, named_put, put_put}
use Rattle.machine.proofs.Resting.{rest-name, rest-stays}
use Rattle.run_laws.proofs.Settling.{EndAlike, turns_alike, put_ends, ends_event, resumed_ends, rests_settled}
use Rattle.world_turns.specs.Progress.{IsRunSoFar, IsTurn, HasEnded, IsFirstNamed, IsIndexOf, Awaits, state_of, rested, rested_in}
use Rattle.world_turns.specs.Turning.{event_asked, IsOfCell, StillWaits, IsDoneAt, HasWaited, HasMetBusy}
use Rattle.world_turns.proofs.Fitting.{asked_is, begins_none}
use Rattle.world_cells.proofs.GateIndices.{get_at}
use Rattle.world_turns.proofs.Runs.{Runs-push}
use Rattle.machine.specs.Children.{child_name}
use Rattle.run_laws.proofs.Turns.{ready_else, ready_named}
use Rattle.run_laws.proofs.Trees.{put_same}
use Rattle.run_laws.proofs.Waits.{IsAwake}
use Rattle.world_turns.proofs.AtRest.{ended_is, none_with, rest_end}

-- an actor that waits for no run takes a turn as it is
awake_turn : (w : WorldState) (a : ActorState) → actor_named w.actors a.name ≡ Some a → IsAwake a.phase → turn_with w (Some a) ≡ turn_in w a
awake_turn w a there awake =
    ap (λ x. turn_in (record w { actors = put_actor w.actors x }) x) (ready_else w.actors a awake) ∙ ap (λ as_. turn_in (record w { actors = as_ }) a) (put_same w.actors a there)

pub own_there : (actors : List ActorState) (name : List ℕ) (a : ActorState) → actor_named actors name ≡ Some a → actor_named actors a.name ≡ Some a
own_there actors name a named = ap (actor_named actors) (found_name actors name a named) ∙ named

pub is_turn : (i : Image) (cells after : Cells) (actors new : List ActorState) (name : List ℕ) (a : ActorState) (q : Want) (e : Event)
    → actor_named actors name ≡ Some a → IsAwake a.phase → current_want (rest i a) ≡ Some q → event_at (state_of i cells actors) (rest i a) q ≡ Some e → after ≡ cells_after cells e
    → new ≡ with_begun (put_actor actors (takes i (rest i a) e)) (actor_begun i (rest i a) e)
    → IsTurn (state_of i cells actors) name e (state_of i after new)
unfolding turn_of
is_turn i cells after actors new name a q e named awake wants comes after_is new_is =
    let w = state_of i cells actors in
    let b = rest i a in
    ap (turn_with w) named ∙ (awake_turn w a (own_there actors name a named) awake ∙ (ap (wanting w b) wants ∙ (ap (option_map (apply_event w b)) comes
    ∙ (ap (λ (c : Cells). Some (record { event = e; world = state_of i c (with_begun (put_actor actors (takes i b e)) (actor_begun i b e)) })) (sym after_is)
    ∙ ap (λ (as_ : List ActorState). Some (record { event = e; world = state_of i after as_ })) (sym new_is)))))

-- an event of a cell makes a turn
pub cell_turn : (i : Image) (cells after : Cells) (actors : List ActorState) (index : ℕ) (name : List ℕ) (a new : ActorState) (q : Want) (e : Event)
    → IsFirstNamed actors name index a → IsAwake a.phase → current_want (rest i a) ≡ Some q → IsOfCell q → event_asked cells (rest i a) q ≡ Some e → after ≡ cells_after cells e → new ≡ takes i (rest i a) e → new.name ≡ name
    → IsTurn (state_of i cells actors) name e (state_of i after (slice_set actors index new))
cell_turn i cells after actors index name a new q e found awake wants of_cell comes after_is new_is own =
    let w = state_of i cells actors in
    let b = rest i a in
    is_turn i cells after actors (slice_set actors index new) name a q e found.named awake wants (asked_is w b q of_cell ∙ comes) after_is
    (sym (found.put new own) ∙ (ap (put_actor actors) new_is ∙ ap (with_begun (put_actor actors (takes i b e))) (sym (begins_none i cells b q e of_cell comes))))

-- ---- an actor that has come to rest, at its index

pub set_get : {X : Type 0} (xs : List X) (n : ℕ) (x : X) → n < length xs → slice_get (slice_set xs n x) n ≡ Some x
set_get [] n x lt = absurd (omega (arith, lt))
set_get (y ∷ ys) zero x lt = refl
set_get (y ∷ ys) (suc n) x lt = set_get ys n x (omega (arith, lt))

pub set_set : {X : Type 0} (xs : List X) (n : ℕ) (x y : X) → slice_set (slice_set xs n x) n y ≡ slice_set xs n y
set_set [] n x y = refl
set_set (z ∷ zs) zero x y = refl
set_set (z ∷ zs) (suc n) x y = ap (λ ws. z ∷ ws) (set_set zs n x y)

pub set_length : {X : Type 0} (xs : List X) (n : ℕ) (x : X) → length (slice_set xs n x) ≡ length xs
set_length [] n x = refl
set_length (y ∷ ys) zero x = refl
set_length (y ∷ ys) (suc n) x = ap suc (set_length ys n x)

-- one that is put at its index is found there
pub found_set : (actors : List ActorState) (name : List ℕ) (index : ℕ) (a x : ActorState) → IsFirstNamed actors name index a → x.name ≡ name → IsFirstNamed (slice_set actors index x) name index x
found_set actors name index a x found own =
    let put = found.put x own in
    let there : actor_named actors x.name ≡ Some a = ap (actor_named actors) own ∙ found.named in
    record {
      inside = subst (λ n. index < n) (sym (set_length actors index x)) found.inside;
      there = set_get actors index x found.inside;
      named = ap (λ as_. actor_named as_ name) (sym put) ∙ (ap (actor_named (put_actor actors x)) (sym own) ∙ named_put actors x a there);
      put = λ new same_name. ap (λ as_. put_actor as_ new) (sym put) ∙ (put_put actors x new (same_name ∙ sym own) ∙ (found.put new same_name ∙ sym (set_set actors index x new)));
    }

-- what another comes to is the same before and after
pub rested_event : (i : Image) (c : Cells) (actors : List ActorState) (name : List ℕ) (index : ℕ) (a b : ActorState) (q : Want) → IsFirstNamed actors name index a
    → event_at (state_of i c (slice_set actors index (rest i a))) b q ≡ event_at (state_of i c actors) b q
rested_event i c actors name index a b q found =
    let own : (rest i a).name ≡ name = rest-name i a ∙ found_name actors name a found.named in
    ap (λ as_. event_at (state_of i c as_) b q) (sym (found.put (rest i a) own))
    ∙ ends_event (state_of i c (put_actor actors (rest i a))) (state_of i c actors) b q refl (put_ends actors a (rest i a) (own_there actors name a found.named) (rest-name i a) (rest_end i a))

-- what other actors have part in makes a turn
pub family_turn : (i : Image) (cells new_cells : Cells) (actors new : List ActorState) (index : ℕ) (name : List ℕ) (a : ActorState) (q : Want) (entries new_entries : List LogEntry)
    → IsFirstNamed actors name index a → IsAwake a.phase → current_want (rest i a) ≡ Some q → (d : IsDoneAt i cells (slice_set actors index (rest i a)) index q entries name new_cells new new_entries)
    → IsTurn (state_of i cells actors) name d.event (state_of i new_cells new)
family_turn i cells new_cells actors new index name a q entries new_entries found awake wants d =
    let b = rest i a in
    let is : d.actor ≡ b = one_of (sym d.there ∙ set_get actors index b found.inside) in
    let e = d.event in
    let own : (takes i b e).name ≡ name = takes_name i b e ∙ (rest-name i a ∙ found_name actors name a found.named) in
    let put : put_actor actors (takes i b e) ≡ slice_set actors index (takes i b e) = found.put (takes i b e) own in
    is_turn i cells new_cells actors new name a q e found.named awake wants
    (sym (rested_event i cells actors name index a b q found) ∙ (ap (λ x. event_at (state_of i cells (slice_set actors index b)) x q) (sym is) ∙ d.comes))
    d.cells_are
    (d.new_is ∙ (ap (λ x. with_begun (slice_set (slice_set actors index b) index (takes i x e)) (actor_begun i x e)) is
    ∙ ap (λ as_. with_begun as_ (actor_begun i b e)) (set_set actors index b (takes i b e) ∙ sym put)))
  where
    one_of : {x y : ActorState} → Some x ≡ Some y → x ≡ y
    one_of e = cc

-- an actor that is there and has not ended is no cause to refuse
pub not_unknown : {A : Type 0} (actors : List ActorState) (name : List ℕ) (a : ActorState) → actor_named actors name ≡ Some a → actor_named actors name ≡ None → A
not_unknown actors name a p q = absurd cc

ended_by : (o : Option ActorState) (a : ActorState) → o ≡ Some a → has_ended a.phase ≡ false → IsSomeAnd o (λ (x : ActorState). has_ended x.phase ≡ true) → ⊥
ended_by None a p live h = cc
ended_by (Some b) a p live h = let is : b ≡ a = cc in let both : true ≡ false = sym h ∙ ap (λ (x : ActorState). has_ended x.phase) is ∙ live in cc

pub not_ended : {A : Type 0} (actors : List ActorState) (name : List ℕ) (a : ActorState) → actor_named actors name ≡ Some a → has_ended a.phase ≡ false → HasEnded actors name → A
not_ended actors name a p live h = absurd (ended_by (actor_named actors name) a p live h)

-- a run whose last world is that of these parts goes on by a turn
pub run_goes_on : (i : Image) (cells new_cells : Cells) (actors new_actors : List ActorState) (turns new_turns : List Turn) (name : List ℕ) (e : Event) (stopped : Bool)
    → IsRunSoFar (record { state = state_of i cells actors; turns = turns; stopped = stopped }) → stopped ≡ false
    → IsTurn (state_of i cells actors) name e (state_of i new_cells new_actors) → new_turns ≡ turns ++ record { actor = name; event = e } ∷ []
    → IsRunSoFar (record { state = state_of i new_cells new_actors; turns = new_turns; stopped = stopped })
run_goes_on i cells new_cells actors new_actors turns new_turns name e stopped run going took noted =
    let t = turns_alike (state_of i cells actors) run.last name e (state_of i new_cells new_actors) (run.current going) took in
    record {
      last = t.to;
      run = rw noted (Runs-push (initial_state i) run.last t.to turns (record { actor = name; event = e }) run.run t.turn);
      current = λ s. t.alike;
    }

-- the actor at an index is the one that was found there
one_at : (actors : List ActorState) (name : List ℕ) (index : ℕ) (a x : ActorState) → IsFirstNamed actors name index x → slice_get actors index ≡ Some a → IsFirstNamed actors name index a
one_at actors name index a x found there = let is : x ≡ a = cc in subst (λ (y : ActorState). IsFirstNamed actors name index y) is found
  where
    at : slice_get actors index ≡ Some x
    at = found.there

pub found_at : (actors : List ActorState) (name : List ℕ) (index : ℕ) (a : ActorState) → IsIndexOf actors name index → slice_get actors index ≡ Some a → IsFirstNamed actors name index a
found_at actors name index a found there = one_at actors name index a found.0 found.1 there

-- the same where a list of them is read through a view
pub found_through : (items actors : List ActorState) (name : List ℕ) (index : ℕ) (a : ActorState) → items ≡ actors → IsIndexOf actors name index → a ≡ get_or items index a → IsFirstNamed items name index a
found_through items actors name index a same at value =
    let here : IsIndexOf items name index = subst (λ (as_ : List ActorState). IsIndexOf as_ name index) (sym same) at in
    found_at items name index a here (get_at items index a here.1.inside value)

-- a world in which one actor is put at rest differs in local events alone
pub rested_settled : (w : WorldState) (name : List ℕ) (a : ActorState) → actor_named w.actors name ≡ Some a → all_at_rest (rested w name) ≡ all_at_rest w
rested_settled w name a named =
    ap (λ o. all_at_rest (record w { actors = rested_in w.image w.actors o })) named ∙ rests_settled w a (own_there w.actors name a named)

-- ---- an actor that has gone on
-- its turn is that of the actor before it went on
pub goes_turn : (i : Image) (cells : Cells) (actors : List ActorState) (name : List ℕ) (a : ActorState) (e : Event) (new : WorldState) → actor_named actors name ≡ Some a → IsAwake (ready actors a).phase
    → IsTurn (state_of i cells (put_actor actors (ready actors a))) name e new → IsTurn (state_of i cells actors) name e new
unfolding turn_of
goes_turn i cells actors name a e new named awake turn =
    let w = state_of i cells actors in
    let b = ready actors a in
    let here = ready_named w name a named in
    ap (turn_with w) named ∙ (sym (ap (turn_with (resumed w a)) here ∙ awake_turn (resumed w a) b (own_there (resumed w a).actors name b here) awake) ∙ turn)

pub ended_alike : (as_ bs : List ActorState) (m : List ℕ) → EndAlike as_ bs → is_ended (actor_named as_ m) ≡ is_ended (actor_named bs m)
ended_alike as_ bs m ends = sym (ended_is (actor_named as_ m)) ∙ (ap is_some (ends m) ∙ ended_is (actor_named bs m))

-- at rest it is the actor at rest that it was before
goes_rested : (i : Image) (cells : Cells) (actors : List ActorState) (name : List ℕ) (a : ActorState) → actor_named actors name ≡ Some a → IsAwake (ready actors a).phase
    → rested (state_of i cells (put_actor actors (ready actors a))) name ≡ rested (state_of i cells actors) name
goes_rested i cells actors name a named awake =
    let w = state_of i cells actors in
    let b = ready actors a in
    let mid = put_actor actors b in
    let calm : ready mid b ≡ b = ready_else mid b awake in
    ap (λ o. state_of i cells (rested_in i mid o)) (ready_named w name a named) ∙ (ap (λ x. state_of i cells (put_actor mid (rest i x))) calm
    ∙ (ap (state_of i cells) (put_put actors b (rest i b) (rest-name i b)) ∙ sym (ap (λ o. state_of i cells (rested_in i actors o)) named)))

-- and so is its wait
pub goes_waiting : (i : Image) (cells new_cells : Cells) (actors new : List ActorState) (name : List ℕ) (a : ActorState) → actor_named actors name ≡ Some a → IsAwake (ready actors a).phase
    → HasWaited i cells (put_actor actors (ready actors a)) name new_cells new → HasWaited i cells actors name new_cells new
goes_waiting i cells new_cells actors new name a named awake h =
    let w = state_of i cells actors in
    let b = ready actors a in
    let mid = put_actor actors b in
    let here = ready_named w name a named in
    let same_one : h.waits.actor ≡ b = one_of (sym h.waits.named ∙ here) in
    let calm : ready mid b ≡ b = ready_else mid b awake in
    let rest_is : rest i (ready mid h.waits.actor) ≡ rest i b = ap (λ x. rest i (ready mid x)) same_one ∙ ap (rest i) calm in
    record {
      waits = record {
        actor = a;
        number = h.waits.number;
        named = named;
        awaits = subst (λ x. Awaits x h.waits.number) rest_is h.waits.awaits;
        not_ended = sym (ended_alike mid actors (child_name name h.waits.number) (resumed_ends w a (own_there actors name a named))) ∙ h.waits.not_ended;
      };
      rests = h.rests ∙ goes_rested i cells actors name a named awake;
    }
  where
    one_of : {x y : ActorState} → Some x ≡ Some y → x ≡ y
    one_of e = cc

-- or that it finds a run in the gate that it is to enter
pub goes_busy : (i : Image) (cells new_cells : Cells) (actors new : List ActorState) (name : List ℕ) (a : ActorState) → actor_named actors name ≡ Some a → IsAwake (ready actors a).phase
    → HasMetBusy i cells (put_actor actors (ready actors a)) name new_cells new → HasMetBusy i cells actors name new_cells new
goes_busy i cells new_cells actors new name a named awake h =
    let w = state_of i cells actors in
    let b = ready actors a in
    let mid = put_actor actors b in
    let here = ready_named w name a named in
    let same_one : h.busy.actor ≡ b = one_of (sym h.busy.named ∙ here) in
    let calm : ready mid b ≡ b = ready_else mid b awake in
    let rest_is : rest i (ready mid h.busy.actor) ≡ rest i b = ap (λ x. rest i (ready mid x)) same_one ∙ ap (rest i) calm in
    record {
      busy = record {
        actor = a;
        gate = h.busy.gate;
        run = h.busy.run;
        first = h.busy.first;
        named = named;
        wants = ap (λ (x : ActorState). current_want x) (sym rest_is) ∙ h.busy.wants;
        entered = h.busy.entered;
      };
      rests = h.rests ∙ goes_rested i cells actors name a named awake;
    }
  where
    one_of : {x y : ActorState} → Some x ≡ Some y → x ≡ y
    one_of e = cc

-- an actor that waits still is at rest
pub still_waiting : (i : Image) (cells new_cells : Cells) (actors new : List ActorState) (index : ℕ) (name : List ℕ) → StillWaits actors index name new → new_cells ≡ cells → HasWaited i cells actors name new_cells new
still_waiting i cells new_cells actors new index name h same_cells =
    let a = h.actor in
    let k = h.number in
    let own : a.name ≡ name = found_name actors name a h.found.named in
    let none : ended_with (actor_named actors (child_name a.name k)) ≡ None = ap (λ n. ended_with (actor_named actors (child_name n k))) own ∙ none_with (actor_named actors (child_name name k)) h.not_ended in
    let stays_so : ready actors a ≡ a = ap (ready_at actors a) h.at ∙ ap (resumes a k) none in
    let rest_is : rest i (ready actors a) ≡ a = ap (rest i) stays_so ∙ rest-stays i a (ap is_running h.at) in
    record {
      waits = record {
        actor = a;
        number = k;
        named = h.found.named;
        awaits = inr (ap (λ (x : ActorState). x.phase) rest_is ∙ h.at);
        not_ended = h.not_ended;
      };
      rests = ap (λ c. state_of i c new) same_cells ∙ (ap (state_of i cells) (h.new_is ∙ sym (put_same actors a (own_there actors name a h.found.named)))
          ∙ (ap (λ x. state_of i cells (put_actor actors x)) (sym rest_is) ∙ sym (ap (λ o. state_of i cells (rested_in i actors o)) h.found.named)));
    }

-- an actor that has ended stays at its index
pub set_same : {X : Type 0} (xs : List X) (n : ℕ) (x : X) → slice_get xs n ≡ Some x → slice_set xs n x ≡ xs
set_same [] n x there = refl
set_same (y ∷ ys) zero x there = let is : y ≡ x = cc in ap (λ z. z ∷ ys) (sym is)
set_same (y ∷ ys) (suc n) x there = ap (λ zs. y ∷ zs) (set_same ys n x there)

pub has_ended_there : (actors : List ActorState) (name : List ℕ) (a : ActorState) → actor_named actors name ≡ Some a → has_ended a.phase ≡ true → HasEnded actors name
has_ended_there actors name a named ended = subst (λ o. IsSomeAnd o (λ (x : ActorState). has_ended x.phase ≡ true)) (sym named) ended
