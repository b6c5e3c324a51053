-- A world in which one actor has gone on and come to rest: that actor takes the same turn as before.
use Rattle.std.proofs.Common.{◌≡◌, ℕ, false, List, refl, sym, ap, subst, ◌∙◌}
use Rattle.std.specs.Prelude.{Option, Some, None, option_map, slice_set}
use Rattle.wedge_events.specs.declared.events.Want.{Want}
use Rattle.wedge_events.specs.declared.events.Event.{Event}
use Rattle.machine.specs.Actors.{ActorState}
use Rattle.machine.specs.Children.{child_name}
use Rattle.machine.specs.Local.{rest, run_awaited, has_ended}
use Rattle.machine.specs.Take.{current_want, takes, actor_begun}
use Rattle.machine.proofs.Resting.{rest_rest, rest-name}
use Rattle.machine.specs.Cells.{cells_after}
use Rattle.machine.specs.Worlds.{WorldState, actor_named, put_actor, with_begun, event_at, apply_event, wanting, turn_with, turn_of, turn_in, ready, resumed, at_rest}
use Rattle.run_laws.proofs.Between.{takes_name}
use Rattle.run_laws.proofs.Named.{found_name, named_put, put_put}
use Rattle.run_laws.proofs.Settling.{EndAlike, put_ends, ends_event, resumed_event, at_rest-name, at_rest-ended}
use Rattle.run_laws.proofs.Turns.{ready_end, ready_else}
use Rattle.run_laws.proofs.Waits.{IsAwake}
use Rattle.world_turns.specs.Progress.{IsFirstNamed, HasEnded, IsWaiting, IsBusy, Awaits, rested, rested_in}
use Rattle.world_turns.proofs.AtRest.{awake_of, rest_end, rest_none}
use Rattle.world_turns.proofs.Turning.{own_there, ended_alike, found_set, not_ended}
use Rattle.run_laws.proofs.Trees.{put_same}

-- an actor that waits for no run takes a turn as it is
awake_turn : (w : WorldState) (a : ActorState) → actor_named w.actors a.name ≡ Some a → IsAwake a.phase → turn_with w (Some a) ≡ turn_in w a
awake_turn w a there awake =
    ap (λ x. turn_in (record w { actors = put_actor w.actors x }) x) (ready_else w.actors a awake) ∙ ap (λ as_. turn_in (record w { actors = as_ }) a) (put_same w.actors a there)

-- the world with the actor at rest
abbrev settled : WorldState → ActorState → WorldState
settled w a = record w { actors = put_actor w.actors (at_rest w a) }

settled_is : (w : WorldState) (name : List ℕ) (a : ActorState) → actor_named w.actors name ≡ Some a → rested w name ≡ settled w a
settled_is w name a named = ap (λ o. record w { actors = rested_in w.image w.actors o }) named

settled_own : (w : WorldState) (name : List ℕ) (a : ActorState) → actor_named w.actors name ≡ Some a → actor_named (settled w a).actors (at_rest w a).name ≡ Some (at_rest w a)
settled_own w name a named = named_put w.actors (at_rest w a) a (ap (actor_named w.actors) (at_rest-name w a) ∙ own_there w.actors name a named)

settled_there : (w : WorldState) (name : List ℕ) (a : ActorState) → actor_named w.actors name ≡ Some a → actor_named (settled w a).actors name ≡ Some (at_rest w a)
settled_there w name a named = subst (λ n. actor_named (settled w a).actors n ≡ Some (at_rest w a)) (at_rest-name w a ∙ found_name w.actors name a named) (settled_own w name a named)

settled_ends : (w : WorldState) (name : List ℕ) (a : ActorState) → actor_named w.actors name ≡ Some a → EndAlike (settled w a).actors w.actors
settled_ends w name a named = put_ends w.actors a (at_rest w a) (own_there w.actors name a named) (at_rest-name w a) (rest_end w.image (ready w.actors a) ∙ ready_end w.actors a)

-- its event takes place alike
same_event : (w : WorldState) (a : ActorState) (o : Option Event) → option_map (apply_event (settled w a) (at_rest w a)) o ≡ option_map (apply_event (resumed w a) (at_rest w a)) o
same_event w a None = refl
same_event w a (Some e) =
    let i = w.image in
    let r = at_rest w a in
    let x = takes i r e in
    let now = put_put w.actors r x (takes_name i r e) in
    let was = put_put w.actors (ready w.actors a) x (takes_name i r e ∙ rest-name i (ready w.actors a)) in
    ap (λ (as_ : List ActorState). Some (record { event = e; world = record w { cells = cells_after w.cells e; actors = with_begun as_ (actor_begun i r e) } })) (now ∙ sym was)

same_want : (w : WorldState) (name : List ℕ) (a : ActorState) → actor_named w.actors name ≡ Some a → (o : Option Want) → wanting (settled w a) (at_rest w a) o ≡ wanting (resumed w a) (at_rest w a) o
same_want w name a named None = refl
same_want w name a named (Some q) =
    let r = at_rest w a in
    let now : event_at (settled w a) r q ≡ event_at w r q = ends_event (settled w a) w r q refl (settled_ends w name a named) in
    let was : event_at (resumed w a) r q ≡ event_at w r q = resumed_event w a r q (own_there w.actors name a named) in
    ap (option_map (apply_event (settled w a) r)) (now ∙ sym was) ∙ same_event w a (event_at (resumed w a) r q)

pub rested_turn : (w : WorldState) (name : List ℕ) (a : ActorState) → actor_named w.actors name ≡ Some a → run_awaited (ready w.actors a).phase ≡ None → turn_of (rested w name) name ≡ turn_of w name
unfolding turn_of
rested_turn w name a named none =
    let r = at_rest w a in
    let b = ready w.actors a in
    let v = settled w a in
    let awake : IsAwake r.phase = awake_of r.phase (rest_none w.image b none) in
    ap (λ x. turn_with x (actor_named x.actors name)) (settled_is w name a named)
    ∙ (ap (turn_with v) (settled_there w name a named)
    ∙ (awake_turn v r (settled_own w name a named) awake
    ∙ (ap (λ x. wanting v x (current_want x)) (rest_rest w.image b)
    ∙ (same_want w name a named (current_want r)
    ∙ sym (ap (turn_with w) named)))))

-- at rest it is the same actor
rest_again : (w : WorldState) (name : List ℕ) (a : ActorState) → actor_named w.actors name ≡ Some a → run_awaited (ready w.actors a).phase ≡ None → at_rest (settled w a) (at_rest w a) ≡ at_rest w a
rest_again w name a named none =
    let b = ready w.actors a in
    ap (rest w.image) (ready_else (settled w a).actors (at_rest w a) (awake_of (at_rest w a).phase (rest_none w.image b none))) ∙ rest_rest w.image b

-- resting twice is resting once
pub rested_twice : (w : WorldState) (name : List ℕ) (a : ActorState) → actor_named w.actors name ≡ Some a → run_awaited (ready w.actors a).phase ≡ None → rested (rested w name) name ≡ rested w name
rested_twice w name a named none =
    let r = at_rest w a in
    ap (λ v. rested v name) (settled_is w name a named)
    ∙ (ap (λ o. record w { actors = rested_in w.image (settled w a).actors o }) (settled_there w name a named)
    ∙ (ap (λ x. record w { actors = put_actor (settled w a).actors x }) (rest_again w name a named none)
    ∙ (ap (λ as_. record w { actors = as_ }) (put_put w.actors r r refl)
    ∙ sym (settled_is w name a named))))

one_of : {x y : ActorState} → Some x ≡ Some y → x ≡ y
one_of e = cc

-- and so is its wait
pub rested_waits : (w : WorldState) (name : List ℕ) (a : ActorState) → actor_named w.actors name ≡ Some a → run_awaited (ready w.actors a).phase ≡ None → IsWaiting (rested w name) name → IsWaiting w name
rested_waits w name a named none h0 =
    let h : IsWaiting (settled w a) name = subst (λ v. IsWaiting v name) (settled_is w name a named) h0 in
    let is : h.actor ≡ at_rest w a = one_of (sym h.named ∙ settled_there w name a named) in
    record {
      actor = a;
      number = h.number;
      named = named;
      awaits = subst (λ x. Awaits x h.number) (ap (at_rest (settled w a)) is ∙ rest_again w name a named none) h.awaits;
      not_ended = sym (ended_alike (settled w a).actors w.actors (child_name name h.number) (settled_ends w name a named)) ∙ h.not_ended;
    }

pub rested_busy : (w : WorldState) (name : List ℕ) (a : ActorState) → actor_named w.actors name ≡ Some a → run_awaited (ready w.actors a).phase ≡ None → IsBusy (rested w name) name → IsBusy w name
rested_busy w name a named none h0 =
    let h : IsBusy (settled w a) name = subst (λ v. IsBusy v name) (settled_is w name a named) h0 in
    let is : h.actor ≡ at_rest w a = one_of (sym h.named ∙ settled_there w name a named) in
    record {
      actor = a;
      gate = h.gate;
      run = h.run;
      first = h.first;
      named = named;
      wants = ap (λ (x : ActorState). current_want x) (sym (ap (at_rest (settled w a)) is ∙ rest_again w name a named none)) ∙ h.wants;
      entered = h.entered;
    }

-- the actor at rest is at its index
pub rested_found : (w : WorldState) (name : List ℕ) (index : ℕ) (a : ActorState) → IsFirstNamed w.actors name index a → IsFirstNamed (rested w name).actors name index (at_rest w a)
rested_found w name index a found =
    let own : (at_rest w a).name ≡ name = at_rest-name w a ∙ found_name w.actors name a found.named in
    subst (λ as_. IsFirstNamed as_ name index (at_rest w a)) (sym (ap (λ (v : WorldState). v.actors) (settled_is w name a found.named) ∙ found.put (at_rest w a) own)) (found_set w.actors name index a (at_rest w a) found own)

-- where the actor at an index is put at rest, the world is the one at rest
pub rested_put : (w : WorldState) (name : List ℕ) (index : ℕ) (a : ActorState) → IsFirstNamed w.actors name index a → record w { actors = slice_set w.actors index (at_rest w a) } ≡ rested w name
rested_put w name index a found =
    let own : (at_rest w a).name ≡ name = at_rest-name w a ∙ found_name w.actors name a found.named in
    ap (λ as_. record w { actors = as_ }) (sym (found.put (at_rest w a) own)) ∙ sym (settled_is w name a found.named)

-- one that has not ended has not at rest
pub rested_lives : (w : WorldState) (name : List ℕ) (a : ActorState) → actor_named w.actors name ≡ Some a → has_ended a.phase ≡ false → HasEnded (rested w name).actors name → ⊥
rested_lives w name a named live h =
    not_ended (settled w a).actors name (at_rest w a) (settled_there w name a named) (at_rest-ended w a ∙ live)
    (subst (λ (v : WorldState). HasEnded v.actors name) (settled_is w name a named) h)

-- the actor of the name is at rest there
pub rests_already : (w : WorldState) (name : List ℕ) (a : ActorState) → actor_named w.actors name ≡ Some a → run_awaited (ready w.actors a).phase ≡ None
    → (x : ActorState) → actor_named (rested w name).actors name ≡ Some x → at_rest (rested w name) x ≡ x
rests_already w name a named none x there =
    let here : actor_named (settled w a).actors name ≡ Some x = subst (λ (v : WorldState). actor_named v.actors name ≡ Some x) (settled_is w name a named) there in
    let is : x ≡ at_rest w a = one_of (sym here ∙ settled_there w name a named) in
    ap (λ v. at_rest v x) (settled_is w name a named) ∙ (ap (at_rest (settled w a)) is ∙ (rest_again w name a named none ∙ sym is))
