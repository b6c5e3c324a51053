-- The actors of a world of which one goes on, or comes to rest.

use Rattle.std.proofs.Common.{◌≡◌, ℕ, Bool, true, false, true≢false, List, refl, sym, ap, subst, ◌∙◌, arith, inl, inr}
use Rattle.std.specs.Prelude.{Option, Some, None, is_some, option_map, ◌⊎◌}
use Rattle.wedge_base.specs.Images.{Image}
use Rattle.wedge_base.specs.declared.grants.GateId.{GateId}
use Rattle.wedge_base.specs.declared.rights.End.{End}
use Rattle.machine.specs.declared.phase.Phase.{Phase}
use Rattle.machine.specs.declared.phase.Phase.TheVariants as phase
use Rattle.machine.specs.Actors.{ActorState}
use Rattle.machine.specs.Cells.{Cells, kept_in}
use Rattle.run_laws.specs.FamilyTrees.{Family}
use Rattle.machine.specs.Local.{rest, is_running, has_ended, end_reached, run_awaited}
use Rattle.run_laws.specs.RecycledGates.{IsInside}
use Rattle.machine.specs.Worlds.{WorldState, actor_named, put_actor, is_ended, ended_with, ready, resumed, at_rest, all_at_rest}
use Rattle.run_laws.proofs.FamilyKept.{family_alone}
use Rattle.run_laws.proofs.FamilyRuns.{kept_at_rest, rest_units, resumed_family}
use Rattle.run_laws.proofs.Named.{put_put, found_name}
use Rattle.machine.proofs.Resting.{rest-name, rest-ended, rest-stays, rest-uncalm, ended-stays, rests}
use Rattle.run_laws.proofs.Settling.{none_ended, at_rest-ended, settled_named}
use Rattle.run_laws.proofs.Turns.{ready_named, ready_ended, ready_is, waits_or}
use Rattle.run_laws.proofs.Waits.{IsAwake, waits_none}
use Rattle.world_turns.specs.Progress.{IsRecorded, AreRecorded}

pub unjoined_at_rest : (i : Image) (a : ActorState) → (rest i a).unjoined ≡ a.unjoined
unjoined_at_rest i a = (kept_at_rest i a (is_running a.phase) refl).unjoined

-- ---- who waits for no run
pub awake_of : (p : Phase) → run_awaited p ≡ None → IsAwake p
awake_of p none k is = let f : Some k ≡ None = sym (ap run_awaited is) ∙ none in absurd cc

pub none_awaited : (p : Phase) → IsAwake p → run_awaited p ≡ None
none_awaited phase.Running h = refl
none_awaited (phase.Within q) h = refl
none_awaited (phase.Starting pre) h = refl
none_awaited (phase.MakingGate pre) h = refl
none_awaited (phase.Opening slot tag) h = refl
none_awaited (phase.Releasing slot) h = refl
none_awaited (phase.OpeningFile o) h = refl
none_awaited (phase.Entering x) h = refl
none_awaited (phase.Waiting k) h = absurd (h k refl)
none_awaited (phase.Ending e) h = refl
none_awaited (phase.Ended e) h = refl

pub rests_awake : (i : Image) (a : ActorState) → IsAwake a.phase → IsAwake (rest i a).phase
rests_awake i a h k is = h k (rest-uncalm i a (phase.Waiting k) (λ x. x) is)

pub rest_none : (i : Image) (a : ActorState) → run_awaited a.phase ≡ None → run_awaited (rest i a).phase ≡ None
rest_none i a none = none_awaited (rest i a).phase (rests_awake i a (awake_of a.phase none))

-- ---- who has ended
pub ended_is : (o : Option ActorState) → is_some (ended_with o) ≡ is_ended o
ended_is None = refl
ended_is (Some c) = by_phase c.phase
  where
    by_phase : (p : Phase) → is_some (option_map {U = End × ℕ} (λ (e : End). (e, c.fuel)) (end_reached p)) ≡ has_ended p
    by_phase phase.Running = refl
    by_phase (phase.Within q) = refl
    by_phase (phase.Starting pre) = refl
    by_phase (phase.MakingGate pre) = refl
    by_phase (phase.Opening slot tag) = refl
    by_phase (phase.Releasing slot) = refl
    by_phase (phase.OpeningFile o) = refl
    by_phase (phase.Entering x) = refl
    by_phase (phase.Waiting k) = refl
    by_phase (phase.Ending e) = refl
    by_phase (phase.Ended e) = refl

pub none_with : (o : Option ActorState) → is_ended o ≡ false → ended_with o ≡ None
none_with o e = by_option (ended_with o) refl
  where
    by_option : (x : Option (End × ℕ)) → ended_with o ≡ x → ended_with o ≡ None
    by_option None is = is
    by_option (Some y) is = absurd (true≢false (sym (ap is_some is) ∙ (ended_is o ∙ e)))

pub rest_end : (i : Image) (a : ActorState) → ended_with (Some (rest i a)) ≡ ended_with (Some a)
rest_end i a = by_end (has_ended a.phase) refl
  where
    by_end : (t : Bool) → has_ended a.phase ≡ t → ended_with (Some (rest i a)) ≡ ended_with (Some a)
    by_end true e = ap (λ x. ended_with (Some x)) (ended-stays i a e)
    by_end false e = none_ended (rest i a) (rest-ended i a ∙ e) ∙ sym (none_ended a e)

-- ---- what holds of the actors of every run
pub family_rests : (i : Image) (actors : List ActorState) (a : ActorState) → Family actors → actor_named actors a.name ≡ Some a → has_ended a.phase ≡ false → IsAwake a.phase → Family (put_actor actors (rest i a))
family_rests i actors a f there live awake =
    let k = kept_at_rest i a (is_running a.phase) refl in
    let units = rest_units i a in
    family_alone actors a (rest i a) f (record { name = rest-name i a; there = there }) live k.starts k.unjoined (omega (arith, units)) (waits_none (rest i a).phase (rest i a).unjoined (rests_awake i a awake))

-- where one has gone on and come to rest
pub family_at_rest : (w : WorldState) (name : List ℕ) (a : ActorState) → Family w.actors → actor_named w.actors name ≡ Some a → has_ended a.phase ≡ false → Family (put_actor w.actors (at_rest w a))
family_at_rest w name a f named live = by_phase (waits_or b.phase)
  where
    b : ActorState
    b = ready w.actors a

    goes : Family (resumed w a).actors
    goes = resumed_family w name a f named

    there : actor_named (resumed w a).actors b.name ≡ Some b
    there = subst (λ n. actor_named (resumed w a).actors n ≡ Some b) (found (resumed w a).actors name b (ready_named w name a named)) (ready_named w name a named)
      where
        found : (actors : List ActorState) (n : List ℕ) (c : ActorState) → actor_named actors n ≡ Some c → n ≡ c.name
        found actors n c e = sym (found_name actors n c e)

    by_phase : ((k : ℕ) × (b.phase ≡ phase.Waiting k)) ⊎ ((k : ℕ) → b.phase ≡ phase.Waiting k → ⊥) → Family (put_actor w.actors (at_rest w a))
    by_phase (inl (k, at)) = subst (λ x. Family (put_actor w.actors x)) (sym (rest-stays w.image b (ap is_running at))) goes
    by_phase (inr awake) = subst Family (put_put w.actors b (rest w.image b) (rest-name w.image b)) (family_rests w.image (resumed w a).actors b goes there (ready_ended w.actors a ∙ live) awake)

-- ---- who is in a recycled gate is in it still
inside_back : (a b : ActorState) (id : GateId) → b.run_of ≡ a.run_of → has_ended b.phase ≡ has_ended a.phase → IsInside id b → IsInside id a
inside_back a b id run_of ended h = record { gate = h.gate; own = sym run_of ∙ h.own; recycled = h.recycled; named = h.named; live = sym ended ∙ h.live }

rest_run_of : (i : Image) (a : ActorState) → (rest i a).run_of ≡ a.run_of
rest_run_of i a = by_run (is_running a.phase) refl
  where
    by_run : (t : Bool) → is_running a.phase ≡ t → (rest i a).run_of ≡ a.run_of
    by_run true e = (rests i a e).run_of
    by_run false e = ap (λ (x : ActorState). x.run_of) (rest-stays i a e)

ready_run_of : (actors : List ActorState) (a : ActorState) → (ready actors a).run_of ≡ a.run_of
ready_run_of actors a = ready_is (λ x. x.run_of ≡ a.run_of) actors a refl (λ k e fuel. refl)

pub recorded_at_rest : (c : Cells) (i : Image) (a : ActorState) → IsRecorded c a → IsRecorded c (rest i a)
recorded_at_rest c i a recorded id h = recorded id (inside_back a (rest i a) id (rest_run_of i a) (rest-ended i a) h)

pub recorded_ready : (c : Cells) (actors : List ActorState) (a : ActorState) → IsRecorded c a → IsRecorded c (ready actors a)
recorded_ready c actors a recorded id h = recorded id (inside_back a (ready actors a) id (ready_run_of actors a) (ready_ended actors a) h)

-- so it is in every world that differs from one of a run in local events alone
at_rest_inside : (w : WorldState) (a : ActorState) (id : GateId) → IsInside id a → IsInside id (at_rest w a)
at_rest_inside w a id h = record {
  gate = h.gate;
  own = (rest_run_of w.image (ready w.actors a) ∙ ready_run_of w.actors a) ∙ h.own;
  recycled = h.recycled;
  named = h.named;
  live = at_rest-ended w a ∙ h.live;
}

at_rest_back : (w : WorldState) (a : ActorState) (id : GateId) → IsInside id (at_rest w a) → IsInside id a
at_rest_back w a id h = inside_back a (at_rest w a) id (rest_run_of w.image (ready w.actors a) ∙ ready_run_of w.actors a) (at_rest-ended w a) h

pub recorded_alike : (v w : WorldState) → all_at_rest v ≡ all_at_rest w → AreRecorded w.cells w.actors → AreRecorded v.cells v.actors
recorded_alike v w alike recorded name a named id h =
    ap (λ (x : WorldState). (kept_in x.cells id).entered) alike
    ∙ by_other (actor_named w.actors name) refl
  where
    here : option_map (at_rest w) (actor_named w.actors name) ≡ Some (at_rest v a)
    here = sym (settled_named w name) ∙ (ap (λ (x : WorldState). actor_named x.actors name) (sym alike) ∙ (settled_named v name ∙ ap (option_map (at_rest v)) named))

    by_other : (o : Option ActorState) → actor_named w.actors name ≡ o → (kept_in w.cells id).entered ≡ true
    by_other None none = let f : None ≡ Some (at_rest v a) = sym (ap (option_map (at_rest w)) none) ∙ here in absurd cc
    by_other (Some b) there =
        let two : Some (at_rest w b) ≡ Some (at_rest v a) = sym (ap (option_map (at_rest w)) there) ∙ here in
        let one : at_rest w b ≡ at_rest v a = cc in
        recorded name b there id (at_rest_back w b id (subst (IsInside id) (sym one) (at_rest_inside v a id h)))
