-- A turn: its actor goes on if it waited for the run of a gate that has ended, and then takes a turn as any other does.

use Rattle.std.proofs.Common.{◌≡◌, ℕ, ◌+◌, List, refl, sym, ap, subst, ◌∙◌, inl, inr}
use Rattle.std.specs.Prelude.{Option, Some, None, option_map, ◌⊎◌}
use Rattle.wedge_base.specs.declared.rights.End.{End}
use Rattle.wedge_events.specs.declared.events.Event.{Event}
use Rattle.machine.specs.declared.phase.Phase.{Phase}
use Rattle.machine.specs.declared.phase.Phase.TheVariants as phase
use Rattle.machine.specs.Actors.{ActorState, answers_more}
use Rattle.machine.specs.Children.{child_name, without_child}
use Rattle.machine.specs.Local.{rest, end_reached, has_ended}
use Rattle.machine.specs.Take.{current_want, end_value, end_number, answered_end}
use Rattle.machine.specs.Worlds.{WorldState, actor_named, ended_with, resumes, ready_at, ready, resumed, turn_with, turn_of}
use Rattle.run_laws.proofs.Between.{TurnParts, parts_wanting}
use Rattle.run_laws.proofs.Named.{named_put, found_name}

-- an actor that goes on from the run of a number, which ended so
abbrev pub back : ActorState → ℕ → End → ℕ → ActorState
back a k e fuel = answers_more (record a { fuel = a.fuel + fuel; unjoined = without_child a.unjoined k }) (end_value e) (end_number e)

-- a run that has ended, for which an actor waits
pub record RunEnded (actors : List ActorState) (a : ActorState) (k : ℕ) : Type 0 where
  pub run : ActorState
  pub how : End
  pub there : actor_named actors (child_name a.name k) ≡ Some run
  pub ended : end_reached run.phase ≡ Some how

-- an actor goes on as it is, or from the run for which it waits
pub data Readies (actors : List ActorState) (a : ActorState) : Type 0 where
  Stays : ready actors a ≡ a → Readies actors a
  Back : (k : ℕ) → a.phase ≡ phase.Waiting k → (r : RunEnded actors a k) → ready actors a ≡ back a k r.how r.run.fuel → Readies actors a

resumed_case : (actors : List ActorState) (a : ActorState) (k : ℕ) (o : Option ActorState) → a.phase ≡ phase.Waiting k → actor_named actors (child_name a.name k) ≡ o → ready actors a ≡ resumes a k (ended_with o) → Readies actors a
resumed_case actors a k None at there is = Stays is
resumed_case actors a k (Some c) at there is = by_end (end_reached c.phase) refl is
  where
    by_end : (e : Option End) → end_reached c.phase ≡ e → ready actors a ≡ resumes a k (option_map (λ x. (x, c.fuel)) e) → Readies actors a
    by_end None e so = Stays so
    by_end (Some e) ended so = Back k at (record { run = c; how = e; there = there; ended = ended }) (so ∙ ap (λ p. answered_end (record a { fuel = a.fuel + c.fuel; unjoined = without_child a.unjoined k }) p e) at)

pub readies : (actors : List ActorState) (a : ActorState) → Readies actors a
readies actors a = by_phase a.phase refl
  where
    by_phase : (p : Phase) → a.phase ≡ p → Readies actors a
    by_phase phase.Running at = Stays (ap (ready_at actors a) at)
    by_phase (phase.Within q) at = Stays (ap (ready_at actors a) at)
    by_phase (phase.Starting pre) at = Stays (ap (ready_at actors a) at)
    by_phase (phase.MakingGate pre) at = Stays (ap (ready_at actors a) at)
    by_phase (phase.Opening slot tag) at = Stays (ap (ready_at actors a) at)
    by_phase (phase.Releasing slot) at = Stays (ap (ready_at actors a) at)
    by_phase (phase.OpeningFile o) at = Stays (ap (ready_at actors a) at)
    by_phase (phase.Entering x) at = Stays (ap (ready_at actors a) at)
    by_phase (phase.Waiting k) at = resumed_case actors a k (actor_named actors (child_name a.name k)) at refl (ap (ready_at actors a) at)
    by_phase (phase.Ending e) at = Stays (ap (ready_at actors a) at)
    by_phase (phase.Ended e) at = Stays (ap (ready_at actors a) at)

-- what holds of an actor as it is, and of it as it goes on from any run, holds of it as it goes on
pub ready_is : (Q : ActorState → Type 0) (actors : List ActorState) (a : ActorState) → Q a → ((k : ℕ) (e : End) (fuel : ℕ) → Q (back a k e fuel)) → Q (ready actors a)
ready_is Q actors a own other = by_case (readies actors a)
  where
    by_case : Readies actors a → Q (ready actors a)
    by_case (Stays is) = subst Q (sym is) own
    by_case (Back k at r is) = subst Q (sym is) (other k r.how r.run.fuel)

pub ready_name : (actors : List ActorState) (a : ActorState) → (ready actors a).name ≡ a.name
ready_name actors a = ready_is (λ x. x.name ≡ a.name) actors a refl (λ k e fuel. refl)

pub ready_sheet : (actors : List ActorState) (a : ActorState) → (ready actors a).sheet ≡ a.sheet
ready_sheet actors a = ready_is (λ x. x.sheet ≡ a.sheet) actors a refl (λ k e fuel. refl)

pub ready_made : (actors : List ActorState) (a : ActorState) → (ready actors a).made ≡ a.made
ready_made actors a = ready_is (λ x. x.made ≡ a.made) actors a refl (λ k e fuel. refl)

-- an actor waits for a run, or for none
pub waits_or : (p : Phase) → ((k : ℕ) × (p ≡ phase.Waiting k)) ⊎ ((k : ℕ) → p ≡ phase.Waiting k → ⊥)
waits_or phase.Running = inr (λ k e. absurd cc)
waits_or (phase.Within q) = inr (λ k e. absurd cc)
waits_or (phase.Starting pre) = inr (λ k e. absurd cc)
waits_or (phase.MakingGate pre) = inr (λ k e. absurd cc)
waits_or (phase.Opening slot tag) = inr (λ k e. absurd cc)
waits_or (phase.Releasing slot) = inr (λ k e. absurd cc)
waits_or (phase.OpeningFile o) = inr (λ k e. absurd cc)
waits_or (phase.Entering x) = inr (λ k e. absurd cc)
waits_or (phase.Waiting k) = inl (k, refl)
waits_or (phase.Ending e) = inr (λ k f. absurd cc)
waits_or (phase.Ended e) = inr (λ k f. absurd cc)

-- one that waits for none goes on as it is
pub ready_else : (actors : List ActorState) (a : ActorState) → ((k : ℕ) → a.phase ≡ phase.Waiting k → ⊥) → ready actors a ≡ a
ready_else actors a none = by_case (readies actors a)
  where
    by_case : Readies actors a → ready actors a ≡ a
    by_case (Stays is) = is
    by_case (Back k at r is) = absurd (none k at)

-- whether it has ended, and how
pub ready_ended : (actors : List ActorState) (a : ActorState) → has_ended (ready actors a).phase ≡ has_ended a.phase
ready_ended actors a = by_case (readies actors a)
  where
    by_case : Readies actors a → has_ended (ready actors a).phase ≡ has_ended a.phase
    by_case (Stays is) = ap (λ (x : ActorState). has_ended x.phase) is
    by_case (Back k at r is) = ap (λ (x : ActorState). has_ended x.phase) is ∙ sym (ap has_ended at)

pub ready_end : (actors : List ActorState) (a : ActorState) → ended_with (Some (ready actors a)) ≡ ended_with (Some a)
ready_end actors a = by_case (readies actors a)
  where
    by_case : Readies actors a → ended_with (Some (ready actors a)) ≡ ended_with (Some a)
    by_case (Stays is) = ap (λ (x : ActorState). ended_with (Some x)) is
    by_case (Back k at r is) = ap (λ (x : ActorState). ended_with (Some x)) is ∙ sym (ap (λ p. option_map (λ e. (e, a.fuel)) (end_reached p)) at)

-- ---- a turn
-- the actor of the name, and its turn in the world in which it has gone on
pub record Turned (w : WorldState) (name : List ℕ) (e : Event) (new : WorldState) : Type 0 where
  pub actor : ActorState
  pub named : actor_named w.actors name ≡ Some actor
  pub parts : TurnParts (resumed w actor) name e new
  pub is : parts.actor ≡ ready w.actors actor

-- the actor that goes on is found under its name
pub ready_named : (w : WorldState) (name : List ℕ) (a : ActorState) → actor_named w.actors name ≡ Some a → actor_named (resumed w a).actors name ≡ Some (ready w.actors a)
ready_named w name a named =
    let own : (ready w.actors a).name ≡ name = ready_name w.actors a ∙ found_name w.actors name a named in
    subst (λ n. actor_named (resumed w a).actors n ≡ Some (ready w.actors a)) own (named_put w.actors (ready w.actors a) a (ap (actor_named w.actors) own ∙ named))

turned : (w : WorldState) (name : List ℕ) (a : ActorState) (e : Event) (new : WorldState) (p : TurnParts (resumed w a) name e new) → actor_named w.actors name ≡ Some a → Turned w name e new
turned w name a e new p named = record { actor = a; named = named; parts = p; is = same_actor }
  where
    same_actor : p.actor ≡ ready w.actors a
    same_actor = let f : Some p.actor ≡ Some (ready w.actors a) = sym p.named ∙ ready_named w name a named in cc

by_actor : (w : WorldState) (name : List ℕ) (o : Option ActorState) (e : Event) (new : WorldState) → actor_named w.actors name ≡ o → turn_with w o ≡ Some (record { event = e; world = new }) → Turned w name e new
by_actor w name None e new named t = absurd cc
by_actor w name (Some a) e new named t =
    let b = ready w.actors a in
    turned w name a e new (parts_wanting (resumed w a) name b (current_want (rest w.image b)) e new (ready_named w name a named) refl t) named

pub turn_from : (w : WorldState) (name : List ℕ) (e : Event) (new : WorldState) → turn_of w name ≡ Some (record { event = e; world = new }) → Turned w name e new
unfolding turn_of
turn_from w name e new t = by_actor w name (actor_named w.actors name) e new refl t
