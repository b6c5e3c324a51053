-- An actor of a run that lives has a turn, unless it awaits a child or a run that has not ended, or is to enter a recycled gate in
-- which a run is.
use Rattle.std.proofs.Common.{◌≡◌, ℕ, ◌+◌, ◌<◌, Bool, true, false, true≢false, List, [], ◌∷◌, length, refl, sym, ap, ◌∙◌, arith, inl, inr}
use Rattle.std.specs.Prelude.{Option, Some, None, is_some, option_map, if◌then◌else◌}
use Rattle.wedge_base.specs.declared.grants.GateId.{GateId}
use Rattle.wedge_base.specs.declared.rights.End.{End}
use Rattle.wedge_events.specs.declared.cells.GateAsk.TheVariants as gate_ask
use Rattle.wedge_events.specs.declared.events.Ask.TheVariants as ask
use Rattle.wedge_events.specs.declared.events.Event.{Event}
use Rattle.wedge_events.specs.declared.events.Event.TheVariants as event
use Rattle.wedge_events.specs.declared.events.Want.{Want}
use Rattle.wedge_events.specs.declared.events.Want.TheVariants as want
use Rattle.cow_pages.specs.PrivateMemory.{PrivateMemory}
use Rattle.machine.specs.declared.copy_grant.CopyGrant.{CopyGrant}
use Rattle.machine.specs.declared.phase.Phase.{Phase}
use Rattle.machine.specs.declared.phase.Phase.TheVariants as phase
use Rattle.machine.specs.Actors.{ActorState}
use Rattle.machine.specs.Children.{child_name, without_child}
use Rattle.machine.specs.Local.{has_ended, is_running, run_awaited}
use Rattle.machine.specs.Take.{current_want, wanted_at, making_want, answered_end, has_joined}
use Rattle.machine.specs.Cells.{event_of, kept_in}
use Rattle.machine.specs.Worlds.{WorldState, Taken, actor_named, apply_event, ended_with, join_event, event_at, wanting, resumes, ready_at, ready, resumed, turn_with, turn_of, is_ended, at_rest}
use Rattle.machine.proofs.Resting.{rest-name, rest-stops, rest-uncalm}
use Rattle.run_laws.proofs.Meeting.{ReadsAs}
use Rattle.run_laws.proofs.Named.{found_name}
use Rattle.run_laws.proofs.Settling.{AllReady, named_ready, turned_there, at_rest-ended}
use Rattle.run_laws.proofs.Trees.{IsPut, found_else, child_apart}
use Rattle.run_laws.proofs.Turns.{Readies, Stays, Back, readies, ready_name}
use Rattle.world_turns.specs.Progress.{IsWaiting, IsBusy}
use Rattle.world_turns.proofs.AtRest.{ended_is}

-- what becomes of the turn of an actor that lives
pub data MayTurn (w : WorldState) (name : List ℕ) : Type 0 where
  HasTurn : (t : Taken) → turn_of w name ≡ Some t → MayTurn w name
  Awaiting : IsWaiting w name → MayTurn w name
  AtBusy : IsBusy w name → MayTurn w name

turn_is : (w : WorldState) (name : List ℕ) (a : ActorState) → actor_named w.actors name ≡ Some a → turn_of w name ≡ wanting (resumed w a) (at_rest w a) (current_want (at_rest w a))
unfolding turn_of
turn_is w name a named = ap (turn_with w) named

-- a join that can't be is of one that has not ended
no_join : (k : ℕ) (o : Option ActorState) → join_event k o ≡ None → is_ended o ≡ false
no_join k o none = by_option (ended_with o) refl none
  where
    by_option : (x : Option (End × ℕ)) → ended_with o ≡ x → option_map (λ (y : End × ℕ). event.Join k y.0 y.1) x ≡ None → is_ended o ≡ false
    by_option None is h = sym (ended_is o) ∙ ap is_some is
    by_option (Some y) is h = absurd cc

makes_some : {X : Type 0} (gs : List CopyGrant) → 0 < length gs → making_want gs ≡ None → X
makes_some [] some none = absurd (omega (arith, some))
makes_some (g ∷ gs) some none = absurd cc

-- an actor that goes on from a run waits for none
goes_from : {X : Type 0} (w : WorldState) (a : ActorState) (k : ℕ) (e : End) (fuel : ℕ) → a.phase ≡ phase.Waiting k → ended_with (actor_named w.actors (child_name a.name k)) ≡ Some (e, fuel)
    → (ready w.actors a).phase ≡ phase.Waiting k → X
goes_from w a k e fuel at ends waits =
    let goes : ready w.actors a ≡ has_joined a k e fuel = ap (ready_at w.actors a) at ∙ ap (resumes a k) ends in
    let none : run_awaited (ready w.actors a).phase ≡ None =
    ap (λ (x : ActorState). run_awaited x.phase) goes ∙ ap (λ p. run_awaited (answered_end (record a { fuel = a.fuel + fuel; unjoined = without_child a.unjoined k }) p e).phase) at in
    let some : Some k ≡ None = sym (ap run_awaited waits) ∙ none in
    absurd cc

module _ (w : WorldState) (name : List ℕ) (a : ActorState) (named : actor_named w.actors name ≡ Some a) where
  abbrev rested : ActorState
  rested = at_rest w a

  -- others are found in a world in which it has gone on as they were before
  found_still : (k : ℕ) → is_ended (actor_named w.actors (child_name name k)) ≡ is_ended (actor_named (resumed w a).actors (child_name rested.name k))
  found_still k =
      let own : a.name ≡ name = found_name w.actors name a named in
      let put : IsPut w.actors a (ready w.actors a) = record { name = ready_name w.actors a; there = turned_there w name a named } in
      let kept : rested.name ≡ a.name = rest-name w.image (ready w.actors a) ∙ ready_name w.actors a in
      ap (λ n. is_ended (actor_named w.actors (child_name n k))) (sym own)
      ∙ (ap is_ended (sym (found_else w.actors a (ready w.actors a) (child_name a.name k) put (child_apart a.name k)))
      ∙ ap (λ n. is_ended (actor_named (resumed w a).actors (child_name n k))) (sym kept))

  at_busy : (id : GateId) (run : List ℕ) (first : PrivateMemory) (t : Bool) → (kept_in w.cells id).entered ≡ t → current_want rested ≡ Some (want.Gate id (gate_ask.Enter run first))
      → (if t then None else event_of w.cells (ask.Gate id (gate_ask.Enter run first))) ≡ None → MayTurn w name
  at_busy id run first true e wants none = AtBusy (record { actor = a; gate = id; run = run; first = first; named = named; wants = wants; entered = e })
  at_busy id run first false e wants none = absurd cc

  -- what it wants can't be now
  none_at : (q : Want) → current_want rested ≡ Some q → event_at (resumed w a) rested q ≡ None → MayTurn w name
  none_at (want.Slots q) wants none = absurd cc
  none_at (want.Slot slot q) wants none = absurd cc
  none_at (want.Fds q) wants none = absurd cc
  none_at (want.Fd fd q) wants none = absurd cc
  none_at (want.Lives q) wants none = absurd cc
  none_at (want.Start child) wants none = absurd cc
  none_at (want.Enter run) wants none = absurd cc
  none_at (want.Leave e) wants none = absurd cc
  none_at (want.Gate id (gate_ask.Leave e memory)) wants none = absurd cc
  none_at (want.Gate id (gate_ask.Enter run first)) wants none = at_busy id run first (kept_in w.cells id).entered refl wants none
  none_at (want.Join k) wants none = Awaiting (record {
    actor = a;
    number = k;
    named = named;
    awaits = inl wants;
    not_ended = found_still k ∙ no_join k (actor_named (resumed w a).actors (child_name rested.name k)) none;
  })

  -- it waits for the run of a gate
  waits_at : (k : ℕ) → rested.phase ≡ phase.Waiting k → MayTurn w name
  waits_at k at = by_case (readies w.actors a)
    where
      before : (ready w.actors a).phase ≡ phase.Waiting k
      before = rest-uncalm w.image (ready w.actors a) (phase.Waiting k) (λ h. h) at

      by_end : a.phase ≡ phase.Waiting k → (x : Option (End × ℕ)) → ended_with (actor_named w.actors (child_name a.name k)) ≡ x → MayTurn w name
      by_end waits None is = Awaiting (record {
        actor = a;
        number = k;
        named = named;
        awaits = inr at;
        not_ended = ap (λ n. is_ended (actor_named w.actors (child_name n k))) (sym (found_name w.actors name a named)) ∙ (sym (ended_is (actor_named w.actors (child_name a.name k))) ∙ ap is_some is);
      })
      by_end waits (Some x) is = goes_from w a k x.0 x.1 waits is before

      by_case : Readies w.actors a → MayTurn w name
      by_case (Stays is) = by_end (ap (λ (x : ActorState). x.phase) (sym is) ∙ before) (ended_with (actor_named w.actors (child_name a.name k))) refl
      by_case (Back j since r is) = let f : phase.Running ≡ phase.Waiting k = ap (λ (x : ActorState). x.phase) (sym is) ∙ before in absurd cc

  -- it wants nothing
  none_wanted : (p : Phase) → rested.phase ≡ p → wanted_at rested p ≡ None → ReadsAs w.image rested p → has_ended rested.phase ≡ false → MayTurn w name
  none_wanted phase.Running at none reads live = absurd (true≢false (sym (ap is_running at) ∙ rest-stops w.image (ready w.actors a)))
  none_wanted (phase.Within q) at none reads live = absurd cc
  none_wanted (phase.Starting pre) at none reads live = absurd cc
  none_wanted (phase.MakingGate pre) at none reads live = makes_some pre.left reads.some none
  none_wanted (phase.Opening slot tag) at none reads live = absurd cc
  none_wanted (phase.Releasing slot) at none reads live = absurd cc
  none_wanted (phase.Entering x) at none reads live = absurd cc
  none_wanted (phase.Waiting k) at none reads live = waits_at k at
  none_wanted (phase.OpeningFile o) at none reads live = absurd cc
  none_wanted (phase.Ending e) at none reads live = absurd cc
  none_wanted (phase.Ended e) at none reads live = absurd (true≢false (sym (ap has_ended at) ∙ live))

  by_event : (q : Want) → current_want rested ≡ Some q → (o : Option Event) → event_at (resumed w a) rested q ≡ o → MayTurn w name
  by_event q wants None is = none_at q wants is
  by_event q wants (Some e) is =
      HasTurn (apply_event (resumed w a) rested e) (turn_is w name a named ∙ (ap (wanting (resumed w a) rested) wants ∙ ap (option_map (apply_event (resumed w a) rested)) is))

  by_want : (o : Option Want) → current_want rested ≡ o → AllReady w → has_ended a.phase ≡ false → MayTurn w name
  by_want None none all live = none_wanted rested.phase refl none (named_ready w name a all named) (at_rest-ended w a ∙ live)
  by_want (Some q) wants all live = by_event q wants (event_at (resumed w a) rested q) refl

pub turning : (w : WorldState) (name : List ℕ) (a : ActorState) → actor_named w.actors name ≡ Some a → AllReady w → has_ended a.phase ≡ false → MayTurn w name
turning w name a named all live = by_want w name a named (current_want (at_rest w a)) refl all live
