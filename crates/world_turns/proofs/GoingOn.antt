-- The actor at an index goes on from the run of a gate, if it waited for one.
use Rattle.std.proofs.Common.{◌≡◌, ℕ, ◌+◌, ◌≤◌, Bool, false, List, get_or, sym, ap, subst, ◌∙◌}
use Rattle.std.specs.Prelude.{Option, Some, None, IfSome, IsSomeAnd, slice_get, slice_set}
use Rattle.wedge_base.specs.Images.{Image}
use Rattle.wedge_base.specs.declared.rights.End.{End}
use Rattle.wedge_events.specs.declared.events.LogEntry.{LogEntry}
use Rattle.machine.specs.declared.phase.Phase.{Phase}
use Rattle.machine.specs.declared.phase.Phase.TheVariants as phase
use Rattle.machine.specs.Actors.{ActorState}
use Rattle.machine.specs.Cells.{Cells}
use Rattle.machine.specs.Children.{fuel_given, without_child, child_name}
use Rattle.run_laws.specs.FamilyTrees.{WaitsForOwn, Family}
use Rattle.machine.specs.Local.{has_ended, run_awaited}
use Rattle.machine.specs.Take.{has_joined, answered_end}
use Rattle.machine.specs.Worlds.{actor_named, put_actor, ended_with, resumes, ready_at, ready}
use Rattle.run_laws.proofs.FamilyRuns.{resumed_family}
use Rattle.run_laws.proofs.Named.{found_name}
use Rattle.run_laws.proofs.Turns.{ready_name, ready_ended, ready_else}
use Rattle.run_laws.proofs.Waits.{IsAwake}
use Rattle.world_turns.specs.Progress.{IsFirstNamed, IsRecorded, state_of}
use Rattle.world_turns.specs.Turning.{HasGoneOn, IsAwakeAt, WasTaken, HasWaited, HasMetBusy}
use Rattle.world_turns.proofs.AtRest.{awake_of, recorded_ready}
use Rattle.world_turns.proofs.FamilyTurns.{given_back}
use Rattle.world_turns.proofs.Turning.{own_there, found_set, found_through, set_same, goes_turn, goes_waiting, goes_busy}

-- ---- whether it goes on

-- where it waits
pub waits_at : (p : Phase) (k : ℕ) → Some k ≡ run_awaited p → p ≡ phase.Waiting k
waits_at phase.Running k is = absurd cc
waits_at (phase.Within q) k is = absurd cc
waits_at (phase.Starting pre) k is = absurd cc
waits_at (phase.MakingGate pre) k is = absurd cc
waits_at (phase.Opening slot tag) k is = absurd cc
waits_at (phase.Releasing slot) k is = absurd cc
waits_at (phase.OpeningFile o) k is = absurd cc
waits_at (phase.Entering x) k is = absurd cc
waits_at (phase.Waiting j) k is = cc
waits_at (phase.Ending e) k is = absurd cc
waits_at (phase.Ended e) k is = absurd cc

pub awaited_there : (actors : List ActorState) (index : ℕ) (a : ActorState) (o : Option ℕ) → slice_get actors index ≡ Some a → IfSome (slice_get actors index) (λ x. o ≡ run_awaited x.phase) → o ≡ run_awaited a.phase
awaited_there actors index a o there h = subst (λ x. IfSome x (λ y. o ≡ run_awaited y.phase)) there h

pub ended_there : (actors : List ActorState) (index : ℕ) (a : ActorState) (t : Bool) → slice_get actors index ≡ Some a → IfSome (slice_get actors index) (λ x. t ≡ has_ended x.phase) → t ≡ has_ended a.phase
ended_there actors index a t there h = subst (λ x. IfSome x (λ y. t ≡ has_ended y.phase)) there h

-- one that waits for no run stays as it is
pub stays_awake : (actors : List ActorState) (index : ℕ) (name : List ℕ) (a : ActorState) → IsFirstNamed actors name index a → run_awaited a.phase ≡ None → HasGoneOn actors index name actors
stays_awake actors index name a found none =
    let calm : ready actors a ≡ a = ready_else actors a (awake_of a.phase none) in
    record {
      actor = a;
      found = found;
      awake = ap (λ (x : ActorState). run_awaited x.phase) calm ∙ none;
      new_is = sym (set_same actors index a found.there) ∙ ap (slice_set actors index) (sym calm);
    }

-- one that waits for a run that has ended goes on from it
pub gone_back : (actors : List ActorState) (index : ℕ) (name : List ℕ) (a : ActorState) (k : ℕ) (e : End) (fuel : ℕ) (new : ActorState) → IsFirstNamed actors name index a → a.phase ≡ phase.Waiting k
    → ended_with (actor_named actors (child_name name k)) ≡ Some (e, fuel) → new ≡ has_joined a k e fuel → HasGoneOn actors index name (slice_set actors index new)
gone_back actors index name a k e fuel new found at ends is =
    let own : a.name ≡ name = found_name actors name a found.named in
    let goes : ready actors a ≡ has_joined a k e fuel = ap (ready_at actors a) at ∙ (ap (λ n. resumes a k (ended_with (actor_named actors (child_name n k)))) own ∙ ap (resumes a k) ends) in
    record {
      actor = a;
      found = found;
      awake = ap (λ (x : ActorState). run_awaited x.phase) goes ∙ ap (λ p. run_awaited (answered_end (record a { fuel = a.fuel + fuel; unjoined = without_child a.unjoined k }) p e).phase) at;
      new_is = ap (slice_set actors index) (is ∙ sym goes);
    }

-- the run brings back at most what it was given
pub back_given : (actors : List ActorState) (index : ℕ) (name : List ℕ) (a : ActorState) (k : ℕ) (e : End) (fuel : ℕ) → IsFirstNamed actors name index a → Family actors → a.phase ≡ phase.Waiting k
    → ended_with (actor_named actors (child_name name k)) ≡ Some (e, fuel) → IsSomeAnd (fuel_given a.unjoined k) (λ g. fuel ≤ g)
back_given actors index name a k e fuel found family at ends =
    let own : a.name ≡ name = found_name actors name a found.named in
    given_back actors a k e fuel family (own_there actors name a found.named) (subst (λ p. WaitsForOwn p a.unjoined) at (family.waits name a found.named)) (ap (λ n. ended_with (actor_named actors (child_name n k))) own ∙ ends)

-- ---- what follows

-- the actor that is read at its index, awake
pub record ReadsAwake (cells : Cells) (items : List ActorState) (name : List ℕ) (index : ℕ) (a : ActorState) : Type 0 where
  pub found : IsFirstNamed items name index a
  pub lives : has_ended a.phase ≡ false
  pub awake : IsAwake a.phase
  pub family : Family items
  pub recorded : IsRecorded cells a

pub reads_awake : (cells : Cells) (items actors : List ActorState) (index : ℕ) (name : List ℕ) (a : ActorState) → items ≡ actors → IsAwakeAt cells actors index name → a ≡ get_or items index a → ReadsAwake cells items name index a
reads_awake cells items actors index name a same h value =
    let found = found_through items actors name index a same (h.actor, h.found) value in
    let is : h.actor ≡ a = one_of (sym h.found.there ∙ (ap (λ as_. slice_get as_ index) (sym same) ∙ found.there)) in
    record {
      found = found;
      lives = subst (λ (x : ActorState). has_ended x.phase ≡ false) is h.lives;
      awake = awake_of a.phase (subst (λ (x : ActorState). run_awaited x.phase ≡ None) is h.awake);
      family = subst Family (sym same) h.family;
      recorded = subst (IsRecorded cells) is h.recorded;
    }
  where
    one_of : {x y : ActorState} → Some x ≡ Some y → x ≡ y
    one_of e = cc

-- it is awake then, at its index, and the family is kept
pub gone_on : (i : Image) (cells : Cells) (actors : List ActorState) (index : ℕ) (name : List ℕ) (new : List ActorState) (h : HasGoneOn actors index name new) → Family actors → IsRecorded cells h.actor → has_ended h.actor.phase ≡ false
    → IsAwakeAt cells new index name
gone_on i cells actors index name new h f recorded lives =
    let a = h.actor in
    let b = ready actors a in
    let own : b.name ≡ name = ready_name actors a ∙ found_name actors name a h.found.named in
    let at = found_set actors name index a b h.found own in
    let put = h.found.put b own in
    subst (λ as_. IsAwakeAt cells as_ index name) (sym h.new_is)
    (record {
      actor = b;
      found = at;
      lives = ready_ended actors a ∙ lives;
      awake = h.awake;
      family = subst Family put (resumed_family (state_of i cells actors) name a f h.found.named);
      recorded = recorded_ready cells actors a recorded;
    })

put_is : (actors : List ActorState) (index : ℕ) (name : List ℕ) (mid : List ActorState) (h : HasGoneOn actors index name mid) → mid ≡ put_actor actors (ready actors h.actor)
put_is actors index name mid h = h.new_is ∙ sym (h.found.put (ready actors h.actor) (ready_name actors h.actor ∙ found_name actors name h.actor h.found.named))

-- a turn then is one of the actor as it was
pub goes_taken : (i : Image) (cells new_cells : Cells) (actors mid new : List ActorState) (index : ℕ) (name : List ℕ) (entries new_entries : List LogEntry) → HasGoneOn actors index name mid
    → WasTaken i cells mid entries name new_cells new new_entries → WasTaken i cells actors entries name new_cells new new_entries
goes_taken i cells new_cells actors mid new index name entries new_entries h taken =
    let put = put_is actors index name mid h in
    let t = subst (λ as_. WasTaken i cells as_ entries name new_cells new new_entries) put taken in
    record {
      event = t.event;
      turn = goes_turn i cells actors name h.actor t.event (state_of i new_cells new) h.found.named (awake_of (ready actors h.actor).phase h.awake) t.turn;
      noted = t.noted;
    }

-- and so is a wait
pub goes_waited : (i : Image) (cells new_cells : Cells) (actors mid new : List ActorState) (index : ℕ) (name : List ℕ) → HasGoneOn actors index name mid
    → HasWaited i cells mid name new_cells new → HasWaited i cells actors name new_cells new
goes_waited i cells new_cells actors mid new index name h waited =
    goes_waiting i cells new_cells actors new name h.actor h.found.named (awake_of (ready actors h.actor).phase h.awake) (subst (λ as_. HasWaited i cells as_ name new_cells new) (put_is actors index name mid h) waited)

pub goes_met : (i : Image) (cells new_cells : Cells) (actors mid new : List ActorState) (index : ℕ) (name : List ℕ) → HasGoneOn actors index name mid
    → HasMetBusy i cells mid name new_cells new → HasMetBusy i cells actors name new_cells new
goes_met i cells new_cells actors mid new index name h met =
    goes_busy i cells new_cells actors new name h.actor h.found.named (awake_of (ready actors h.actor).phase h.awake) (subst (λ as_. HasMetBusy i cells as_ name new_cells new) (put_is actors index name mid h) met)
