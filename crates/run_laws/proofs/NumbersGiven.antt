-- A claim of a slot takes a unit of fuel at least, so an image's fuel bounds the numbers that its tags are given.
use Rattle.std.proofs.Common.{◌≡◌, ℕ, ◌+◌, ◌≤◌, Bool, true, false, List, [], ◌∷◌, refl, sym, ap, subst, ◌∙◌, arith, inl, inr}
use Rattle.std.specs.Prelude.{Option, Some, None, nat_lt, if◌then◌else◌}
use Rattle.wedge_base.specs.Images.{Image}
use Rattle.wedge_base.specs.Names.{same, root_name}
use Rattle.wedge_events.specs.Directories.{Directory, no_number, claim_from, claim_next, release, is_claimed, directory_next}
use Rattle.wedge_events.specs.declared.cells.DirectoryAsk.TheVariants as directory_ask
use Rattle.wedge_events.specs.declared.events.Event.{Event}
use Rattle.wedge_events.specs.declared.events.Want.{Want}
use Rattle.wedge_events.specs.declared.events.Want.TheVariants as want
use Rattle.machine.specs.declared.phase.Phase.TheVariants as phase
use Rattle.machine.specs.Actors.{ActorState, root}
use Rattle.machine.specs.Children.{child_name}
use Rattle.machine.specs.Local.{is_running, rest}
use Rattle.machine.specs.Take.{next_start, takes, actor_begun, child_of, run_by}
use Rattle.machine.specs.Cells.{cells_after}
use Rattle.run_laws.specs.Fuel.{fuel_of, units_of, units_of_turn}
use Rattle.run_laws.specs.FamilyTrees.{Family}
use Rattle.run_laws.specs.Occupancy.{most_numbers}
use Rattle.machine.specs.Worlds.{WorldState, initial_state, actor_named, put_actor, with_begun, turn_of, ready, resumed}
use Rattle.run_laws.proofs.Between.{event_for, takes_between, takes_name}
use Rattle.run_laws.proofs.FamilyRuns.{Acts, ActsAlone, Starts, Enters, Joins, acts, one_begins, rest_units, turn_keeps, turn_family, opening_family}
use Rattle.run_laws.proofs.Happening.{Happens, Requested, Joined, Snaps, GateSnaps, Started, Opens, Releases, Numbers, OpensFile, LastJoined, Ended, EntersGate, LeavesGate, EntersRecycled, LeavesRecycled}
use Rattle.run_laws.proofs.Meeting.{IsRequest}
use Rattle.run_laws.proofs.Settling.{AllReady, turn_happens, turned_there}
use Rattle.run_laws.proofs.Trees.{IsPut, find_put, IsDoer, IsOther, found_or_last}
use Rattle.run_laws.proofs.Turns.{Stays, Back, readies, ready_name, Turned, turn_from}
use Rattle.run_laws.proofs.WorkLeft.{NotWithin, leaves_none, paid_within}
use Rattle.machine.proofs.Resting.{rests, rest-stays, rest-name}

-- ---- between turns no actor is within a call that wants one event

abbrev pub NoneWithin : List ActorState → Type 0
NoneWithin actors = (m : List ℕ) (x : ActorState) → actor_named actors m ≡ Some x → NotWithin x.phase

none_put : (actors : List ActorState) (a x : ActorState) → IsPut actors a x → NotWithin x.phase → NoneWithin actors → NoneWithin (put_actor actors x)
none_put actors a x p own h m y found = elim (find_put actors a x m y p found) [
  | IsDoer at one ↦ subst (λ (z : ActorState). NotWithin z.phase) (sym one) own
  | IsOther apart was ↦ h m y was
]

none_begun : (actors : List ActorState) (o : Option ActorState) → ((c : ActorState) → o ≡ Some c → NotWithin c.phase) → NoneWithin actors → NoneWithin (with_begun actors o)
none_begun actors None begins h m y found = h m y found
none_begun actors (Some c) begins h m y found = elim (found_or_last actors c m y found) [
  | inl was ↦ h m y was
  | inr one ↦ subst (λ (z : ActorState). NotWithin z.phase) (sym one) (begins c refl)
]

-- whoever begins runs
begun_runs : (w : WorldState) (b : ActorState) (e : Event) (c : ActorState) → Acts w b e → actor_begun w.image b e ≡ Some c → NotWithin c.phase
begun_runs w b e c (ActsAlone one) begins = let none : None ≡ Some c = sym (one_begins w.image b e one) ∙ begins in absurd cc
begun_runs w b e c (Starts s) begins =
    let two : Some (child_of w.image b (child_name b.name (next_start b))) ≡ Some c = sym (ap (actor_begun w.image b) s.is) ∙ begins in
    let one : child_of w.image b (child_name b.name (next_start b)) ≡ c = cc in
    subst (λ (z : ActorState). NotWithin z.phase) one tt
begun_runs w b e c (Enters y) begins =
    let two : Some (run_by b (child_name b.name (next_start b)) y.kept y.entrance) ≡ Some c = sym y.begins ∙ begins in
    let one : run_by b (child_name b.name (next_start b)) y.kept y.entrance ≡ c = cc in
    subst (λ (z : ActorState). NotWithin z.phase) one tt
begun_runs w b e c (Joins k listed j) begins = let none : None ≡ Some c = sym (ap (actor_begun w.image b) j.is) ∙ begins in absurd cc

ready_runs : (actors : List ActorState) (a : ActorState) → NotWithin a.phase → NotWithin (ready actors a).phase
ready_runs actors a h = elim (readies actors a) [
  | Stays is ↦ subst (λ (z : ActorState). NotWithin z.phase) (sym is) h
  | Back k at r is ↦ subst (λ (z : ActorState). NotWithin z.phase) (sym is) tt
]

turn_none : (w : WorldState) (name : List ℕ) (e : Event) (new : WorldState) → AllReady w → (p : Turned w name e new) → NoneWithin w.actors → NoneWithin new.actors
turn_none w name e new all p h =
    let v = resumed w p.actor in
    let a = p.parts.actor in
    let b = rest w.image a in
    let x = takes w.image b e in
    let happens = turn_happens w name e new all p in
    let was = turned_there w name p.actor p.named in
    let goes : NoneWithin v.actors =
    none_put w.actors p.actor (ready w.actors p.actor) (record { name = ready_name w.actors p.actor; there = was }) (ready_runs w.actors p.actor (h p.actor.name p.actor was)) h in
    let put : IsPut v.actors a x = record { name = takes_name w.image b e ∙ rest-name w.image a; there = turned_there v name a p.parts.named } in
    let after = none_put v.actors a x put (leaves_none e x.phase (takes_between w.image b e)) goes in
    subst (λ (z : WorldState). NoneWithin z.actors) (sym p.parts.new_is) (none_begun (put_actor v.actors x) (actor_begun w.image b e) (λ c begins. begun_runs v b e c (acts v b e happens) begins) after)

-- ---- an actor that comes to what it wants has paid a unit for it

paid_to_want : (i : Image) (a : ActorState) (q : Want) (t : Bool) → is_running a.phase ≡ t → NotWithin a.phase → (rest i a).phase ≡ phase.Within q → 1 ≤ units_of i (a.fuel + 1) a
paid_to_want i a q true e none at =
    let less = paid_within a.fuel (rest i a).fuel (rest i a).phase q at (rests i a e).paid in
    let units = rest_units i a in
    omega (arith, less, units)
paid_to_want i a q false e none at = absurd (subst NotWithin (sym (ap (λ (x : ActorState). x.phase) (rest-stays i a e)) ∙ at) none)

-- ---- numbers

claimed_number : (d : Directory) → (directory_next d directory_ask.Claim).number ≤ d.number + 1
claimed_number d = by_claim (nat_lt d.number no_number)
  where
    by_unused : (t : Bool) → (claim_next d (if t then Some (record { place = d.unused; left = record d { number = d.number + 1; unused = d.unused + 1 } }) else None)).number ≤ d.number + 1
    by_unused true = omega arith
    by_unused false = omega arith

    by_released : (ps : List ℕ) → (claim_next d (claim_from d ps)).number ≤ d.number + 1
    by_released [] = by_unused (nat_lt d.unused d.places)
    by_released (p ∷ ps) = omega arith

    by_claim : (t : Bool) → (claim_next d (if t then claim_from d d.released else None)).number ≤ d.number + 1
    by_claim true = by_released d.released
    by_claim false = omega arith

pub released_number : (d : Directory) (slot : ℕ) → (release d slot).number ≡ d.number
released_number d slot = by_test (is_claimed d slot)
  where
    by_test : (t : Bool) → (if t then record d { released = slot ∷ d.released } else d).number ≡ d.number
    by_test true = refl
    by_test false = refl

-- how many numbers of tags were given
abbrev given : WorldState → Event → ℕ
given w e = (cells_after w.cells e).places.number

alike : (w : WorldState) (e x : Event) (units : ℕ) → e ≡ x → given w x ≡ w.cells.places.number → given w e ≤ w.cells.places.number + units
alike w e x units is same_number = let to_ : given w e ≡ w.cells.places.number = ap (given w) is ∙ same_number in omega (arith, to_)

wanted_number : (w : WorldState) (b : ActorState) (N : ℕ → Type 0) (q : Want) (units : ℕ) → IsRequest N b q → 1 ≤ units → given w (event_for w.cells b q) ≤ w.cells.places.number + units
wanted_number w b N (want.Slots directory_ask.Claim) units own paid = let one = claimed_number w.cells.places in omega (arith, one, paid)
wanted_number w b N (want.Slot slot q) units own paid = omega arith
wanted_number w b N (want.Fd fd q) units own paid = omega arith
wanted_number w b N (want.Lives q) units own paid = omega arith
wanted_number w b N q units own paid = absurd own

event_number : (w : WorldState) (a : ActorState) (e : Event) → NotWithin a.phase → Happens w (rest w.image a) e → given w e ≤ w.cells.places.number + units_of w.image (a.fuel + 1) a
event_number w a e none (Requested r) =
    let units = units_of w.image (a.fuel + 1) a in
    let paid = paid_to_want w.image a r.want (is_running a.phase) refl none r.at in
    subst (λ y. given w y ≤ w.cells.places.number + units) (sym r.is) (wanted_number w (rest w.image a) _ r.want units r.own paid)
event_number w a e none (Joined j) = alike w e _ _ j.join.is refl
event_number w a e none (Snaps s) = alike w e _ _ s.is refl
event_number w a e none (GateSnaps s) = alike w e _ _ s.is refl
event_number w a e none (Started s) = alike w e _ _ s.is refl
event_number w a e none (Opens o) = alike w e _ _ o.is refl
event_number w a e none (Releases r) = alike w e _ _ r.is (released_number w.cells.places r.slot)
event_number w a e none (Numbers n) = alike w e _ _ n.is refl
event_number w a e none (OpensFile f) = alike w e _ _ f.is refl
event_number w a e none (LastJoined j) = alike w e _ _ j.join.is refl
event_number w a e none (Ended f) = alike w e _ _ f.is refl
event_number w a e none (EntersGate x) = alike w e _ _ x.is refl
event_number w a e none (EntersRecycled x) = alike w e _ _ x.is refl
event_number w a e none (LeavesGate l) = alike w e _ _ l.is refl
event_number w a e none (LeavesRecycled l) = alike w e _ _ l.is refl

-- ---- turns and runs

-- the numbers that were given, and the fuel that may yet pay for more
abbrev numbers_and_fuel : WorldState → ℕ
numbers_and_fuel w = w.cells.places.number + fuel_of w

-- in a world of a run of its image they are no more than such a run can use
pub record Spends (w : WorldState) : Type 0 where
  pub family : Family w.actors
  pub none : NoneWithin w.actors
  pub few : w.cells.places.number + fuel_of w ≤ most_numbers w.image

turn_number : (w : WorldState) (name : List ℕ) (e : Event) (new : WorldState) → AllReady w → Spends w → turn_of w name ≡ Some (record { event = e; world = new }) → numbers_and_fuel new ≤ numbers_and_fuel w
turn_number w name e new all h t =
    let p = turn_from w name e new t in
    let v = resumed w p.actor in
    let a = p.parts.actor in
    let was = turned_there w name p.actor p.named in
    let none : NotWithin a.phase = subst (λ (z : ActorState). NotWithin z.phase) (sym p.is) (ready_runs w.actors p.actor (h.none p.actor.name p.actor was)) in
    let number = event_number v a e none (turn_happens w name e new all p) in
    let after : new.cells.places.number ≡ given v e = ap (λ (x : WorldState). x.cells.places.number) p.parts.new_is in
    let fuel = (turn_keeps w name e new p.actor all h.family p.named t).fuel in
    let units : units_of_turn w.image (ready w.actors p.actor) e ≡ units_of_turn w.image a e = ap (λ y. units_of_turn w.image y e) (sym p.is) in
    omega (arith, number, after, fuel, units)

pub turn_spends : (w : WorldState) (name : List ℕ) (e : Event) (new : WorldState) → AllReady w → Spends w → turn_of w name ≡ Some (record { event = e; world = new }) → Spends new
turn_spends w name e new all h t =
    let p = turn_from w name e new t in
    let one : most_numbers new.image ≡ most_numbers w.image = ap (λ (x : WorldState). most_numbers x.image) p.parts.new_is in
    let number = turn_number w name e new all h t in
    let few = h.few in
    record {
      family = turn_family w name e new all h.family t;
      none = turn_none w name e new all p h.none;
      few = omega (arith, one, number, few);
    }

opening_none : (i : Image) → NoneWithin (initial_state i).actors
unfolding root
opening_none i m x found = by_name (same root_name m) found
  where
    by_name : (t : Bool) → (if t then Some (root i) else None) ≡ Some x → NotWithin x.phase
    by_name true is = let one : root i ≡ x = cc in subst (λ (z : ActorState). NotWithin z.phase) one tt
    by_name false is = absurd cc

pub opening_spends : (i : Image) → Spends (initial_state i)
unfolding root
opening_spends i = record { family = opening_family i; none = opening_none i; few = omega arith }
