-- What the run of a gate has from its caller: a gate that the caller knows, at an entry where the caller holds it.
use Rattle.std.proofs.Common.{◌≡◌, ℕ, Bool, true, false, List, [], ◌∷◌, ◌++◌, refl, ap, subst, ◌∙◌, inl, inr}
use Rattle.std.specs.List.{AllByRecursion}
use Rattle.std.specs.Prelude.{Option, Some, None, option_and_then, ◌⊎◌, if◌then◌else◌}
use Rattle.wedge_base.specs.Identities.{same_gate}
use Rattle.wedge_base.specs.Sheets.{gate_at}
use Rattle.wedge_events.specs.declared.events.Event.{Event}
use Rattle.wedge_base.specs.declared.grants.GateId.{GateId}
use Rattle.callgate.specs.Gate.{gate_named}
use Rattle.callgate.specs.declared.gate.Gate.{Gate}
use Rattle.machine.specs.Actors.{ActorState, gate_held}
use Rattle.machine.specs.Children.{child_name}
use Rattle.cow_pages.specs.PrivateMemory.{PrivateMemory}
use Rattle.machine.specs.Entrance.{Entrance}
use Rattle.run_laws.specs.Families.{made_by}
use Rattle.run_laws.specs.Paying.{cost_by}
use Rattle.machine.specs.Take.{next_start, takes, actor_begun, run_by, run_at, has_entered}
use Rattle.machine.specs.Worlds.{WorldState, put_actor, with_begun}
use Rattle.machine.specs.declared.phase.Phase.TheVariants as phase
use Rattle.run_laws.proofs.Between.{entered_by}
use Rattle.run_laws.proofs.EnteringGates.{IsEnterable}
use Rattle.run_laws.proofs.Happening.{AtEnter, AtRecycledEnter, memory_for}

-- the gate that an actor holds at an entry: its identity there, by which the actor knows it
pub record IsHeld (a : ActorState) (entry : ℕ) (g : Gate) : Type 0 where
  pub id : GateId
  pub there : gate_at a.sheet a.made entry ≡ Some id
  pub known : gate_named a.gates id ≡ Some g

pub held_is : (a : ActorState) (entry : ℕ) (g : Gate) → gate_held a entry ≡ Some g → IsHeld a entry g
held_is a entry g e = by_id (gate_at a.sheet a.made entry) refl e
  where
    by_id : (o : Option GateId) → gate_at a.sheet a.made entry ≡ o → option_and_then (gate_named a.gates) o ≡ Some g → IsHeld a entry g
    by_id None there k = absurd cc
    by_id (Some id) there k = record { id = id; there = there; known = k }

-- what holds of each gate of a list holds of one that is found there
pub each_found : (P : Gate → Type 0) (gs : List Gate) (id : GateId) (g : Gate) → AllByRecursion P gs → gate_named gs id ≡ Some g → P g
each_found P [] id g all e = absurd cc
each_found P (x ∷ xs) id g all e = by_id (same_gate x.id id) e (each_found P xs id g all.1)
  where
    by_id : (t : Bool) → (if t then Some x else gate_named xs id) ≡ Some g → (gate_named xs id ≡ Some g → P g) → P g
    by_id true k others = let is : x ≡ g = cc in subst P is all.0
    by_id false k others = others k

-- the gate that is entered is among those that its caller knows
pub each_entered : (P : Gate → Type 0) (a : ActorState) (entry : ℕ) (g : Gate) → AllByRecursion P a.gates → gate_held a entry ≡ Some g → P g
each_entered P a entry g all e = let h = held_is a entry g e in each_found P a.gates h.id g all h.known

-- the entry of a gate, fresh or recycled: its caller waits for the run, which begins with what was kept for it or else with the gate's memory
pub record IsEntry (w : WorldState) (b : ActorState) (e : Event) : Type 0 where
  pub entrance : Entrance
  pub at : b.phase ≡ phase.Entering entrance
  pub may : IsEnterable b entrance
  pub kept : Option PrivateMemory
  pub brought : (kept ≡ None) ⊎ (kept ≡ Some (memory_for w.cells entrance.gate))
  pub takes_so : takes w.image b e ≡ entered_by b entrance
  pub begins : actor_begun w.image b e ≡ Some (run_by b (child_name b.name (next_start b)) kept entrance)
  pub free : cost_by b e ≡ 0
  pub makes : made_by b (Some e) ≡ b.made

unfoldable pub fresh_entry : (w : WorldState) (b : ActorState) (e : Event) → AtEnter b e → IsEntry w b e
unfolding takes
fresh_entry w b e x = record {
  entrance = x.entrance;
  at = x.at;
  may = x.may;
  kept = None;
  brought = inl refl;
  takes_so = ap (takes w.image b) x.is ∙ ap (has_entered b) x.at;
  begins = ap (actor_begun w.image b) x.is ∙ ap (run_at b (child_name b.name (next_start b)) None) x.at;
  free = ap (cost_by b) x.is;
  makes = ap (λ y. made_by b (Some y)) x.is;
}

unfoldable pub recycled_entry : (w : WorldState) (b : ActorState) (e : Event) → AtRecycledEnter w b e → IsEntry w b e
unfolding takes
recycled_entry w b e x = record {
  entrance = x.entrance;
  at = x.at;
  may = x.may;
  kept = Some (memory_for w.cells x.entrance.gate);
  brought = inr refl;
  takes_so = ap (takes w.image b) x.is ∙ ap (has_entered b) x.at;
  begins = ap (actor_begun w.image b) x.is ∙ ap (run_at b (child_name b.name (next_start b)) (Some (memory_for w.cells x.entrance.gate))) x.at;
  free = ap (cost_by b) x.is;
  makes = ap (λ y. made_by b (Some y)) x.is;
}

-- what it makes of the actors
pub entered_actors : (w : WorldState) (actors : List ActorState) (b : ActorState) (e : Event) (y : IsEntry w b e)
    → with_begun (put_actor actors (takes w.image b e)) (actor_begun w.image b e) ≡ put_actor actors (entered_by b y.entrance) ++ run_by b (child_name b.name (next_start b)) y.kept y.entrance ∷ []
entered_actors w actors b e y = ap (λ x. with_begun (put_actor actors x) (actor_begun w.image b e)) y.takes_so ∙ ap (with_begun (put_actor actors (entered_by b y.entrance))) y.begins
