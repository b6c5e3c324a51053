-- What holds of the actors of every run: each but the root was started by another that is there; no
-- two have one name; a child that is not joined comes after its starter in the list, and its fuel and
-- what it gave to its own children are at most what it was given; and whoever has not ended is not
-- joined.
use Rattle.std.specs.Prelude.{◌≡◌, ℕ, ◌+◌, ◌≤◌, true, false, List, [], ◌∷◌, Option, Some, IsSomeAnd, ◌⊎◌}
use Rattle.wedge_base.specs.Names.{root_name}
use Rattle.machine.specs.Actors.{ActorState}
use Rattle.machine.specs.Children.{fuel_given, all_given, child_name, Children, is_child}
use Rattle.run_laws.specs.Fuel.{is_unjoined}
use Rattle.machine.specs.Local.{has_ended}
use Rattle.run_laws.specs.Names.{AreDistinct}
use Rattle.machine.specs.Worlds.{actor_named}
use Rattle.machine.specs.declared.phase.Phase.{Phase}
use Rattle.machine.specs.declared.phase.Phase.TheVariants as phase

-- what an actor may still spend: its fuel, and what its children began with
abbrev pub worth : ActorState → ℕ
worth a = a.fuel + all_given a.unjoined

-- an actor is there, and is worth at most so much
abbrev pub Holds : Option ActorState → ℕ → Type 0
Holds o g = IsSomeAnd o (λ c. worth c ≤ g)

abbrev pub AllBehind : List ActorState → Type 0
AllBehind [] = Unit {0}
AllBehind (a ∷ as_) = ((k g : ℕ) → fuel_given a.unjoined k ≡ Some g → Holds (actor_named as_ (child_name a.name k)) g) × AllBehind as_

pub record IsChildOf (actors : List ActorState) (m : List ℕ) : Type 0 where
  pub starter : List ℕ
  pub number : ℕ
  pub actor : ActorState
  pub named : m ≡ child_name starter number
  pub there : actor_named actors starter ≡ Some actor
  pub counted : number ≤ actor.starts

abbrev pub IsOfTree : List ActorState → List ℕ → Type 0
IsOfTree actors m = (m ≡ root_name) ⊎ IsChildOf actors m

-- a run for which its caller waits is among those that the caller has not joined
abbrev pub WaitsForOwn : Phase → Children → Type 0
WaitsForOwn (phase.Waiting k) unjoined = is_child unjoined k ≡ true
WaitsForOwn p unjoined = Unit {0}

pub record Family (actors : List ActorState) : Type 0 where
  pub tree : (m : List ℕ) (x : ActorState) → actor_named actors m ≡ Some x → IsOfTree actors m
  pub distinct : AreDistinct actors
  pub behind : AllBehind actors
  pub waits : (m : List ℕ) (x : ActorState) → actor_named actors m ≡ Some x → WaitsForOwn x.phase x.unjoined
  pub live : (m : List ℕ) (x : ActorState) → actor_named actors m ≡ Some x → has_ended x.phase ≡ false → is_unjoined actors m ≡ true
