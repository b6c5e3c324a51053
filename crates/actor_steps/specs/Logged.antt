-- The event that a step does and logs.
use Rattle.std.specs.Prelude.{◌≡◌, ℕ, zero, suc}
use Rattle.wedge_base.specs.Images.{Image}
use Rattle.wedge_events.specs.declared.events.LogEntry.{LogEntry}
use Rattle.run_cells.specs.Entries.{IsPlainEntry}
use Rattle.thread_laws.specs.ActorProgresses.{ActorProgress, after_entry, after_rest}
use Rattle.actor_task.specs.declared.step.Step.{Step}
use Rattle.actor_task.specs.declared.step.Step.TheVariants as step

-- an actor at rest did one event that no other has part in, and it is logged
pub record HasLogged (i : Image) (old new : ActorProgress) : Type 0 where
  pub entry : LogEntry
  pub plain : IsPlainEntry i old entry
  pub now_ : new ≡ after_entry i old entry

-- so it is where a step answers that it went; else the actor is as it was
abbrev pub IsLoggedBy : Step → Image → ActorProgress → ActorProgress → Type 0
IsLoggedBy step.Went i old new = HasLogged i old new
IsLoggedBy s i old new = new ≡ old

-- an actor has made its local events and then one such event, so many times
abbrev pub HasGone : ℕ → Image → ActorProgress → ActorProgress → Type 0
HasGone zero i old new = new ≡ old
HasGone (suc n) i old new = (mid : ActorProgress) × HasGone n i old mid × HasLogged i (after_rest i mid) new

-- so it has before what a step answers: loads and stores, and then its local events
pub record HasStepped (s : Step) (i : Image) (old new : ActorProgress) : Type 0 where
  pub count : ℕ
  pub mid : ActorProgress
  pub gone : HasGone count i old mid
  pub last_ : IsLoggedBy s i (after_rest i mid) new
