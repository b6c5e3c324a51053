-- What an actor at rest comes to, beside the events of cells.
use Rattle.std.specs.Prelude.{◌≡◌, true, false}
use Rattle.wedge_events.specs.declared.cells.GateAsk.TheVariants as gate_ask
use Rattle.wedge_events.specs.declared.events.Want.{Want}
use Rattle.wedge_events.specs.declared.events.Want.TheVariants as want
use Rattle.machine.specs.Local.{has_ended, end_reached, run_awaited}
use Rattle.machine.specs.Resting.{want_in, end_in, run_in, NextFits}
use Rattle.machine.specs.Take.{current_want}
use Rattle.machine.specs.declared.next.Next.{Next}
use Rattle.machine.specs.declared.next.Next.TheVariants as next
use Rattle.run_cells.specs.Entries.{IsOfCell}
use Rattle.actor_task.specs.Tasks.{TaskState, Wants, WantsEntry, Waits}
use Rattle.actor_task.specs.declared.step.Step.{Step}
use Rattle.actor_task.specs.declared.step.Step.TheVariants as step
use Rattle.actor_task.specs.declared.step.Last.{Last}
use Rattle.actor_task.specs.declared.step.Last.TheVariants as last

-- an actor at rest, and what it is at
pub record IsAtRest (k : TaskState) (n : Next) : Type 0 where
  pub going : k.stopped ≡ false
  pub want_ : want_in n ≡ current_want k.progress.state
  pub end_ : end_in n ≡ end_reached k.progress.state.phase
  pub run_ : run_in n ≡ run_awaited k.progress.state.phase
  pub fits : NextFits k.progress.state n

-- a want of no cell alone
abbrev pub IsJoint : Want → Type 0
IsJoint q = IsOfCell q → ⊥

-- it wants nothing
abbrev pub WantsNone : Next → Type 0
WantsNone (next.Shared q) = ⊥
WantsNone n = Unit {0}

-- it has ended, or wants to leave its gate
abbrev pub IsLast : TaskState → Last → Type 0
IsLast k last.Ended = (k.stopped ≡ false) × (has_ended k.progress.state.phase ≡ true)
IsLast k (last.Leave how) = Wants k (want.Leave how)
IsLast k (last.LeaveRecycled gate how memory) = Wants k (want.Gate gate (gate_ask.Leave how memory))

abbrev pub IsStep : TaskState → Step → Type 0
IsStep k step.Went = Unit {0}
IsStep k (step.Waits number) = Waits k number
IsStep k (step.Start child) = Wants k (want.Start child)
IsStep k (step.Join number) = Wants k (want.Join number)
IsStep k (step.Enter run) = Wants k (want.Enter run)
IsStep k (step.EnterRecycled e) = WantsEntry k e
IsStep k (step.AtEnd l) = IsLast k l

-- an event in which another actor has part
abbrev pub IsJointStep : Step → Type 0
IsJointStep step.Went = ⊥
IsJointStep (step.AtEnd l) = ⊥
IsJointStep s = Unit {0}
