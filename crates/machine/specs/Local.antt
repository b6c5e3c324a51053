-- The local step: one instruction of an actor, and all of them up to the next shared event.
use Rattle.std.specs.Prelude.{ℕ, zero, suc, ◌+◌, Bool, true, false, Option, Some, None}
use Rattle.wedge_base.specs.Images.{Image, fetch}
use Rattle.wedge_base.specs.declared.rights.End.{End}
use Rattle.wedge_base.specs.declared.rights.End.TheVariants as end_
use Rattle.rv_isa.specs.declared.Instr.{Instr}
use Rattle.rv_isa.specs.Table.{decode}
use Rattle.rv_hart.specs.declared.Hart.{Hart}
use Rattle.rv_hart.specs.declared.Need.{Need}
use Rattle.rv_hart.specs.declared.Need.TheVariants as need
use Rattle.rv_hart.specs.Local.{Began, local}
use Rattle.machine.specs.declared.phase.Phase.{Phase}
use Rattle.machine.specs.declared.phase.Phase.TheVariants as phase
use Rattle.machine.specs.Actors.{ActorState, ends, spends}
use Rattle.machine.specs.Accesses.{loads, stores}
use Rattle.machine.specs.Calls.{serves, a7}

-- the hart's step is made, or first what it needs: a load, a store or a call
abbrev pub step_with_need : Image → Instr → ActorState → Hart → Need → ActorState
step_with_need i ins a hart need.Done = record a { hart = hart }
step_with_need i ins a hart (need.Load address width is_signed) = loads i ins is_signed a address width
step_with_need i ins a hart (need.Store address width value) = stores i a address width value
step_with_need i ins a hart need.Call = serves i a (a7 a)
step_with_need i ins a hart need.Break = ends a end_.Break
step_with_need i ins a hart need.JumpMisaligned = ends a end_.JumpMisaligned

-- an instruction, from what the hart makes of it alone
abbrev pub proceeds : Image → Instr → ActorState → Began → ActorState
proceeds i ins a b = step_with_need i ins a b.hart b.need

-- a word that is no instruction ends the actor
abbrev pub step_with_instr : Image → ActorState → Option Instr → ActorState
step_with_instr i a None = ends a end_.BadInstruction
step_with_instr i a (Some ins) = proceeds i ins a (local ins a.hart)

-- an instruction takes a unit of fuel
abbrev pub step_with_fuel : Image → ActorState → ℕ → ℕ → ActorState
step_with_fuel i a word zero = ends a end_.FuelOut
step_with_fuel i a word (suc n) = step_with_instr i (spends a 1) (decode word)

-- a pc outside the text ends the actor, before fuel is checked
abbrev pub step_with_word : Image → ActorState → Option ℕ → ActorState
step_with_word i a None = ends a end_.FetchFault
step_with_word i a (Some word) = step_with_fuel i a word a.fuel

-- one instruction of an actor that runs
unfoldable pub step : Image → ActorState → ActorState
step i a = step_with_word i a (fetch i a.hart.pc)

abbrev pub is_running : Phase → Bool
is_running phase.Running = true
is_running p = false

abbrev pub has_ended : Phase → Bool
has_ended (phase.Ended e) = true
has_ended p = false

-- the end of an actor that has ended
abbrev pub end_reached : Phase → Option End
end_reached (phase.Ended e) = Some e
end_reached p = None

-- the number of the run for which an actor waits
abbrev pub run_awaited : Phase → Option ℕ
run_awaited (phase.Waiting k) = Some k
run_awaited p = None

-- at most so many instructions, while the actor runs
unfoldable pub run_local : Image → ℕ → ActorState → ActorState
run_local i zero a = a
run_local i (suc n) a = elim (is_running a.phase) [ true ↦ run_local i n (step i a) | false ↦ a ]

-- The actor at rest: at its next shared event, waiting for the run of a gate, or ended. Each
-- instruction takes a unit of fuel, so one instruction more than it has fuel for is enough.
unfoldable pub rest : Image → ActorState → ActorState
rest i a = run_local i (a.fuel + 1) a
