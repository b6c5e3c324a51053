-- What each moment costs its actor in fuel, read off the text, the registers and the reply: a
-- second statement, beside the step. An instruction costs a unit, where there is one to take, and
-- the path of a root directory one more for each byte of it; a read costs a unit for each byte that
-- it gave, an append that took place one for each byte of its length, the call's third argument,
-- and a file that was opened one for each byte of its path's text, the second argument; nothing
-- else costs anything. A start gives fuel to the child, as the call's fourth argument says, and the
-- entry of a gate gives the gate's fuel to the run; a join, or the end of a run, brings back what is
-- left.
use Rattle.std.specs.Prelude.{◌≡◌, ◌+◌, ◌==◌, ℕ, zero, suc, List, length, slice_get, Option, Some, None, IsSomeAnd, if◌then◌else◌}
use Rattle.wedge_base.specs.Images.{Image, fetch}
use Rattle.wedge_events.specs.declared.events.Event.{Event}
use Rattle.wedge_events.specs.declared.events.Event.TheVariants as event
use Rattle.wedge_events.specs.declared.cells.GateAsk.TheVariants as gate_ask
use Rattle.wedge_events.specs.declared.cells.GateReply.TheVariants as gate_reply
use Rattle.wedge_events.specs.declared.cells.StreamAsk.TheVariants as stream_ask
use Rattle.wedge_events.specs.declared.cells.StreamReply.TheVariants as stream_reply
use Rattle.rv_isa.specs.declared.Instr.{Instr}
use Rattle.rv_isa.specs.Table.{decode}
use Rattle.rv_hart.specs.declared.Need.{Need}
use Rattle.rv_hart.specs.declared.Need.TheVariants as need
use Rattle.rv_hart.specs.Local.{local, reg}
use Rattle.machine.specs.Actors.{ActorState}
use Rattle.run_laws.specs.Refusals.{root_refusal}
use Rattle.run_laws.specs.Requests.{path_at}
use Rattle.machine.specs.Worlds.{WorldState, actor_named}
use Rattle.machine.specs.declared.phase.Phase.{Phase}
use Rattle.machine.specs.declared.phase.Phase.TheVariants as phase

-- what a call costs in its instruction beside the unit: sc_root one for each byte of the path,
-- where it is not refused
abbrev pub unrefused : Option ℕ → ℕ → ℕ
unrefused (Some code) n = 0
unrefused None n = n

abbrev pub call_cost : Image → ActorState → List ℕ → ℕ → ℕ
call_cost i a regs n =
    if n == 12 then unrefused (root_refusal a (reg regs 12) (path_at i a (reg regs 11) (reg regs 12)) (slice_get a.drafts (reg regs 10))) (reg regs 12)
    else 0

abbrev pub need_cost : Image → ActorState → Need → ℕ
need_cost i a need.Call = call_cost i a a.hart.regs (reg a.hart.regs 17)
need_cost i a n = 0

abbrev pub instr_cost : Image → ActorState → Option Instr → ℕ
instr_cost i a None = 0
instr_cost i a (Some ins) = need_cost i a (local ins a.hart).need

-- the word at pc with so much fuel: without a word the fetch fails, and without fuel the actor ends
abbrev pub cost_of_word : Image → ActorState → Option ℕ → ℕ → ℕ
cost_of_word i a None fuel = 0
cost_of_word i a (Some word) zero = 0
cost_of_word i a (Some word) (suc n) = 1 + instr_cost i (record a { fuel = n }) (decode word)

abbrev pub cost_at : Image → ActorState → ℕ
cost_at i a = cost_of_word i a (fetch i a.hart.pc) a.fuel

abbrev pub cost_by : ActorState → Event → ℕ
cost_by a (event.Fd fd (stream_ask.Read bits count) (stream_reply.Given bytes)) = length bytes
cost_by a (event.Fd fd (stream_ask.Append bits bytes) stream_reply.Appended) = reg a.hart.regs 12
cost_by a (event.Fd fd (stream_ask.Open k bytes) stream_reply.Opened) = reg a.hart.regs 11
cost_by a e = 0

abbrev pub cost : Image → ActorState → Option Event → ℕ
cost i a None = cost_at i a
cost i a (Some e) = cost_by a e

-- what is given to a child, or to the run of a gate that is entered, and what comes back from a
-- child
abbrev pub given_in : Phase → ℕ
given_in (phase.Entering entrance) = entrance.gate.fuel
given_in p = 0

abbrev pub given_by : ActorState → Option Event → ℕ
given_by a (Some (event.Start child)) = reg a.hart.regs 13
given_by a (Some (event.Enter run)) = given_in a.phase
given_by a (Some (event.Gate id (gate_ask.Enter run first) (gate_reply.Entered memory))) = given_in a.phase
given_by a e = 0

abbrev pub brought_by : Option Event → ℕ
brought_by (Some (event.Join child end fuel)) = fuel
brought_by e = 0

-- the actor pays exactly what the moment costs, gives exactly what goes to a child, and gets
-- exactly what comes back
abbrev pub Pays : WorldState → ActorState → Option Event → WorldState → Type 0
Pays old a e new = IsSomeAnd (actor_named new.actors a.name) (λ b. b.fuel + cost old.image a e + given_by a e ≡ a.fuel + brought_by e)
