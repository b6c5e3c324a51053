-- The cause of each end, and how an actor goes on, read off the fetch, the fuel, the decoder, the
-- hart's need, the address and the reply: a second statement, beside the step.
use Rattle.std.specs.Prelude.{◌≡◌, ℕ, zero, suc, ◌%◌, ◌==◌, Bool, true, false, not, List, Option, Some, None, is_some, IsSomeAnd, option_and_then, if◌then◌else◌}
use Rattle.cow_pages.specs.Copies.{copy_at, holds_copy}
use Rattle.wedge_base.specs.Memory.{range_at}
use Rattle.wedge_base.specs.declared.address.Place.{Place}
use Rattle.wedge_base.specs.Images.{Image, fetch, in_text, slot_of}
use Rattle.wedge_base.specs.declared.rights.End.{End}
use Rattle.wedge_base.specs.declared.rights.End.TheVariants as end_
use Rattle.wedge_events.specs.declared.events.Event.{Event}
use Rattle.wedge_events.specs.declared.events.Event.TheVariants as event
use Rattle.wedge_events.specs.declared.cells.GateAsk.TheVariants as gate_ask
use Rattle.wedge_events.specs.declared.cells.LivesAsk.TheVariants as lives_ask
use Rattle.wedge_events.specs.declared.cells.SlotAsk.{SlotAsk}
use Rattle.wedge_events.specs.declared.cells.SlotAsk.TheVariants as slot_ask
use Rattle.wedge_events.specs.declared.cells.SlotReply.{SlotReply}
use Rattle.wedge_events.specs.declared.cells.SlotReply.TheVariants as slot_reply
use Rattle.rv_isa.specs.declared.Instr.{Instr}
use Rattle.rv_isa.specs.Table.{decode}
use Rattle.rv_hart.specs.declared.Need.{Need}
use Rattle.rv_hart.specs.declared.Need.TheVariants as need
use Rattle.rv_hart.specs.Local.{local, reg}
use Rattle.machine.specs.declared.phase.Phase.{Phase}
use Rattle.machine.specs.declared.phase.Phase.TheVariants as phase
use Rattle.machine.specs.Actors.{ActorState}
use Rattle.rv_hart.specs.declared.Hart.{Hart}
use Rattle.machine.specs.Local.{is_running, has_ended}
use Rattle.machine.specs.Worlds.{WorldState, actor_named, with_actor}
use Rattle.run_laws.specs.Allowed.{next_word}

-- the end of an actor, decided or reached
abbrev pub end_of : Phase → Option End
end_of phase.Running = None
end_of (phase.Within q) = None
end_of (phase.Starting p) = None
end_of (phase.MakingGate p) = None
end_of (phase.Opening slot tag) = None
end_of (phase.Releasing slot) = None
end_of (phase.Entering entrance) = None
end_of (phase.Waiting number) = None
end_of (phase.OpeningFile o) = None
end_of (phase.Ending e) = Some e
end_of (phase.Ended e) = Some e

-- in a window: past the pages of the actor's private copy at that slot; where it has none, the
-- event decides
abbrev pub copy_end : ℕ → ℕ → Option (List ℕ) → Option End
copy_end offset width None = None
copy_end offset width (Some bytes) = if holds_copy offset width bytes then None else Some end_.Unmapped

abbrev pub window_end : ActorState → ℕ → Option Place → Option End
window_end a width None = Some end_.Unmapped
window_end a width (Some p) = copy_end p.offset width (copy_at a.memory.copies p.slot)

-- an access: no multiple of its width; in the text, which only a load may; where there is no memory
abbrev pub access_end : Image → ActorState → ℕ → ℕ → Option End → Option End
access_end i a address width text =
    if not (address % width == 0) then Some end_.Misaligned
    else if in_text i address width then text
    else if is_some (range_at a.memory.ranges address width) then None
    else window_end a width (slot_of address)

abbrev pub needed_end : Image → ActorState → Need → Option End
needed_end i a need.Done = None
needed_end i a (need.Load address width is_signed) = access_end i a address width None
needed_end i a (need.Store address width value) = access_end i a address width (Some end_.TextStore)
needed_end i a need.Call = if reg a.hart.regs 17 == 0 then Some (end_.Exited (reg a.hart.regs 10)) else None
needed_end i a need.Break = Some end_.Break
needed_end i a need.JumpMisaligned = Some end_.JumpMisaligned

abbrev pub instr_end : Image → ActorState → Option Instr → Option End
instr_end i a None = Some end_.BadInstruction
instr_end i a (Some ins) = needed_end i a (local ins a.hart).need

abbrev pub fuel_end : Image → ActorState → ℕ → ℕ → Option End
fuel_end i a word zero = Some end_.FuelOut
fuel_end i a word (suc n) = instr_end i a (decode word)

abbrev pub word_end : Image → ActorState → Option ℕ → Option End
word_end i a None = Some end_.FetchFault
word_end i a (Some word) = fuel_end i a word a.fuel

-- the end to which an instruction comes
abbrev pub end_at : Image → ActorState → Option End
end_at i a = word_end i a (fetch i a.hart.pc)

-- the end to which an event comes: that of a slot's reply, but that a call that is denied goes on;
-- one that was decided stays
abbrev pub reply_end : SlotAsk → SlotReply → Option End
reply_end q slot_reply.Unmapped = Some end_.Unmapped
reply_end (slot_ask.Sfree offset live) (slot_reply.Denied tag wants) = None
reply_end q (slot_reply.Denied tag wants) = Some end_.Denied
reply_end q r = None

abbrev pub event_end : Event → Option End
event_end (event.Slot slot q r) = reply_end q r
event_end e = None

abbrev pub end_by : Phase → Event → Option End
end_by (phase.Ending x) e = Some x
end_by (phase.Ended x) e = Some x
end_by p e = event_end e

abbrev pub end_after : Image → ActorState → Option Event → Option End
end_after i a None = end_at i a
end_after i a (Some e) = end_by a.phase e

-- whether an event is that of an end
abbrev pub is_end_event : Option Event → Bool
is_end_event (Some (event.Lives (lives_ask.Release x) r)) = true
is_end_event (Some (event.Leave x)) = true
is_end_event (Some (event.Gate id (gate_ask.Leave x left) r)) = true
is_end_event e = false

-- an end is decided exactly by its cause, and reached exactly by its event
abbrev pub EndsByCause : WorldState → ActorState → Option Event → WorldState → Type 0
EndsByCause old a e new = IsSomeAnd (actor_named new.actors a.name) (λ b. (end_of b.phase ≡ end_after old.image a e) × (has_ended b.phase ≡ is_end_event e))

-- An actor goes on: an instruction that needs nothing is the hart's and nothing else, so that none
-- is passed over; after each other instruction and each event, an actor that runs is at the next
-- word, and one that does not run, since it comes to an event or to its end, has its registers and
-- pc as they were.
abbrev pub GoesTo : ActorState → ℕ → ActorState → Type 0
GoesTo a pc b = (is_running b.phase ≡ true → b.hart.pc ≡ pc) × (is_running b.phase ≡ false → b.hart ≡ a.hart)

abbrev pub RunsAt : WorldState → ActorState → ℕ → WorldState → Type 0
RunsAt old a pc new = IsSomeAnd (actor_named new.actors a.name) (GoesTo a pc)

abbrev pub NeedGoesOn : WorldState → ActorState → Hart → Need → WorldState → Type 0
NeedGoesOn old a h need.Done new = new ≡ with_actor old (record a { hart = h })
NeedGoesOn old a h n new = RunsAt old a (next_word a) new

abbrev pub WordGoesOn : WorldState → ActorState → Option Instr → ℕ → WorldState → Type 0
WordGoesOn old a (Some ins) (suc n) new = NeedGoesOn old (record a { fuel = n }) (local ins a.hart).hart (local ins a.hart).need new
WordGoesOn old a ins n new = RunsAt old a (next_word a) new

abbrev pub GoesOn : WorldState → ActorState → Option Event → WorldState → Type 0
GoesOn old a None new = WordGoesOn old a (option_and_then decode (fetch old.image a.hart.pc)) a.fuel new
GoesOn old a (Some e) new = RunsAt old a (next_word a) new
