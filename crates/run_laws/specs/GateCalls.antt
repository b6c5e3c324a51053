-- What each moment makes of its actor's gates, read off the request, the draft, the registers and
-- the slots: a second statement, beside the step. A gate is made by its own call alone, and what
-- was made is never changed.
use Rattle.std.specs.Prelude.{◌≡◌, ℕ, zero, suc, List, [], ◌∷◌, slice_get, Option, Some, None, option_map, unwrap_or, IsSomeAnd}
use Rattle.cow_pages.specs.Listed.{bytes_listed}
use Rattle.cow_pages.specs.PrivateMemory.{PrivateMemory}
use Rattle.wedge_base.specs.Images.{Image}
use Rattle.wedge_base.specs.Sheets.{Draft, empty_draft, sheet_of_draft}
use Rattle.wedge_events.specs.declared.cells.SlotAsk.TheVariants as slot_ask
use Rattle.wedge_events.specs.declared.events.Event.{Event}
use Rattle.wedge_base.specs.declared.rights.Denial.{Denial}
use Rattle.wedge_events.specs.declared.events.Event.TheVariants as event
use Rattle.callgate.specs.declared.gate.Gate.{Gate}
use Rattle.rv_hart.specs.Local.{reg}
use Rattle.machine.specs.declared.copy_grant.CopyGrant.{CopyGrant}
use Rattle.machine.specs.declared.phase.Phase.{Phase}
use Rattle.machine.specs.declared.phase.Phase.TheVariants as phase
use Rattle.machine.specs.Actors.{ActorState}
use Rattle.run_laws.specs.Allowed.{lacks, with_gate_made}
use Rattle.machine.specs.Cells.{slot_in}
use Rattle.run_laws.specs.ChildCopies.{IsPrepared, copies_in, memory_of_image, pages_living, snap_reply}
use Rattle.machine.specs.Preparation.{Preparation, copied_from}
use Rattle.machine.specs.Resting.{NotMaking}
use Rattle.run_laws.specs.MadeGates.{IsGateOf}
use Rattle.run_laws.specs.Requests.{Request, Makes, request_at}
use Rattle.machine.specs.Worlds.{WorldState, actor_named}

-- an actor's gates are as before: those that it knows, those that it made by their entries, and how
-- many it made
pub record KeepsGates (a b : ActorState) : Type 0 where
  pub known : b.gates ≡ a.gates
  pub held : b.made.gates ≡ a.made.gates
  pub count : b.made.count ≡ a.made.count
  pub calm : NotMaking b.phase

-- with every copy the gate is made, and its runs begin with the memory that was prepared; until
-- then its maker is otherwise as before
abbrev pub MakesWith : ActorState → Draft → Preparation → List CopyGrant → ActorState → Type 0
MakesWith a d p [] b = (g : Gate) × IsGateOf a d g × (g.memory ≡ p.memory) × (b ≡ with_gate_made a g)
MakesWith a d p (g ∷ gs) b = b ≡ record a { phase = phase.MakingGate p }

-- an actor that prepares the memory of a gate's runs from such a memory and such grants on, and
-- makes the gate with it
pub record PreparesGate (a : ActorState) (d : Draft) (m : PrivateMemory) (gs : List CopyGrant) (b : ActorState) : Type 0 where
  pub preparation : Preparation
  pub prepared : IsPrepared a m gs preparation
  pub after : MakesWith a d preparation preparation.left b

-- ---- in the instruction, once its unit of fuel is taken: a call that may make its gate begins
-- with the image's data and the draft's grants of copies
abbrev pub BeginsGate : Image → ActorState → Draft → ActorState → Type 0
BeginsGate i a d b = PreparesGate a d (memory_of_image i) (copies_in (sheet_of_draft a.sheet a.made d).tags) b

abbrev pub BeginsUnless : Image → ActorState → Draft → Option Denial → ActorState → Type 0
BeginsUnless i a d None b = BeginsGate i a d b
BeginsUnless i a d (Some x) b = KeepsGates a b

abbrev pub GatesByRequest : Image → ActorState → Option Request → ActorState → Type 0
GatesByRequest i a (Some (Makes d)) b = BeginsUnless i a d (lacks a (Makes d)) b
GatesByRequest i a r b = KeepsGates a b

abbrev pub InstrMakesGates : WorldState → ActorState → ℕ → ActorState → Type 0
InstrMakesGates old a zero b = KeepsGates a b
InstrMakesGates old a (suc n) b = GatesByRequest old.image (record a { fuel = n }) (request_at old.image old.cells (record a { fuel = n })) b

-- ---- at the event: a copy of the next tag is made, with the pages that the tag has then
abbrev pub SnapsForGate : WorldState → ActorState → Preparation → List CopyGrant → Event → ActorState → Type 0
SnapsForGate old a p [] e b = KeepsGates a b
SnapsForGate old a p (g ∷ gs) e b =
    (e ≡ event.Slot g.slot (slot_ask.Snap g.tag) (snap_reply (pages_living (slot_in old.cells g.slot) g.tag)))
    × PreparesGate a (unwrap_or (slice_get a.drafts (reg a.hart.regs 10)) empty_draft)
    (copied_from (option_map bytes_listed (pages_living (slot_in old.cells g.slot) g.tag)) g.slot p.memory) gs b

abbrev pub EventMakesGates : WorldState → ActorState → Phase → Event → ActorState → Type 0
EventMakesGates old a (phase.MakingGate p) e b = SnapsForGate old a p p.left e b
EventMakesGates old a p e b = KeepsGates a b

abbrev pub MakesGates : WorldState → ActorState → Option Event → WorldState → Type 0
MakesGates old a None new = IsSomeAnd (actor_named new.actors a.name) (InstrMakesGates old a a.fuel)
MakesGates old a (Some e) new = IsSomeAnd (actor_named new.actors a.name) (EventMakesGates old a a.phase e)
