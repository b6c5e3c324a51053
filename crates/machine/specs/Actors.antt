-- Actors: their records, what the root begins as, and how an answer, a refusal or an end changes
-- one.
use Rattle.std.specs.Prelude.{ℕ, ◌+◌, ◌-◌, Bool, List, [], ◌∷◌, ◌++◌, replicate, Option, Some, unwrap_or, None, option_and_then}
use Rattle.cow_pages.specs.PrivateMemory.{PrivateMemory, opening_memory}
use Rattle.wedge_base.specs.Names.{root_name}
use Rattle.wedge_base.specs.Images.{Image, private_base, private_size}
use Rattle.wedge_base.specs.Sheets.{Sheet, Made, Draft, nothing_made, root_sheet, right_on, bits_on, slot_on, gate_at}
use Rattle.wedge_base.specs.declared.outcome.DenialAt.{DenialAt}
use Rattle.wedge_base.specs.declared.rights.FdBits.{FdBits}
use Rattle.wedge_base.specs.declared.rights.Right.{Right}
use Rattle.wedge_base.specs.declared.rights.Denial.{Denial}
use Rattle.wedge_base.specs.declared.rights.Code.{Code}
use Rattle.wedge_base.specs.declared.rights.Code.TheVariants as code
use Rattle.wedge_base.specs.declared.rights.End.{End}
use Rattle.wedge_events.specs.declared.events.Want.{Want}
use Rattle.callgate.specs.declared.gate.Gate.{Gate}
use Rattle.rv_hart.specs.declared.Hart.{Hart}
use Rattle.rv_hart.specs.Local.{put, hart_after_call, hart_after_call_with}
use Rattle.machine.specs.Children.{Children}
use Rattle.machine.specs.Preparation.{with_declared}
use Rattle.machine.specs.declared.opening.StreamLabel.{StreamLabel}
use Rattle.machine.specs.declared.phase.Phase.{Phase}
use Rattle.machine.specs.declared.phase.Phase.TheVariants as phase
use Rattle.callgate.specs.Gate.{gate_named}

-- an actor: its sheet, what it made, the gates that it knows, the paths of the files that it
-- opened, its drafts, its registers and private memory, its fuel, its denials, how many actors it
-- started and those of them that it has not joined, and what it is at. That a gate is known is no
-- right to enter it.
pub record ActorState : Type 0 where
  pub name : List ℕ
  pub compartment : ℕ
  pub run_of : Option Gate
  pub sheet : Sheet
  pub made : Made
  pub gates : List Gate
  pub labels : List StreamLabel
  pub drafts : List Draft
  pub hart : Hart
  pub memory : PrivateMemory
  pub fuel : ℕ
  pub denials : List DenialAt
  pub starts : ℕ
  pub unjoined : Children
  pub phase : Phase

-- private memory as an actor begins: stack and heap, all zero, and the image's data as written in
-- it
abbrev pub pristine : Image → PrivateMemory
pristine i = opening_memory i.ranges

-- that of the root: it has a copy of each declared tag on which it has the right to a copy
abbrev pub root_memory : Image → PrivateMemory
root_memory i = record (pristine i) { copies = with_declared [] 0 i.tags }

-- registers as an actor begins: sp is at the end of the private range
abbrev pub opening_hart : ℕ → Hart
opening_hart entry = record { pc = entry; regs = put (replicate 32 0) 2 (private_base + private_size) }

-- the root as a run begins
unfoldable pub root : Image → ActorState
root i = record {
  name = root_name;
  compartment = i.entry;
  run_of = None;
  sheet = root_sheet i.tags i.fds i.user i.root;
  made = nothing_made;
  gates = [];
  labels = [];
  drafts = [];
  hart = opening_hart i.entry;
  memory = root_memory i;
  fuel = i.fuel;
  denials = [];
  starts = 0;
  unjoined = [];
  phase = phase.Running;
}

-- ---- its rights: what its sheet gives, and what it made

abbrev pub right_of : ActorState → ℕ → Option Right
right_of a tag = right_on a.sheet a.made tag

abbrev pub bits_of : ActorState → ℕ → FdBits
bits_of a fd = bits_on a.sheet a.made fd

-- what it made, gates left out
abbrev pub but_gates : Made → Made
but_gates m = record m { gates = []; count = 0 }

-- the gate that it holds at an entry
abbrev pub gate_held : ActorState → ℕ → Option Gate
gate_held a entry = option_and_then (gate_named a.gates) (gate_at a.sheet a.made entry)

-- the slot in which a tag that it holds was opened
abbrev pub slot_held : ActorState → ℕ → ℕ
slot_held a tag = unwrap_or (slot_on a.sheet a.made tag) 0

-- ---- how answers, refusals and ends change it

-- the number of a code
abbrev pub code_number : Code → ℕ
code_number code.Ok = 0
code_number code.Denied = 1
code_number code.Full = 2
code_number code.FuelShort = 3
code_number code.Deep = 4
code_number code.NoSuch = 5
code_number code.Bad = 6

-- a service call answered with a value, or with two, or refused with a code
abbrev pub answers : ActorState → ℕ → ActorState
answers a value = record a { hart = hart_after_call a.hart value (code_number code.Ok); phase = phase.Running }

abbrev pub answers_more : ActorState → ℕ → ℕ → ActorState
answers_more a value more = record a { hart = hart_after_call_with a.hart value (code_number code.Ok) (Some more); phase = phase.Running }

abbrev pub refuses : ActorState → Code → ActorState
refuses a c = record a { hart = hart_after_call a.hart 0 (code_number c); phase = phase.Running }

-- a denial noted, with the address of the instruction
abbrev pub notes : ActorState → Denial → ActorState
notes a d = record a { denials = a.denials ++ record { pc = a.hart.pc; denial = d } ∷ [] }

-- a service call denied
abbrev pub denies : ActorState → Denial → ActorState
denies a d = refuses (notes a d) code.Denied

-- an actor whose end is decided, and one that wants an event
abbrev pub ends : ActorState → End → ActorState
ends a e = record a { phase = phase.Ending e }

abbrev pub wants : ActorState → Want → ActorState
wants a w = record a { phase = phase.Within w }

-- so many units of fuel taken
abbrev pub spends : ActorState → ℕ → ActorState
spends a n = record a { fuel = a.fuel - n }

-- ---- an actor as the code keeps it: its private memory is kept beside it

-- an actor but for its private memory, and whether it has stopped because it ran out of memory
pub record ActorRecord : Type 0 where
  pub name : List ℕ
  pub compartment : ℕ
  pub run_of : Option Gate
  pub sheet : Sheet
  pub made : Made
  pub gates : List Gate
  pub labels : List StreamLabel
  pub drafts : List Draft
  pub hart : Hart
  pub fuel : ℕ
  pub denials : List DenialAt
  pub starts : ℕ
  pub unjoined : Children
  pub phase : Phase
  pub stopped : Bool

-- an actor with its private memory
abbrev pub whole : ActorRecord → PrivateMemory → ActorState
whole r memory = record {
  name = r.name;
  compartment = r.compartment;
  run_of = r.run_of;
  sheet = r.sheet;
  made = r.made;
  gates = r.gates;
  labels = r.labels;
  drafts = r.drafts;
  hart = r.hart;
  memory = memory;
  fuel = r.fuel;
  denials = r.denials;
  starts = r.starts;
  unjoined = r.unjoined;
  phase = r.phase;
}
