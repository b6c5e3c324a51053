-- Starts, entries of gates, joins and ends, read off the registers, the drafts and the child: a second
-- statement, beside the step.
use Rattle.std.specs.Prelude.{◌≡◌, ℕ, ◌+◌, ◌-◌, true, List, [], ◌∷◌, ◌++◌, replicate, slice_get, slice_set, Option, Some, None, IsSomeAnd, IfSome, false, unwrap_or}
use Rattle.wedge_base.specs.Sheets.{Made, Draft, nothing_made, made_tag, made_fd, first_excess, sheet_of_draft}
use Rattle.wedge_base.specs.declared.rights.End.{End}
use Rattle.wedge_base.specs.declared.rights.End.TheVariants as end_
use Rattle.wedge_events.specs.declared.events.Want.{Want}
use Rattle.wedge_events.specs.declared.events.Want.TheVariants as want
use Rattle.wedge_events.specs.declared.events.Event.{Event}
use Rattle.wedge_events.specs.declared.events.Event.TheVariants as event
use Rattle.wedge_events.specs.declared.cells.SlotAsk.{SlotAsk}
use Rattle.wedge_events.specs.declared.cells.SlotAsk.TheVariants as slot_ask
use Rattle.wedge_events.specs.declared.cells.SlotReply.{SlotReply}
use Rattle.wedge_events.specs.declared.cells.SlotReply.TheVariants as slot_reply
use Rattle.wedge_events.specs.declared.cells.StreamReply.TheVariants as stream_reply
use Rattle.grant_sheet.specs.Granting.{IsWithin}
use Rattle.rv_hart.specs.declared.Hart.{Hart}
use Rattle.rv_hart.specs.Local.{reg}
use Rattle.machine.specs.declared.opening.StreamLabel.{StreamLabel}
use Rattle.machine.specs.declared.phase.Phase.{Phase}
use Rattle.machine.specs.declared.phase.Phase.TheVariants as phase
use Rattle.machine.specs.Actors.{ActorState, but_gates}
use Rattle.run_laws.specs.Allowed.{answered_hart}
use Rattle.machine.specs.Children.{Children, is_child, with_child, without_child}
use Rattle.machine.specs.Preparation.{Preparation}
use Rattle.run_laws.specs.Ends.{is_end_event}
use Rattle.cow_pages.specs.PrivateMemory.{PrivateMemory}
use Rattle.machine.specs.Cells.{Cells, kept_in}
use Rattle.machine.specs.Worlds.{WorldState, actor_named, put_actor}
use Rattle.machine.specs.Entrance.{Entrance}
use Rattle.run_laws.specs.Holding.{gate_for, loan, loan_lacks, is_loan, IsDrafted}
use Rattle.run_laws.specs.Requests.{lent_of}
use Rattle.callgate.specs.Lending.{IsRunSheet}
use Rattle.callgate.specs.declared.gate.Gate.{Gate}
use Rattle.wedge_base.specs.declared.grants.GateKind.TheVariants as gate_kind
use Rattle.wedge_events.specs.declared.cells.GateAsk.TheVariants as gate_ask
use Rattle.wedge_events.specs.declared.cells.GateReply.TheVariants as gate_reply
use Rattle.wedge_events.specs.declared.cells.LivesAsk.TheVariants as lives_ask

-- ---- a start

-- an actor that has done nothing
abbrev pub IsFresh : ActorState → Type 0
IsFresh c = (c.made ≡ nothing_made) × (c.drafts ≡ []) × (c.denials ≡ []) × (c.starts ≡ 0) × (c.unjoined ≡ []) × (c.phase ≡ phase.Running) × (c.labels ≡ [])

-- A child as it begins, by the call of the actor that starts it: the number of a draft, the entry,
-- the argument and the fuel. Its sheet is what the draft gives, and is within what its starter
-- holds; its memory is the one that was prepared, with every copy.
pub record IsChild (a c : ActorState) : Type 0 where
  pub draft : Draft
  pub drafted : slice_get a.drafts (reg a.hart.regs 10) ≡ Some draft
  pub allowed : first_excess a.sheet a.made draft ≡ None
  pub sheet : c.sheet ≡ sheet_of_draft a.sheet a.made draft
  pub asked : IsDrafted a.sheet a.made draft c.sheet
  pub within : IsWithin a.sheet a.made c.sheet
  pub name : c.name ≡ a.name ++ (a.starts + 1) ∷ []
  pub compartment : c.compartment ≡ reg a.hart.regs 11
  pub own : c.run_of ≡ None
  pub hart : c.hart ≡ record { pc = reg a.hart.regs 11; regs = slice_set (slice_set (replicate 32 0) 2 0x20020000) 10 (reg a.hart.regs 12) }
  pub prepared : Preparation
  pub preparing : a.phase ≡ phase.Starting prepared
  pub complete : prepared.left ≡ []
  pub memory : c.memory ≡ prepared.memory
  pub fuel : c.fuel ≡ reg a.hart.regs 13
  pub gates : c.gates ≡ a.gates
  pub fresh : IsFresh c

-- its starter: it is answered the child's number, and the child's fuel goes from its own
abbrev pub after_start : ActorState → ActorState
after_start a = record a {
  hart = answered_hart a (a.starts + 1) 0;
  starts = a.starts + 1;
  unjoined = with_child a.unjoined (a.starts + 1) (reg a.hart.regs 13);
  fuel = a.fuel - reg a.hart.regs 13;
  phase = phase.Running;
}

pub record IsStart (old : WorldState) (a : ActorState) (name : List ℕ) (new : WorldState) : Type 0 where
  pub child : ActorState
  pub begins : IsChild a child
  pub named : name ≡ child.name
  pub actors : new.actors ≡ put_actor old.actors (after_start a) ++ child ∷ []

-- ---- the entry of a gate

-- With which memory a run begins: that of a fresh gate with the gate's own; that of a recycled
-- gate, in which no run is, with what the run before left there, and the first with the gate's own.
abbrev pub BeginsWith : Cells → Gate → Event → PrivateMemory → Type 0
BeginsWith c g (event.Enter run) m = (g.kind ≡ gate_kind.Fresh) × (m ≡ g.memory)
BeginsWith c g (event.Gate id (gate_ask.Enter run first) r) m =
    (g.kind ≡ gate_kind.Recycled) × (id ≡ g.id) × (first ≡ g.memory) × ((kept_in c id).entered ≡ false) × (m ≡ unwrap_or (kept_in c id).kept g.memory) × (r ≡ gate_reply.Entered m)
BeginsWith c g e m = ⊥

-- The run of a gate as it begins, by the call of the actor that enters the gate: the entry, an
-- argument and what is lent. The caller holds the gate at that entry, and lends grants on tags and
-- descriptors alone, each of which it holds. The run has the gate's sheet, and what is lent where
-- that sheet names nothing; the gate's argument beside its caller's; and the gate's fuel.
pub record IsRun (a r : ActorState) : Type 0 where
  pub entrance : Entrance
  pub entering : a.phase ≡ phase.Entering entrance
  pub held : gate_for a (reg a.hart.regs 10) ≡ Some entrance.gate
  pub lent : Option Draft
  pub asked : lent_of a.drafts (reg a.hart.regs 12) ≡ Some lent
  pub lendable : is_loan lent ≡ true
  pub allowed : loan_lacks a lent ≡ None
  pub within : IfSome (loan a lent) (IsWithin a.sheet a.made)
  pub lends : IfSome lent (λ d. IfSome (loan a lent) (IsDrafted a.sheet a.made d))
  pub sheet : IsRunSheet entrance.gate.sheet (loan a lent) r.sheet
  pub name : r.name ≡ a.name ++ (a.starts + 1) ∷ []
  pub compartment : r.compartment ≡ entrance.gate.entry
  pub own : r.run_of ≡ Some entrance.gate
  pub hart : r.hart ≡ record {
    pc = entrance.gate.entry;
    regs = slice_set (slice_set (slice_set (replicate 32 0) 2 0x20020000) 10 (reg a.hart.regs 11)) 11 entrance.gate.argument;
  }
  pub fuel : r.fuel ≡ entrance.gate.fuel
  pub gates : r.gates ≡ a.gates
  pub fresh : IsFresh r

-- its caller: the gate's fuel goes from its own, and it waits for the run
abbrev pub after_enter : ActorState → ℕ → ActorState
after_enter a fuel = record a {
  starts = a.starts + 1;
  unjoined = with_child a.unjoined (a.starts + 1) fuel;
  fuel = a.fuel - fuel;
  phase = phase.Waiting (a.starts + 1);
}

pub record IsEnter (old : WorldState) (a : ActorState) (e : Event) (name : List ℕ) (new : WorldState) : Type 0 where
  pub run : ActorState
  pub begins : IsRun a run
  pub memory : BeginsWith old.cells begins.entrance.gate e run.memory
  pub named : name ≡ run.name
  pub actors : new.actors ≡ put_actor old.actors (after_enter a run.fuel) ++ run ∷ []

-- ---- a join

-- a call answered with a value, the code 0 and one value more
abbrev pub answered_twice : ActorState → ℕ → ℕ → Hart
answered_twice a value more = record { pc = (answered_hart a value 0).pc; regs = slice_set (answered_hart a value 0).regs 12 more }

-- the value of an end, and its number
abbrev pub joined_value : End → ℕ
joined_value (end_.Exited value) = value
joined_value e = 0

abbrev pub joined_number : End → ℕ
joined_number (end_.Exited value) = 0
joined_number end_.Denied = 1
joined_number end_.Misaligned = 2
joined_number end_.JumpMisaligned = 3
joined_number end_.BadInstruction = 4
joined_number end_.FetchFault = 5
joined_number end_.TextStore = 6
joined_number end_.Unmapped = 7
joined_number end_.Break = 8
joined_number end_.FuelOut = 9

-- The joiner: the child's fuel comes back to it. A call is answered the child's value and the
-- number of its end; an actor whose end is decided goes on with it.
abbrev pub after_join : ActorState → Phase → ℕ → End → ℕ → ActorState
after_join a (phase.Ending x) k e fuel = record a { fuel = a.fuel + fuel; unjoined = without_child a.unjoined k }
after_join a p k e fuel = record a { hart = answered_twice a (joined_value e) (joined_number e); fuel = a.fuel + fuel; unjoined = without_child a.unjoined k; phase = phase.Running }

-- the first of children, which are in the order of their numbers
abbrev pub IsFirst : Children → ℕ → Type 0
IsFirst [] k = ⊥
IsFirst (c ∷ cs) k = k ≡ c.0

-- The child that an actor is to join: in a call the one that it names in a0, and once its end is
-- decided the first of all. No other actor is to join one.
abbrev pub IsToJoin : ActorState → Phase → ℕ → Type 0
IsToJoin a (phase.Within (want.Join n)) k = (k ≡ n) × (k ≡ reg a.hart.regs 10)
IsToJoin a (phase.Ending x) k = IsFirst a.unjoined k
IsToJoin a p k = ⊥

-- the child is one that the actor started and has not joined, and has ended so
pub record IsJoined (old : WorldState) (a : ActorState) (k : ℕ) (e : End) (fuel : ℕ) (new : WorldState) : Type 0 where
  pub listed : is_child a.unjoined k ≡ true
  pub child : IsSomeAnd (actor_named old.actors (a.name ++ k ∷ [])) (λ c. (c.phase ≡ phase.Ended e) × (c.fuel ≡ fuel))
  pub due : IsToJoin a a.phase k
  pub actors : new.actors ≡ put_actor old.actors (after_join a a.phase k e fuel)

-- ---- anything else

-- what an actor has made once an event took place: one tag more where it opened one, and one
-- descriptor more, with the bits that it asked for, where it opened a file
abbrev pub made_in : Made → ℕ → SlotReply → SlotAsk → Made
made_in m slot slot_reply.Opened (slot_ask.Open tag pages) = made_tag m tag slot
made_in m slot r q = m

abbrev pub made_under : Made → Phase → ℕ → Made
made_under m (phase.OpeningFile o) fd = made_fd m fd o.bits
made_under m p fd = m

abbrev pub made_by : ActorState → Option Event → Made
made_by a (Some (event.Slot slot q r)) = made_in a.made slot r q
made_by a (Some (event.Fd fd q stream_reply.Opened)) = made_under a.made a.phase fd
made_by a e = a.made

-- the paths of the files that it opened, with one more where it opened a file
abbrev pub labelled_under : List StreamLabel → Phase → ℕ → List StreamLabel
labelled_under ls (phase.OpeningFile o) fd = ls ++ record { number = fd; path = o.path } ∷ []
labelled_under ls p fd = ls

abbrev pub labels_by : ActorState → Option Event → List StreamLabel
labels_by a (Some (event.Fd fd q stream_reply.Opened)) = labelled_under a.labels a.phase fd
labels_by a e = a.labels

-- the run of a gate leaves its own gate as it ends, and no other actor does; that of a recycled
-- gate leaves its private memory there
abbrev pub EndsAsIs : Option Gate → PrivateMemory → Option Event → Type 0
EndsAsIs gate m (Some (event.Lives (lives_ask.Release x) r)) = gate ≡ None
EndsAsIs gate m (Some (event.Leave x)) = IsSomeAnd gate (λ g. g.kind ≡ gate_kind.Fresh)
EndsAsIs gate m (Some (event.Gate id (gate_ask.Leave x left) r)) = IsSomeAnd gate (λ g. (g.kind ≡ gate_kind.Recycled) × (id ≡ g.id)) × (left ≡ m)
EndsAsIs gate m e = Unit {0}

-- An actor does what it has come to: it claims the life that it wants, joins the child that it
-- wants to join, starts the child whose memory is prepared and enters the gate that it is about to
-- enter; it ends as was decided; and one that waits or has ended does nothing.
abbrev pub IsClaim : Option Event → Type 0
IsClaim (Some (event.Lives lives_ask.Claim r)) = Unit {0}
IsClaim e = ⊥

abbrev pub IsEndAs : End → Option Event → Type 0
IsEndAs x (Some (event.Lives (lives_ask.Release y) r)) = y ≡ x
IsEndAs x (Some (event.Leave y)) = y ≡ x
IsEndAs x (Some (event.Gate id (gate_ask.Leave y left) r)) = y ≡ x
IsEndAs x e = ⊥

abbrev pub ComesTo : Want → Option Event → Type 0
ComesTo (want.Lives lives_ask.Claim) e = IsClaim e
ComesTo (want.Join k) e = ⊥
ComesTo q e = Unit {0}

abbrev pub DoesNext : Phase → Option Event → Type 0
DoesNext (phase.Within q) e = ComesTo q e
DoesNext (phase.Starting p) e = p.left ≡ [] → ⊥
DoesNext (phase.Entering x) e = ⊥
DoesNext (phase.Waiting k) e = ⊥
DoesNext (phase.Ending x) e = IsEndAs x e
DoesNext (phase.Ended x) e = ⊥
DoesNext p e = Unit {0}

-- Nothing else changes another actor, nor what an actor may do and whom it started, but that it has
-- made a tag or a descriptor that it opened; which gates it makes is said apart. Whoever ends has
-- joined all its children.
pub record ActsAlone (old : WorldState) (a : ActorState) (e : Option Event) (new : WorldState) : Type 0 where
  pub after : ActorState
  pub actors : new.actors ≡ put_actor old.actors after
  pub name : after.name ≡ a.name
  pub compartment : after.compartment ≡ a.compartment
  pub run_of : after.run_of ≡ a.run_of
  pub sheet : after.sheet ≡ a.sheet
  pub made : but_gates after.made ≡ but_gates (made_by a e)
  pub labels : after.labels ≡ labels_by a e
  pub starts : after.starts ≡ a.starts
  pub unjoined : after.unjoined ≡ a.unjoined
  pub next : DoesNext a.phase e
  pub childless : is_end_event e ≡ true → a.unjoined ≡ []
  pub leaving : EndsAsIs a.run_of a.memory e

abbrev pub KeepsFamily : WorldState → ActorState → Option Event → WorldState → Type 0
KeepsFamily old a (Some (event.Start child)) new = IsStart old a child new
KeepsFamily old a (Some (event.Enter run)) new = IsEnter old a (event.Enter run) run new
KeepsFamily old a (Some (event.Gate id (gate_ask.Enter run first) r)) new = IsEnter old a (event.Gate id (gate_ask.Enter run first) r) run new
KeepsFamily old a (Some (event.Join k e fuel)) new = IsJoined old a k e fuel new
KeepsFamily old a e new = ActsAlone old a e new
