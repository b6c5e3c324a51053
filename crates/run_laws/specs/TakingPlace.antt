-- How a call takes place that its actor's rights allow and that nothing else refuses: the events of
-- its actor from the call on, one after another, and what the actor is after the last of them. A
-- table, read off the request: it looks neither at what an actor wants nor at what an event makes of
-- one.
use Rattle.std.specs.Prelude.{◌≡◌, ◌⊎◌, ℕ, ◌+◌, ◌-◌, suc, Bool, true, false, not, List, [], ◌∷◌, ◌++◌, Option, Some, None, IsSomeAnd}
use Rattle.std.specs.List.{filter}
use Rattle.cow_pages.specs.PrivateMemory.{PrivateMemory}
use Rattle.wedge_base.specs.Names.{same}
use Rattle.wedge_base.specs.Sheets.{Draft, sheet_of_draft, made_fd, slot_on}
use Rattle.wedge_base.specs.declared.grants.GateKind.TheVariants as gate_kind
use Rattle.wedge_base.specs.declared.rights.FdBits.{FdBits}
use Rattle.wedge_base.specs.declared.rights.Right.{Right}
use Rattle.wedge_base.specs.declared.rights.Right.TheVariants as right
use Rattle.wedge_events.specs.declared.cells.DirectoryAsk.TheVariants as directory_ask
use Rattle.wedge_events.specs.declared.cells.DirectoryReply.TheVariants as directory_reply
use Rattle.wedge_events.specs.declared.cells.GateAsk.TheVariants as gate_ask
use Rattle.wedge_events.specs.declared.cells.GateReply.TheVariants as gate_reply
use Rattle.wedge_events.specs.declared.cells.LivesAsk.TheVariants as lives_ask
use Rattle.wedge_events.specs.declared.cells.LivesReply.TheVariants as lives_reply
use Rattle.wedge_events.specs.declared.cells.SlotAsk.TheVariants as slot_ask
use Rattle.wedge_events.specs.declared.cells.SlotReply.{SlotReply}
use Rattle.wedge_events.specs.declared.cells.SlotReply.TheVariants as slot_reply
use Rattle.wedge_events.specs.declared.cells.StreamAsk.TheVariants as stream_ask
use Rattle.wedge_events.specs.declared.cells.StreamReply.TheVariants as stream_reply
use Rattle.wedge_events.specs.declared.events.Event.{Event}
use Rattle.wedge_events.specs.declared.events.Event.TheVariants as event
use Rattle.wedge_events.specs.declared.events.Turn.{Turn}
use Rattle.callgate.specs.declared.gate.Gate.{Gate}
use Rattle.rv_hart.specs.Local.{reg}
use Rattle.machine.specs.declared.copy_grant.CopyGrant.{CopyGrant}
use Rattle.machine.specs.declared.phase.Phase.TheVariants as phase
use Rattle.machine.specs.Actors.{ActorState, right_of}
use Rattle.machine.specs.Local.{is_running, run_local}
use Rattle.run_laws.specs.Allowed.{lacks, is_refused, answered_hart, window_address, with_gate_made}
use Rattle.run_laws.specs.ChildCopies.{copies_in}
use Rattle.run_laws.specs.Families.{after_start, after_enter}
use Rattle.run_laws.specs.Holding.{gate_for}
use Rattle.run_laws.specs.MadeGates.{IsGateOf}
use Rattle.run_laws.specs.Moments.{GoesOnAs}
use Rattle.run_laws.specs.Refusals.{refused}
use Rattle.run_laws.specs.Requests.{Request, Opens, Creates, Makes, Enters, Deletes, Allots, request_at}
use Rattle.machine.specs.Worlds.{WorldState, actor_named, turn_of, is_complete}

-- ---- the table

-- Of the copies that a draft asks for, those are made of the tags themselves on which the actor has
-- more than the right to a copy; each other one it makes of its own copy, by no event.
abbrev pub is_cow : Option Right → Bool
is_cow (Some right.Cow) = true
is_cow r = false

abbrev pub of_tags : ActorState → List CopyGrant → List CopyGrant
of_tags a gs = filter (λ g. not (is_cow (right_of a g.tag))) gs

abbrev pub tags_copied : ActorState → Draft → List CopyGrant
tags_copied a d = of_tags a (copies_in (sheet_of_draft a.sheet a.made d).tags)

-- one event for each of these grants, in order: a copy of its tag is asked for, whatever the reply
abbrev pub AreSnaps : List CopyGrant → List Event → Type 0
AreSnaps [] es = es ≡ []
AreSnaps (g ∷ gs) [] = ⊥
AreSnaps (g ∷ gs) (e ∷ es) = ((r : SlotReply) × (e ≡ event.Slot g.slot (slot_ask.Snap g.tag) r)) × AreSnaps gs es

-- the name of the child, or of the run, that the call begins
abbrev pub next_name : ActorState → List ℕ
next_name a = a.name ++ (a.starts + 1) ∷ []

-- the entry of a gate by such a run
abbrev pub IsEntry : Gate → List ℕ → Event → Type 0
IsEntry g run e = ((g.kind ≡ gate_kind.Fresh) × (e ≡ event.Enter run)) ⊎ ((g.kind ≡ gate_kind.Recycled) × (m : PrivateMemory) × (e ≡ event.Gate g.id (gate_ask.Enter run g.memory) (gate_reply.Entered m)))

-- an actor that has opened a file as a descriptor
abbrev pub after_opening : ActorState → List ℕ → FdBits → ℕ → ActorState
after_opening a path bits fd = record a {
  made = made_fd a.made fd bits;
  labels = a.labels ++ record { number = fd; path = path } ∷ [];
  hart = answered_hart a fd 0;
  fuel = a.fuel - reg a.hart.regs 11;
  phase = phase.Running;
}

-- an actor that goes on at the next word, with a value and the code 0
abbrev pub answered : ActorState → ℕ → ActorState
answered a value = record a { hart = answered_hart a value 0; phase = phase.Running }

-- What a call with a request comes to, where `goes es P` says that its actor goes through the events
-- es and is then as P says. To start a child: a life is claimed and none is left, so the call answers
-- `full`; or one is, the copies are made of the tags, and the child starts. To make a gate: the copies
-- are made, and the gate is. To enter one: it is entered. To open a file: a number is claimed for its
-- descriptor and none is left; or one is, and the stream is opened there, of the file's kind and with
-- its bytes. To delete a tag: it lives no more, so the call answers `no such`; or it is closed, and
-- its slot released. To place a block: its tag lives no more; or no gap is left; or it is placed.
abbrev pub TakesPlace : ActorState → Request → (List Event → (ActorState → Type 0) → Type 0) → Type 0
TakesPlace a (Creates d) goes =
    goes (event.Lives lives_ask.Claim lives_reply.Full ∷ []) (λ b. b ≡ refused a 2)
    ⊎ ((snaps : List Event) × AreSnaps (tags_copied a d) snaps × goes (event.Lives lives_ask.Claim lives_reply.Claimed ∷ snaps ++ event.Start (next_name a) ∷ []) (λ b. b ≡ after_start a))
TakesPlace a (Makes d) goes = (snaps : List Event) × AreSnaps (tags_copied a d) snaps × goes snaps (λ b. (g : Gate) × IsGateOf a d g × (b ≡ with_gate_made a g))
TakesPlace a (Enters entry lent) goes = IsSomeAnd (gate_for a entry) (λ g. (e : Event) × IsEntry g (next_name a) e × goes (e ∷ []) (λ b. b ≡ after_enter a g.fuel))
TakesPlace a (Opens path f bits) goes =
    goes (event.Fds directory_ask.Claim directory_reply.Full ∷ []) (λ b. b ≡ refused a 2)
    ⊎ ((fd number : ℕ) × goes (event.Fds directory_ask.Claim (directory_reply.Claimed fd number) ∷ event.Fd fd (stream_ask.Open f.kind f.content) stream_reply.Opened ∷ []) (λ b. b ≡ after_opening a path bits fd))
TakesPlace a (Deletes tag) goes = IsSomeAnd (slot_on a.sheet a.made tag) (λ slot.
    goes (event.Slot slot (slot_ask.Close tag) slot_reply.NoSuch ∷ []) (λ b. b ≡ refused a 5)
    ⊎ goes (event.Slot slot (slot_ask.Close tag) slot_reply.Closed ∷ event.Slots (directory_ask.Release slot) directory_reply.Released ∷ []) (λ b. b ≡ answered a 0))
TakesPlace a (Allots tag size) goes = IsSomeAnd (slot_on a.sheet a.made tag) (λ slot.
    goes (event.Slot slot (slot_ask.Smalloc tag size) slot_reply.NoSuch ∷ []) (λ b. b ≡ refused a 5)
    ⊎ goes (event.Slot slot (slot_ask.Smalloc tag size) slot_reply.Full ∷ []) (λ b. b ≡ refused a 2)
    ⊎ ((offset : ℕ) × goes (event.Slot slot (slot_ask.Smalloc tag size) (slot_reply.Placed offset) ∷ []) (λ b. b ≡ answered a (window_address slot offset))))
TakesPlace a r goes = Unit {0}

-- ---- what it is to go through events

-- the actor stands at its call: nothing of it has changed but what it is at, and it carries out no
-- instruction
abbrev pub StandsAt : ActorState → ActorState → Type 0
StandsAt a b = (b ≡ record a { phase = b.phase }) × (is_running b.phase ≡ false)

-- From a world on, in these turns, the actor of a name, which now is so, goes through events: each of
-- its turns is the next of them, and until the last has been it stands at its call; after the last it
-- is as P says. The turns may end before, but then the run is not complete.
abbrev pub GoesThrough : List ℕ → ActorState → (ActorState → Type 0) → List Event → Option ActorState → WorldState → List Turn → Type 0
GoesThrough name a P [] now w ts = IsSomeAnd now P
GoesThrough name a P (e ∷ es) now w [] = IsSomeAnd now (StandsAt a) × (is_complete w ≡ false)
GoesThrough name a P (e ∷ es) now w (t ∷ ts) =
    IsSomeAnd now (StandsAt a) × (mid : WorldState) × (turn_of w t.actor ≡ Some (record { event = t.event; world = mid }))
    × elim (same t.actor name) [
      | true ↦ (t.event ≡ e) × GoesThrough name a P es (actor_named mid.actors name) mid ts
      | false ↦ GoesThrough name a P (e ∷ es) (actor_named mid.actors name) mid ts
    ]

-- The n-th instruction from here on, of an actor b, makes a request that its rights allow and that
-- nothing else refuses; a is the actor there, with its unit of fuel taken.
pub record IsAllowedCall (w : WorldState) (b : ActorState) (n : ℕ) (a : ActorState) (r : Request) : Type 0 where
  pub fuel : ℕ
  pub runs : is_running (run_local w.image n b).phase ≡ true
  pub enough : (run_local w.image n b).fuel ≡ suc fuel
  pub is : a ≡ record (run_local w.image n b) { fuel = fuel }
  pub asked : request_at w.image w.cells a ≡ Some r
  pub allowed : lacks a r ≡ None
  pub passed : is_refused a r ≡ false

-- Each such call of a turn takes place, from this turn on: the actor of the turn, which goes on as
-- b, goes through the events of one row of the table.
abbrev pub CallsTakePlace : WorldState → Turn → List Turn → Type 0
CallsTakePlace old t later = (a b : ActorState) → actor_named old.actors t.actor ≡ Some a → GoesOnAs old.actors a a.phase b → (n : ℕ) (c : ActorState) (r : Request) → IsAllowedCall old b n c r
    → TakesPlace c r (λ es P. GoesThrough t.actor c P es (Some (run_local old.image (suc n) b)) old (t ∷ later))

-- of each turn of a run, and of those after it
abbrev pub EachTurnOn : (WorldState → Turn → List Turn → Type 0) → WorldState → List Turn → Type 0
EachTurnOn P old [] = Unit {0}
EachTurnOn P old (t ∷ ts) = P old t ts × (mid : WorldState) × (turn_of old t.actor ≡ Some (record { event = t.event; world = mid })) × EachTurnOn P mid ts
