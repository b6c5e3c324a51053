-- What an actor at rest comes to: the event of its request, the join of a child, the start of one, the entry of a gate, or its end.
use Rattle.std.proofs.Common.{◌≡◌, ℕ, ◌+◌, ◌<◌, ◌≤◌, Bool, true, List, [], ◌∷◌, refl, sym, ap, subst, ◌∙◌}
use Rattle.std.specs.Prelude.{Option, Some, None, false, ◌==◌, if◌then◌else◌, unwrap_or}
use Rattle.cow_pages.specs.PrivateMemory.{PrivateMemory}
use Rattle.wedge_base.specs.declared.grants.GateKind.TheVariants as gate_kind
use Rattle.wedge_base.specs.declared.grants.GateKind.{GateKind}
use Rattle.wedge_events.specs.declared.cells.GateReply.TheVariants as gate_reply
use Rattle.wedge_events.specs.declared.cells.GateAsk.TheVariants as gate_ask
use Rattle.wedge_events.specs.Directories.{directory_reply as directory_reply_of}
use Rattle.wedge_base.specs.Images.{Image}
use Rattle.wedge_events.specs.Slots.{Segment, slot_reply as slot_reply_of}
use Rattle.wedge_events.specs.declared.cells.DirectoryAsk.TheVariants as directory_ask
use Rattle.wedge_events.specs.declared.cells.DirectoryReply.TheVariants as directory_reply
use Rattle.wedge_events.specs.declared.cells.SlotAsk.TheVariants as slot_ask
use Rattle.wedge_events.specs.declared.cells.SlotReply.{SlotReply}
use Rattle.wedge_events.specs.declared.cells.SlotReply.TheVariants as slot_reply
use Rattle.wedge_base.specs.Pages.{PageAt, pages_of}
use Rattle.wedge_events.specs.declared.events.SlotWant.TheVariants as slot_want
use Rattle.wedge_base.specs.declared.rights.End.{End}
use Rattle.wedge_events.specs.declared.events.Want.{Want}
use Rattle.wedge_events.specs.declared.events.Want.TheVariants as want
use Rattle.wedge_events.specs.declared.events.Event.{Event}
use Rattle.wedge_events.specs.declared.events.Event.TheVariants as event
use Rattle.wedge_events.specs.declared.cells.LivesAsk.TheVariants as lives_ask
use Rattle.wedge_events.specs.declared.cells.LivesReply.TheVariants as lives_reply
use Rattle.machine.specs.declared.phase.Phase.{Phase}
use Rattle.machine.specs.declared.phase.Phase.TheVariants as phase
use Rattle.machine.specs.Actors.{ActorState}
use Rattle.machine.specs.Between.{IsBetween, GivesBelow}
use Rattle.machine.specs.Calls.{a0, a1, draft_at}
use Rattle.machine.specs.Cells.{Cells, slot_in, stream_in, kept_in}
use Rattle.machine.specs.Children.{Children, is_child, without_child, child_name}
use Rattle.run_laws.specs.Refusals.{refusal_after}
use Rattle.run_laws.specs.Requests.{request_at}
use Rattle.machine.specs.Preparation.{Preparation}
use Rattle.machine.specs.Opening.{FileOpening}
use Rattle.wedge_events.specs.Streams.{Stream, stream_reply as stream_reply_of}
use Rattle.wedge_events.specs.declared.cells.StreamAsk.TheVariants as stream_ask
use Rattle.wedge_events.specs.declared.cells.StreamReply.TheVariants as stream_reply
use Rattle.wedge_base.specs.declared.rights.StreamKind.{StreamKind}
use Rattle.machine.specs.declared.copy_grant.CopyGrant.{CopyGrant}
use Rattle.cow_pages.specs.Listed.{bytes_listed}
use Rattle.machine.specs.Take.{next_start, starting_want, ending_want, entering_want, leaving_want, current_want, wanted_at, has_number, has_snapped, opening_want, answered_end, takes, making_want, copied_on}
use Rattle.machine.specs.Worlds.{WorldState, event_at}
use Rattle.run_laws.proofs.Between.{event_for, IsJoin, ComesOf, comes_of, Leaves, IsPreparing, MayPrepare, MayNumber, numbered_is, takes_between, IsMaking, made_is, entered_is, waiting_is, MayWait}
use Rattle.run_laws.proofs.Directing.{claimed_inside}
use Rattle.run_laws.proofs.Meeting.{IsOpening, request_for, refusal_for, slots_in, fds_in, NumberIn, AsksForPages, IsRequest, IsWanted, IsInCell, IsStartable, startable_at, ReadsAs, LoadsAt}
use Rattle.run_laws.proofs.MakingGates.{IsMakeable, takes_granting}
use Rattle.run_laws.proofs.EnteringGates.{IsEnterable}
use Rattle.machine.specs.Entrance.{Entrance}
use Rattle.callgate.specs.declared.gate.Gate.{Gate}

-- the event of a request
pub record AtRequest (w : WorldState) (b : ActorState) (e : Event) : Type 0 where
  pub want : Want
  pub rd : ℕ
  pub is_signed : Bool
  pub at : b.phase ≡ phase.Within want
  pub asked : (c : Cells) → request_at w.image c b ≡ request_for c b rd is_signed want
  pub own : IsRequest (LoadsAt w.image b.hart rd is_signed) b want
  pub later : (c : Cells) → refusal_after w.image c b ≡ refusal_for c b want
  pub inside : IsInCell want
  pub is : e ≡ event_for w.cells b want

-- the join that a call wants
pub record AtJoin (w : WorldState) (b : ActorState) (e : Event) : Type 0 where
  pub number : ℕ
  pub at : b.phase ≡ phase.Within (want.Join number)
  pub asked : (c : Cells) → request_at w.image c b ≡ None
  pub later : (c : Cells) → refusal_after w.image c b ≡ None
  pub listed : is_child b.unjoined number ≡ true
  pub named : number ≡ a0 b
  pub join : IsJoin w b number e

-- the copy of a tag for a child that is prepared
pub record AtSnap (w : WorldState) (b : ActorState) (e : Event) : Type 0 where
  pub preparation : Preparation
  pub grant : CopyGrant
  pub others : List CopyGrant
  pub at : b.phase ≡ phase.Starting preparation
  pub left : preparation.left ≡ grant ∷ others
  pub ready : IsStartable b
  pub is : e ≡ event.Slot grant.slot (slot_ask.Snap grant.tag) (slot_reply_of (slot_in w.cells grant.slot) (slot_ask.Snap grant.tag))

-- the copy of a tag for a gate that is made
pub record AtGateSnap (w : WorldState) (b : ActorState) (e : Event) : Type 0 where
  pub preparation : Preparation
  pub grant : CopyGrant
  pub others : List CopyGrant
  pub at : b.phase ≡ phase.MakingGate preparation
  pub left : preparation.left ≡ grant ∷ others
  pub granting : IsMakeable b preparation
  pub is : e ≡ event.Slot grant.slot (slot_ask.Snap grant.tag) (slot_reply_of (slot_in w.cells grant.slot) (slot_ask.Snap grant.tag))

-- the start of a child that is prepared
pub record AtStart (b : ActorState) (e : Event) : Type 0 where
  pub preparation : Preparation
  pub at : b.phase ≡ phase.Starting preparation
  pub complete : preparation.left ≡ []
  pub ready : IsStartable b
  pub is : e ≡ event.Start (child_name b.name (next_start b))

-- the opening of a tag in the slot that was claimed for it
pub record AtOpen (w : WorldState) (b : ActorState) (e : Event) : Type 0 where
  pub slot : ℕ
  pub tag : ℕ
  pub at : b.phase ≡ phase.Opening slot tag
  pub inside : slot < slots_in w.image
  pub pages : AsksForPages b
  pub is : e ≡ event.Slot slot (slot_ask.Open tag (a0 b)) slot_reply.Opened

-- the release of the slot of a tag that was closed
pub record AtRelease (b : ActorState) (e : Event) : Type 0 where
  pub slot : ℕ
  pub at : b.phase ≡ phase.Releasing slot
  pub is : e ≡ event.Slots (directory_ask.Release slot) directory_reply.Released

-- the claim of a number for the descriptor of a file
pub record AtNumber (w : WorldState) (b : ActorState) (e : Event) : Type 0 where
  pub opening : FileOpening
  pub at : b.phase ≡ phase.OpeningFile opening
  pub none : opening.number ≡ None
  pub opens : IsOpening b (λ c. request_at w.image c b) opening
  pub paid : a1 b ≤ b.fuel
  pub is : e ≡ event.Fds directory_ask.Claim (directory_reply_of w.cells.numbers directory_ask.Claim)

-- the opening of the stream of a file, on the number that was claimed for it
pub record AtFile (w : WorldState) (b : ActorState) (e : Event) : Type 0 where
  pub opening : FileOpening
  pub fd : ℕ
  pub at : b.phase ≡ phase.OpeningFile opening
  pub some : opening.number ≡ Some fd
  pub opens : IsOpening b (λ c. request_at w.image c b) opening
  pub inside : fd < fds_in w.image
  pub paid : a1 b ≤ b.fuel
  pub is : e ≡ event.Fd fd (stream_ask.Open opening.kind opening.bytes) stream_reply.Opened

-- the join of its first child by an actor whose end is decided
pub record AtLastJoin (w : WorldState) (b : ActorState) (e : Event) : Type 0 where
  pub end_ : End
  pub first : ℕ × ℕ
  pub others : Children
  pub at : b.phase ≡ phase.Ending end_
  pub left : b.unjoined ≡ first ∷ others
  pub join : IsJoin w b first.0 e

-- the entry of a fresh gate
pub record AtEnter (b : ActorState) (e : Event) : Type 0 where
  pub entrance : Entrance
  pub at : b.phase ≡ phase.Entering entrance
  pub may : IsEnterable b entrance
  pub fresh : entrance.gate.kind ≡ gate_kind.Fresh
  pub is : e ≡ event.Enter (child_name b.name (next_start b))

-- the memory with which the next run of a recycled gate begins: what is kept, or the gate's
abbrev pub memory_for : Cells → Gate → PrivateMemory
memory_for c g = unwrap_or (kept_in c g.id).kept g.memory

-- the entry of a recycled gate, in which no run is
pub record AtRecycledEnter (w : WorldState) (b : ActorState) (e : Event) : Type 0 where
  pub entrance : Entrance
  pub at : b.phase ≡ phase.Entering entrance
  pub may : IsEnterable b entrance
  pub recycled : entrance.gate.kind ≡ gate_kind.Recycled
  pub free : (kept_in w.cells entrance.gate.id).entered ≡ false
  pub is : e ≡ event.Gate entrance.gate.id (gate_ask.Enter (child_name b.name (next_start b)) entrance.gate.memory) (gate_reply.Entered (memory_for w.cells entrance.gate))

-- the leave of the run of a recycled gate with no children
pub record AtRecycledLeave (b : ActorState) (e : Event) : Type 0 where
  pub end_ : End
  pub gate : Gate
  pub at : b.phase ≡ phase.Ending end_
  pub own : b.run_of ≡ Some gate
  pub left : b.unjoined ≡ []
  pub recycled : gate.kind ≡ gate_kind.Recycled
  pub is : e ≡ event.Gate gate.id (gate_ask.Leave end_ b.memory) gate_reply.Left

-- the leave of the run of a fresh gate with no children
pub record AtLeave (b : ActorState) (e : Event) : Type 0 where
  pub end_ : End
  pub gate : Gate
  pub at : b.phase ≡ phase.Ending end_
  pub own : b.run_of ≡ Some gate
  pub left : b.unjoined ≡ []
  pub fresh : gate.kind ≡ gate_kind.Fresh
  pub is : e ≡ event.Leave end_

-- the end of any other actor with no children
pub record AtEnd (b : ActorState) (e : Event) : Type 0 where
  pub end_ : End
  pub at : b.phase ≡ phase.Ending end_
  pub own : b.run_of ≡ None
  pub left : b.unjoined ≡ []
  pub is : e ≡ event.Lives (lives_ask.Release end_) lives_reply.Released

pub data Happens (w : WorldState) (b : ActorState) (e : Event) : Type 0 where
  Requested : AtRequest w b e → Happens w b e
  Joined : AtJoin w b e → Happens w b e
  Snaps : AtSnap w b e → Happens w b e
  GateSnaps : AtGateSnap w b e → Happens w b e
  Started : AtStart b e → Happens w b e
  Opens : AtOpen w b e → Happens w b e
  Releases : AtRelease b e → Happens w b e
  Numbers : AtNumber w b e → Happens w b e
  OpensFile : AtFile w b e → Happens w b e
  LastJoined : AtLastJoin w b e → Happens w b e
  Ended : AtEnd b e → Happens w b e
  EntersGate : AtEnter b e → Happens w b e
  LeavesGate : AtLeave b e → Happens w b e
  EntersRecycled : AtRecycledEnter w b e → Happens w b e
  LeavesRecycled : AtRecycledLeave b e → Happens w b e

-- whatever lives in a slot, a tag is opened there
pub opens_so : (g : Option Segment) (tag pages : ℕ) → slot_reply_of g (slot_ask.Open tag pages) ≡ slot_reply.Opened
opens_so None tag pages = refl
opens_so (Some g) tag pages = refl

-- whatever stream was there, one is opened
pub stream_opens : (s : Option Stream) (k : StreamKind) (bytes : List ℕ) → stream_reply_of s (stream_ask.Open k bytes) ≡ stream_reply.Opened
stream_opens None k bytes = refl
stream_opens (Some s) k bytes = by_life s.live
  where
    by_life : (t : Bool) → (if t then stream_reply.Opened else stream_reply.Opened) ≡ stream_reply.Opened
    by_life true = refl
    by_life false = refl

-- the copy of a tag, or that it lives no more
pub snap_cases : (P : SlotReply → Type 0) (g : Option Segment) (tag : ℕ) → ((pages : List PageAt) → P (slot_reply.Snapped pages)) → P slot_reply.Gone → P (slot_reply_of g (slot_ask.Snap tag))
snap_cases P None tag snapped gone = gone
snap_cases P (Some g) tag snapped gone = by_test (g.tag == tag)
  where
    by_test : (t : Bool) → P (if t then slot_reply.Snapped (pages_of g.bytes) else slot_reply.Gone)
    by_test true = snapped (pages_of g.bytes)
    by_test false = gone

module _ (w : WorldState) (b : ActorState) (e : Event) where
  requested : (x : Want) (rd : ℕ) (s : Bool) → b.phase ≡ phase.Within x → ((c : Cells) → request_at w.image c b ≡ request_for c b rd s x) → IsRequest (LoadsAt w.image b.hart rd s) b x
      → ((c : Cells) → refusal_after w.image c b ≡ refusal_for c b x) → IsInCell x → e ≡ event_for w.cells b x → Happens w b e
  requested x rd s at asked own later inside is = Requested (record { want = x; rd = rd; is_signed = s; at = at; asked = asked; own = own; later = later; inside = inside; is = is })

  within : (x : Want) (rd : ℕ) (s : Bool) → b.phase ≡ phase.Within x → ((c : Cells) → request_at w.image c b ≡ request_for c b rd s x) → IsWanted (LoadsAt w.image b.hart rd s) b x
      → ((c : Cells) → refusal_after w.image c b ≡ refusal_for c b x) → IsInCell x → ComesOf w b x e → Happens w b e
  within (want.Slots q) rd s at asked own later inside comes = requested (want.Slots q) rd s at asked own later inside comes
  within (want.Slot slot q) rd s at asked own later inside comes = requested (want.Slot slot q) rd s at asked own later inside comes
  within (want.Fds q) rd s at asked own later inside comes = absurd own
  within (want.Fd fd q) rd s at asked own later inside comes = requested (want.Fd fd q) rd s at asked own later inside comes
  within (want.Lives q) rd s at asked own later inside comes = requested (want.Lives q) rd s at asked own later inside comes
  within (want.Gate id q) rd s at asked own later inside comes = absurd own
  within (want.Start child) rd s at asked own later inside comes = absurd own
  within (want.Join k) rd s at asked own later inside comes = Joined (record { number = k; at = at; asked = asked; later = later; listed = own.0; named = own.1; join = comes })
  within (want.Enter run) rd s at asked own later inside comes = absurd own
  within (want.Leave end) rd s at asked own later inside comes = absurd own

  leaving : (g : Gate) (k : GateKind) (x : End) (q : Want) → b.phase ≡ phase.Ending x → b.run_of ≡ Some g → b.unjoined ≡ [] → g.kind ≡ k → leaving_want k g.id b.memory x ≡ q → ComesOf w b q e → Happens w b e
  leaving g gate_kind.Fresh x q at own left kind is comes =
      LeavesGate (record { end_ = x; gate = g; at = at; own = own; left = left; fresh = kind; is = subst (λ y. ComesOf w b y e) (sym is) comes })
  leaving g gate_kind.Recycled x q at own left kind is comes =
      let so : ComesOf w b (want.Gate g.id (gate_ask.Leave x b.memory)) e = subst (λ y. ComesOf w b y e) (sym is) comes in
      LeavesRecycled (record { end_ = x; gate = g; at = at; own = own; left = left; recycled = kind; is = so.1 })

  entering : (x : Entrance) (k : GateKind) (q : Want) → b.phase ≡ phase.Entering x → IsEnterable b x → x.gate.kind ≡ k → entering_want k x.gate (child_name b.name (next_start b)) ≡ q → ComesOf w b q e → Happens w b e
  entering x gate_kind.Fresh q at may kind is comes = EntersGate (record { entrance = x; at = at; may = may; fresh = kind; is = subst (λ y. ComesOf w b y e) (sym is) comes })
  entering x gate_kind.Recycled q at may kind is comes =
      let so : ComesOf w b (want.Gate x.gate.id (gate_ask.Enter (child_name b.name (next_start b)) x.gate.memory)) e = subst (λ y. ComesOf w b y e) (sym is) comes in
      EntersRecycled (record { entrance = x; at = at; may = may; recycled = kind; free = so.0; is = so.1 })

  ending : (g : Option Gate) (cs : Children) (x : End) (q : Want) → b.phase ≡ phase.Ending x → b.run_of ≡ g → b.unjoined ≡ cs → ending_want g b.memory cs x ≡ q → ComesOf w b q e → Happens w b e
  ending None [] x q at own left is comes = Ended (record { end_ = x; at = at; own = own; left = left; is = subst (λ y. ComesOf w b y e) (sym is) comes })
  ending (Some g) [] x q at own left is comes = leaving g g.kind x q at own left refl is comes
  ending g (c ∷ cs) x q at own left is comes = LastJoined (record { end_ = x; first = c; others = cs; at = at; left = left; join = subst (λ y. ComesOf w b y e) (sym is) comes })

  preparing : (pre : Preparation) (gs : List CopyGrant) (q : Want) → b.phase ≡ phase.Starting pre → pre.left ≡ gs → starting_want b gs ≡ q → IsStartable b → ComesOf w b q e → Happens w b e
  preparing pre [] q at left is ready comes = Started (record { preparation = pre; at = at; complete = left; ready = ready; is = subst (λ y. ComesOf w b y e) (sym is) comes })
  preparing pre (g ∷ gs) q at left is ready comes =
      Snaps (record { preparation = pre; grant = g; others = gs; at = at; left = left; ready = ready; is = subst (λ y. ComesOf w b y e) (sym is) comes })

  making_at : (pre : Preparation) (gs : List CopyGrant) (q : Want) → b.phase ≡ phase.MakingGate pre → pre.left ≡ gs → making_want gs ≡ Some q → IsMakeable b pre → ComesOf w b q e → Happens w b e
  making_at pre [] q at left is granting comes = absurd cc
  making_at pre (g ∷ gs) q at left is granting comes =
      let same : want.Slot g.slot (slot_want.Snap g.tag) ≡ q = cc in
      GateSnaps (record { preparation = pre; grant = g; others = gs; at = at; left = left; granting = granting; is = subst (λ y. ComesOf w b y e) (sym same) comes })

  opening_at : (o : FileOpening) (n : Option ℕ) (q : Want) → b.phase ≡ phase.OpeningFile o → o.number ≡ n → opening_want o n ≡ q → (a1 b ≤ b.fuel) × NumberIn w.image n × IsOpening b (λ c. request_at w.image c b) o → ComesOf w b q e → Happens w b e
  opening_at o None q at none is reads comes = Numbers (record { opening = o; at = at; none = none; opens = reads.2; paid = reads.0; is = subst (λ y. ComesOf w b y e) (sym is) comes })
  opening_at o (Some fd) q at some is reads comes =
      let same : e ≡ event_for w.cells b (want.Fd fd (stream_ask.Open o.kind o.bytes)) = subst (λ y. ComesOf w b y e) (sym is) comes in
      OpensFile (record { opening = o; fd = fd; at = at; some = some; opens = reads.2; inside = reads.1; paid = reads.0; is = same ∙ ap (event.Fd fd (stream_ask.Open o.kind o.bytes)) (stream_opens (stream_in w.cells fd) o.kind o.bytes) })

  by_phase : (p : Phase) (q : Want) → b.phase ≡ p → ReadsAs w.image b p → wanted_at b p ≡ Some q → ComesOf w b q e → Happens w b e
  by_phase phase.Running q at reads wants comes = absurd cc
  by_phase (phase.Within x) q at reads wants comes =
      let is : x ≡ q = cc in
      within x reads.0 reads.1 at reads.2 reads.3 reads.4 reads.5 (subst (λ y. ComesOf w b y e) (sym is) comes)
  by_phase (phase.Starting pre) q at reads wants comes = let is : starting_want b pre.left ≡ q = cc in preparing pre pre.left q at refl is reads comes
  by_phase (phase.MakingGate pre) q at reads wants comes = making_at pre pre.left q at refl wants reads comes
  by_phase (phase.Opening slot tag) q at reads wants comes =
      let is : want.Slot slot (slot_want.Open tag (a0 b)) ≡ q = cc in
      let same : e ≡ event_for w.cells b (want.Slot slot (slot_want.Open tag (a0 b))) = subst (λ y. ComesOf w b y e) (sym is) comes in
      Opens (record { slot = slot; tag = tag; at = at; inside = reads.0; pages = reads.1; is = same ∙ ap (event.Slot slot (slot_ask.Open tag (a0 b))) (opens_so (slot_in w.cells slot) tag (a0 b)) })
  by_phase (phase.Releasing slot) q at reads wants comes =
      let is : want.Slots (directory_ask.Release slot) ≡ q = cc in
      Releases (record { slot = slot; at = at; is = subst (λ y. ComesOf w b y e) (sym is) comes })
  by_phase (phase.Entering x) q at reads wants comes =
      let is : entering_want x.gate.kind x.gate (child_name b.name (next_start b)) ≡ q = cc in
      entering x x.gate.kind q at reads refl is comes
  by_phase (phase.Waiting k) q at reads wants comes = absurd cc
  by_phase (phase.OpeningFile o) q at reads wants comes = let is : opening_want o o.number ≡ q = cc in opening_at o o.number q at refl is reads comes
  by_phase (phase.Ending x) q at reads wants comes = let is : ending_want b.run_of b.memory b.unjoined x ≡ q = cc in ending b.run_of b.unjoined x q at refl refl is comes
  by_phase (phase.Ended x) q at reads wants comes = absurd cc

pub happens : (w : WorldState) (b : ActorState) (q : Want) (e : Event) → ReadsAs w.image b b.phase → current_want b ≡ Some q → event_at w b q ≡ Some e → Happens w b e
happens w b q e reads wants at = by_phase w b e b.phase q refl reads wants (comes_of w b q e at)

-- ---- what the actor then is in

between_reads : (i : Image) (x : ActorState) (p : Phase) → IsBetween p → ReadsAs i x p
between_reads i x phase.Running h = tt
between_reads i x (phase.Within q) h = absurd h
between_reads i x (phase.Starting pre) h = absurd h
between_reads i x (phase.MakingGate pre) h = absurd h
between_reads i x (phase.Opening slot tag) h = absurd h
between_reads i x (phase.Releasing slot) h = absurd h
between_reads i x (phase.Entering entrance) h = absurd h
between_reads i x (phase.Waiting number) h = absurd h
between_reads i x (phase.OpeningFile o) h = absurd h
between_reads i x (phase.Ending e) h = tt
between_reads i x (phase.Ended e) h = tt

preparing_reads : (i : Image) (x : ActorState) (p : Phase) → MayPrepare p → (IsPreparing p → IsStartable x) → ((y : Preparation) → p ≡ phase.MakingGate y → IsMakeable x y) → ReadsAs i x p
preparing_reads i x phase.Running h ready granting = tt
preparing_reads i x (phase.Within q) h ready granting = absurd h
preparing_reads i x (phase.Starting pre) h ready granting = ready tt
preparing_reads i x (phase.MakingGate pre) h ready granting = granting pre refl
preparing_reads i x (phase.Opening slot tag) h ready granting = absurd h
preparing_reads i x (phase.Releasing slot) h ready granting = absurd h
preparing_reads i x (phase.Entering entrance) h ready granting = absurd h
preparing_reads i x (phase.Waiting number) h ready granting = absurd h
preparing_reads i x (phase.OpeningFile o) h ready granting = absurd h
preparing_reads i x (phase.Ending e) h ready granting = tt
preparing_reads i x (phase.Ended e) h ready granting = tt

pub may_prepare : (p : Phase) → IsPreparing p → MayPrepare p
may_prepare phase.Running h = absurd h
may_prepare (phase.Within q) h = absurd h
may_prepare (phase.Starting pre) h = tt
may_prepare (phase.MakingGate pre) h = absurd h
may_prepare (phase.Opening slot tag) h = absurd h
may_prepare (phase.Releasing slot) h = absurd h
may_prepare (phase.Entering entrance) h = absurd h
may_prepare (phase.Waiting number) h = absurd h
may_prepare (phase.OpeningFile o) h = absurd h
may_prepare (phase.Ending e) h = absurd h
may_prepare (phase.Ended e) h = absurd h

numbered_reads : (i : Image) (x : ActorState) (fd : ℕ) (p : Phase) → MayNumber fd p → (a1 x ≤ x.fuel) × (fd < fds_in i) × ((o : FileOpening) → p ≡ phase.OpeningFile o → IsOpening x (λ c. request_at i c x) o) → ReadsAs i x p
numbered_reads i x fd phase.Running h paid = tt
numbered_reads i x fd (phase.Within q) h paid = absurd h
numbered_reads i x fd (phase.Starting pre) h paid = absurd h
numbered_reads i x fd (phase.MakingGate pre) h paid = absurd h
numbered_reads i x fd (phase.Opening slot tag) h paid = absurd h
numbered_reads i x fd (phase.Releasing slot) h paid = absurd h
numbered_reads i x fd (phase.Entering entrance) h paid = absurd h
numbered_reads i x fd (phase.Waiting number) h paid = absurd h
numbered_reads i x fd (phase.OpeningFile o) h paid = (paid.0, subst (NumberIn i) (sym h) paid.1, paid.2 o refl)
numbered_reads i x fd (phase.Ending e) h paid = absurd h
numbered_reads i x fd (phase.Ended e) h paid = absurd h

-- one that leaves its phase between instructions is in nothing more; one that prepares a child may start it, one that makes a gate may
-- give it its sheet, one that
-- claimed a slot may open a tag there, and one that claimed a number may open the stream of its file
leaves_reads : (i : Image) (x : ActorState) (e : Event) (p : Phase) → Leaves e p → (IsPreparing p → IsStartable x) → ((y : Preparation) → p ≡ phase.MakingGate y → IsMakeable x y)
    → ((slot tag : ℕ) → e ≡ event.Slots directory_ask.Claim (directory_reply.Claimed slot tag) → (slot < slots_in i) × AsksForPages x)
    → ((fd number : ℕ) → e ≡ event.Fds directory_ask.Claim (directory_reply.Claimed fd number) → (a1 x ≤ x.fuel) × (fd < fds_in i) × ((o : FileOpening) → p ≡ phase.OpeningFile o → IsOpening x (λ c. request_at i c x) o)) → ReadsAs i x p
leaves_reads i x (event.Lives lives_ask.Claim lives_reply.Claimed) p h ready granting opens numbers = preparing_reads i x p (may_prepare p h) ready granting
leaves_reads i x (event.Lives lives_ask.Claim lives_reply.Full) p h ready granting opens numbers = between_reads i x p h
leaves_reads i x (event.Lives lives_ask.Claim lives_reply.Released) p h ready granting opens numbers = between_reads i x p h
leaves_reads i x (event.Lives (lives_ask.Release end) r) p h ready granting opens numbers = between_reads i x p h
leaves_reads i x (event.Slots directory_ask.Claim (directory_reply.Claimed slot tag)) p h ready granting opens numbers = subst (ReadsAs i x) (sym h) (opens slot tag refl)
leaves_reads i x (event.Slots directory_ask.Claim directory_reply.Full) p h ready granting opens numbers = between_reads i x p h
leaves_reads i x (event.Slots directory_ask.Claim directory_reply.Released) p h ready granting opens numbers = between_reads i x p h
leaves_reads i x (event.Slots (directory_ask.Release slot) r) p h ready granting opens numbers = between_reads i x p h
leaves_reads i x (event.Fds directory_ask.Claim (directory_reply.Claimed fd number)) p h ready granting opens numbers = numbered_reads i x fd p h (numbers fd number refl)
leaves_reads i x (event.Fds directory_ask.Claim directory_reply.Full) p h ready granting opens numbers = between_reads i x p h
leaves_reads i x (event.Fds directory_ask.Claim directory_reply.Released) p h ready granting opens numbers = between_reads i x p h
leaves_reads i x (event.Fds (directory_ask.Release place) r) p h ready granting opens numbers = between_reads i x p h
leaves_reads i x (event.Slot slot q slot_reply.Closed) p h ready granting opens numbers = subst (ReadsAs i x) (sym h) tt
leaves_reads i x (event.Slot slot q (slot_reply.Snapped pages)) p h ready granting opens numbers = preparing_reads i x p h ready granting
leaves_reads i x (event.Slot slot q slot_reply.Gone) p h ready granting opens numbers = preparing_reads i x p h ready granting
leaves_reads i x (event.Slot slot q r) p h ready granting opens numbers = between_reads i x p h
leaves_reads i x (event.Enter run) p h ready granting opens numbers = waiting_is (ReadsAs i x) p h tt (λ k. tt)
leaves_reads i x (event.Gate id (gate_ask.Enter run first) (gate_reply.Entered memory)) p h ready granting opens numbers = waiting_is (ReadsAs i x) p h tt (λ k. tt)
leaves_reads i x e p h ready granting opens numbers = between_reads i x p h

-- an actor is about to open a tag only once it claimed the slot for it
pub opens_by_claim : (e : Event) (p : Phase) (slot tag : ℕ) → Leaves e p → p ≡ phase.Opening slot tag → e ≡ event.Slots directory_ask.Claim (directory_reply.Claimed slot tag)
opens_by_claim (event.Lives lives_ask.Claim lives_reply.Claimed) p slot tag h is = absurd (subst IsPreparing is h)
opens_by_claim (event.Lives lives_ask.Claim lives_reply.Full) p slot tag h is = absurd (subst IsBetween is h)
opens_by_claim (event.Lives lives_ask.Claim lives_reply.Released) p slot tag h is = absurd (subst IsBetween is h)
opens_by_claim (event.Lives (lives_ask.Release end) r) p slot tag h is = absurd (subst IsBetween is h)
opens_by_claim (event.Slots directory_ask.Claim (directory_reply.Claimed s t)) p slot tag h is =
    let same : phase.Opening s t ≡ phase.Opening slot tag = sym h ∙ is in
    let first : s ≡ slot = cc in
    let second : t ≡ tag = cc in
    ap (λ n. event.Slots directory_ask.Claim (directory_reply.Claimed n t)) first ∙ ap (λ n. event.Slots directory_ask.Claim (directory_reply.Claimed slot n)) second
opens_by_claim (event.Slots directory_ask.Claim directory_reply.Full) p slot tag h is = absurd (subst IsBetween is h)
opens_by_claim (event.Slots directory_ask.Claim directory_reply.Released) p slot tag h is = absurd (subst IsBetween is h)
opens_by_claim (event.Slots (directory_ask.Release s) r) p slot tag h is = absurd (subst IsBetween is h)
opens_by_claim (event.Fds directory_ask.Claim (directory_reply.Claimed fd number)) p slot tag h is = absurd (subst (MayNumber fd) is h)
opens_by_claim (event.Fds directory_ask.Claim directory_reply.Full) p slot tag h is = absurd (subst IsBetween is h)
opens_by_claim (event.Fds directory_ask.Claim directory_reply.Released) p slot tag h is = absurd (subst IsBetween is h)
opens_by_claim (event.Fds (directory_ask.Release s) r) p slot tag h is = absurd (subst IsBetween is h)
opens_by_claim (event.Slot s q slot_reply.Closed) p slot tag h is = let f : phase.Releasing s ≡ phase.Opening slot tag = sym h ∙ is in absurd cc
opens_by_claim (event.Slot s q (slot_reply.Snapped pages)) p slot tag h is = absurd (subst MayPrepare is h)
opens_by_claim (event.Slot s q slot_reply.Gone) p slot tag h is = absurd (subst MayPrepare is h)
opens_by_claim (event.Slot s q r) p slot tag h is = absurd (subst IsBetween is h)
opens_by_claim (event.Enter run) p slot tag h is = absurd (subst MayWait is h)
opens_by_claim (event.Gate id (gate_ask.Enter run first) (gate_reply.Entered memory)) p slot tag h is = absurd (subst MayWait is h)
opens_by_claim e p slot tag h is = absurd (subst IsBetween is h)

-- a life is claimed by an actor that is about to start a child, and by no other
claims_ready : (i : Image) (b : ActorState) (x : Want) (c : Cells) (N : ℕ → Type 0) → IsRequest N b x → event_for c b x ≡ event.Lives lives_ask.Claim lives_reply.Claimed → IsStartable b
claims_ready i b (want.Lives lives_ask.Claim) c N own is = own
claims_ready i b (want.Slots q) c N own is = absurd cc
claims_ready i b (want.Slot slot q) c N own is = absurd cc
claims_ready i b (want.Fd fd q) c N own is = absurd cc
claims_ready i b q c N own is = absurd own

happens_ready : (w : WorldState) (b : ActorState) (e : Event) → Happens w b e → e ≡ event.Lives lives_ask.Claim lives_reply.Claimed → IsStartable b
happens_ready w b e (Requested r) is = claims_ready w.image b r.want w.cells _ r.own (sym r.is ∙ is)
happens_ready w b e (Joined j) is = let f = sym j.join.is ∙ is in absurd cc
happens_ready w b e (Snaps s) is = s.ready
happens_ready w b e (GateSnaps s) is = let f = sym s.is ∙ is in absurd cc
happens_ready w b e (Started s) is = s.ready
happens_ready w b e (Opens o) is = let f = sym o.is ∙ is in absurd cc
happens_ready w b e (Releases r) is = let f = sym r.is ∙ is in absurd cc
happens_ready w b e (Numbers n) is = let f = sym n.is ∙ is in absurd cc
happens_ready w b e (OpensFile f) is = let g = sym f.is ∙ is in absurd cc
happens_ready w b e (LastJoined j) is = let f = sym j.join.is ∙ is in absurd cc
happens_ready w b e (Ended f) is = let g = sym f.is ∙ is in absurd cc
happens_ready w b e (EntersGate x) is = let g = sym x.is ∙ is in absurd cc
happens_ready w b e (EntersRecycled x) is = let g = sym x.is ∙ is in absurd cc
happens_ready w b e (LeavesGate l) is = let g = sym l.is ∙ is in absurd cc
happens_ready w b e (LeavesRecycled l) is = let g = sym l.is ∙ is in absurd cc

-- so it is by whoever prepares a child
happens_preparing : (w : WorldState) (b : ActorState) (e : Event) → Happens w b e → IsPreparing b.phase → IsStartable b
happens_preparing w b e (Requested r) h = absurd (subst IsPreparing r.at h)
happens_preparing w b e (Joined j) h = absurd (subst IsPreparing j.at h)
happens_preparing w b e (Snaps s) h = s.ready
happens_preparing w b e (GateSnaps s) h = absurd (subst IsPreparing s.at h)
happens_preparing w b e (Started s) h = s.ready
happens_preparing w b e (Opens o) h = absurd (subst IsPreparing o.at h)
happens_preparing w b e (Releases r) h = absurd (subst IsPreparing r.at h)
happens_preparing w b e (Numbers n) h = absurd (subst IsPreparing n.at h)
happens_preparing w b e (OpensFile f) h = absurd (subst IsPreparing f.at h)
happens_preparing w b e (LastJoined j) h = absurd (subst IsPreparing j.at h)
happens_preparing w b e (Ended f) h = absurd (subst IsPreparing f.at h)
happens_preparing w b e (EntersGate x) h = absurd (subst IsPreparing x.at h)
happens_preparing w b e (EntersRecycled x) h = absurd (subst IsPreparing x.at h)
happens_preparing w b e (LeavesGate l) h = absurd (subst IsPreparing l.at h)
happens_preparing w b e (LeavesRecycled l) h = absurd (subst IsPreparing l.at h)

pub no_preparing : {X : Type 0} (p : Phase) → IsBetween p → IsPreparing p → X
no_preparing phase.Running h k = absurd k
no_preparing (phase.Within q) h k = absurd h
no_preparing (phase.Starting pre) h k = absurd h
no_preparing (phase.MakingGate pre) h k = absurd h
no_preparing (phase.Opening slot tag) h k = absurd h
no_preparing (phase.Releasing slot) h k = absurd h
no_preparing (phase.Entering entrance) h k = absurd h
no_preparing (phase.Waiting number) h k = absurd h
no_preparing (phase.OpeningFile o) h k = absurd h
no_preparing (phase.Ending e) h k = absurd k
no_preparing (phase.Ended e) h k = absurd k

snapped_startable : (b : ActorState) (p : Phase) (slot : ℕ) (bytes : Option (List ℕ)) → b.phase ≡ p → (IsPreparing b.phase → IsStartable b) → IsPreparing (has_snapped b p slot bytes).phase → IsStartable (has_snapped b p slot bytes)
snapped_startable b phase.Running slot bytes at ready k = absurd k
snapped_startable b (phase.Within q) slot bytes at ready k = absurd k
snapped_startable b (phase.Starting pre) slot bytes at ready k = startable_at b _ (ready (subst IsPreparing (sym at) tt))
snapped_startable b (phase.MakingGate pre) slot bytes at ready k = absurd (made_is (λ x. IsPreparing x.phase → ⊥) b (draft_at b.drafts (a0 b)) (copied_on b pre slot bytes) (λ x y. y) (λ g y. y) k)
snapped_startable b (phase.Opening s tag) slot bytes at ready k = absurd k
snapped_startable b (phase.Releasing s) slot bytes at ready k = absurd k
snapped_startable b (phase.Entering entrance) slot bytes at ready k = absurd k
snapped_startable b (phase.Waiting number) slot bytes at ready k = absurd k
snapped_startable b (phase.OpeningFile o) slot bytes at ready k = absurd k
snapped_startable b (phase.Ending e) slot bytes at ready k = absurd k
snapped_startable b (phase.Ended e) slot bytes at ready k = absurd k

takes_startable : (i : Image) (b : ActorState) (e : Event) → (e ≡ event.Lives lives_ask.Claim lives_reply.Claimed → IsStartable b) → (IsPreparing b.phase → IsStartable b) → IsPreparing (takes i b e).phase → IsStartable (takes i b e)
unfolding takes
takes_startable i b (event.Lives lives_ask.Claim lives_reply.Claimed) first ready k = startable_at b _ (first refl)
takes_startable i b (event.Lives lives_ask.Claim lives_reply.Full) first ready k = absurd k
takes_startable i b (event.Lives lives_ask.Claim lives_reply.Released) first ready k = absurd k
takes_startable i b (event.Lives (lives_ask.Release x) r) first ready k = absurd k
takes_startable i b (event.Slot slot q (slot_reply.Snapped pages)) first ready k = snapped_startable b b.phase slot (Some (bytes_listed pages)) refl ready k
takes_startable i b (event.Slot slot q slot_reply.Gone) first ready k = snapped_startable b b.phase slot None refl ready k
takes_startable i b (event.Slot slot q slot_reply.Closed) first ready k = absurd k
takes_startable i b (event.Slots directory_ask.Claim (directory_reply.Claimed place number)) first ready k = absurd k
takes_startable i b (event.Slots directory_ask.Claim directory_reply.Full) first ready k = absurd k
takes_startable i b (event.Slots directory_ask.Claim directory_reply.Released) first ready k = absurd k
takes_startable i b (event.Slots (directory_ask.Release place) r) first ready k = absurd k
takes_startable i b (event.Fds directory_ask.Claim (directory_reply.Claimed fd number)) first ready k = absurd (numbered_is (λ x. IsPreparing x.phase → ⊥) b b.phase fd (λ y. y) (λ o y. y) k)
takes_startable i b (event.Fds directory_ask.Claim directory_reply.Full) first ready k = absurd k
takes_startable i b (event.Fds directory_ask.Claim directory_reply.Released) first ready k = absurd k
takes_startable i b (event.Fds (directory_ask.Release place) r) first ready k = absurd k
takes_startable i b (event.Slot slot q r) first ready k = no_preparing (takes i b (event.Slot slot q r)).phase (takes_between i b (event.Slot slot q r)) k
takes_startable i b (event.Enter run) first ready k = absurd (entered_is (λ x. IsPreparing x.phase → ⊥) b b.phase (λ y. y) (λ x y. y) k)
takes_startable i b (event.Gate id (gate_ask.Enter run brought) (gate_reply.Entered memory)) first ready k = absurd (entered_is (λ x. IsPreparing x.phase → ⊥) b b.phase (λ y. y) (λ x y. y) k)
takes_startable i b e first ready k = no_preparing (takes i b e).phase (takes_between i b e) k

-- whoever makes a gate may give it its sheet
pub happens_making : (w : WorldState) (b : ActorState) (e : Event) → Happens w b e → (x : Preparation) → b.phase ≡ phase.MakingGate x → IsMakeable b x
happens_making w b e (GateSnaps s) x at = let both : phase.MakingGate s.preparation ≡ phase.MakingGate x = sym s.at ∙ at in let same : s.preparation ≡ x = cc in subst (IsMakeable b) same s.granting
happens_making w b e (Requested r) x at = absurd (subst IsMaking (sym at ∙ r.at) tt)
happens_making w b e (Joined j) x at = absurd (subst IsMaking (sym at ∙ j.at) tt)
happens_making w b e (Snaps s) x at = absurd (subst IsMaking (sym at ∙ s.at) tt)
happens_making w b e (Started s) x at = absurd (subst IsMaking (sym at ∙ s.at) tt)
happens_making w b e (Opens o) x at = absurd (subst IsMaking (sym at ∙ o.at) tt)
happens_making w b e (Releases r) x at = absurd (subst IsMaking (sym at ∙ r.at) tt)
happens_making w b e (Numbers n) x at = absurd (subst IsMaking (sym at ∙ n.at) tt)
happens_making w b e (OpensFile f) x at = absurd (subst IsMaking (sym at ∙ f.at) tt)
happens_making w b e (LastJoined j) x at = absurd (subst IsMaking (sym at ∙ j.at) tt)
happens_making w b e (Ended f) x at = absurd (subst IsMaking (sym at ∙ f.at) tt)
happens_making w b e (EntersGate y) x at = absurd (subst IsMaking (sym at ∙ y.at) tt)
happens_making w b e (EntersRecycled y) x at = absurd (subst IsMaking (sym at ∙ y.at) tt)
happens_making w b e (LeavesGate l) x at = absurd (subst IsMaking (sym at ∙ l.at) tt)
happens_making w b e (LeavesRecycled l) x at = absurd (subst IsMaking (sym at ∙ l.at) tt)

-- a slot is claimed by an actor that asks for pages that a tag may have, and is one of the directory's
claims_slot : (b : ActorState) (x : Want) (c : Cells) (N : ℕ → Type 0) (slot tag : ℕ) → IsRequest N b x → event_for c b x ≡ event.Slots directory_ask.Claim (directory_reply.Claimed slot tag)
    → AsksForPages b × (directory_reply_of c.places directory_ask.Claim ≡ directory_reply.Claimed slot tag)
claims_slot b (want.Slots directory_ask.Claim) c N slot tag own is = (own, cc)
claims_slot b (want.Slots (directory_ask.Release place)) c N slot tag own is = absurd own
claims_slot b (want.Slot s q) c N slot tag own is = absurd cc
claims_slot b (want.Fd fd q) c N slot tag own is = absurd cc
claims_slot b (want.Lives q) c N slot tag own is = absurd cc
claims_slot b q c N slot tag own is = absurd own

pub happens_claim : (w : WorldState) (b : ActorState) (e : Event) (slot tag : ℕ) → Happens w b e → e ≡ event.Slots directory_ask.Claim (directory_reply.Claimed slot tag)
    → AsksForPages b × (directory_reply_of w.cells.places directory_ask.Claim ≡ directory_reply.Claimed slot tag)
happens_claim w b e slot tag (Requested r) is = claims_slot b r.want w.cells _ slot tag r.own (sym r.is ∙ is)
happens_claim w b e slot tag (Joined j) is = let f = sym j.join.is ∙ is in absurd cc
happens_claim w b e slot tag (Snaps s) is = let f = sym s.is ∙ is in absurd cc
happens_claim w b e slot tag (GateSnaps s) is = let f = sym s.is ∙ is in absurd cc
happens_claim w b e slot tag (Started s) is = let f = sym s.is ∙ is in absurd cc
happens_claim w b e slot tag (Opens o) is = let f = sym o.is ∙ is in absurd cc
happens_claim w b e slot tag (Releases r) is = let f = sym r.is ∙ is in absurd cc
happens_claim w b e slot tag (Numbers n) is = let f = sym n.is ∙ is in absurd cc
happens_claim w b e slot tag (OpensFile f) is = let g = sym f.is ∙ is in absurd cc
happens_claim w b e slot tag (LastJoined j) is = let f = sym j.join.is ∙ is in absurd cc
happens_claim w b e slot tag (Ended f) is = let g = sym f.is ∙ is in absurd cc
happens_claim w b e slot tag (EntersGate x) is = let g = sym x.is ∙ is in absurd cc
happens_claim w b e slot tag (EntersRecycled x) is = let g = sym x.is ∙ is in absurd cc
happens_claim w b e slot tag (LeavesGate l) is = let g = sym l.is ∙ is in absurd cc
happens_claim w b e slot tag (LeavesRecycled l) is = let g = sym l.is ∙ is in absurd cc

claimed_pages : (i : Image) (b : ActorState) (e : Event) (slot tag : ℕ) → e ≡ event.Slots directory_ask.Claim (directory_reply.Claimed slot tag) → AsksForPages b → AsksForPages (takes i b e)
unfolding takes
claimed_pages i b e slot tag is pages = subst (λ y. AsksForPages (takes i b y)) (sym is) pages

-- a number is claimed by an actor that opens a file and has the fuel for its path, and is one of the directory's
no_claim : (x : Want) (N : ℕ → Type 0) (b : ActorState) (c : Cells) (fd number : ℕ) → IsRequest N b x → event_for c b x ≡ event.Fds directory_ask.Claim (directory_reply.Claimed fd number) → ⊥
no_claim (want.Slots q) N b c fd number own is = absurd cc
no_claim (want.Slot slot q) N b c fd number own is = absurd cc
no_claim (want.Fd n q) N b c fd number own is = absurd cc
no_claim (want.Lives q) N b c fd number own is = absurd cc
no_claim q N b c fd number own is = absurd own

pub happens_number : (w : WorldState) (b : ActorState) (e : Event) (fd number : ℕ) → Happens w b e → e ≡ event.Fds directory_ask.Claim (directory_reply.Claimed fd number)
    → (a1 b ≤ b.fuel) × (directory_reply_of w.cells.numbers directory_ask.Claim ≡ directory_reply.Claimed fd number)
happens_number w b e fd number (Requested r) is = absurd (no_claim r.want _ b w.cells fd number r.own (sym r.is ∙ is))
happens_number w b e fd number (Joined j) is = let f = sym j.join.is ∙ is in absurd cc
happens_number w b e fd number (Snaps s) is = let f = sym s.is ∙ is in absurd cc
happens_number w b e fd number (GateSnaps s) is = let f = sym s.is ∙ is in absurd cc
happens_number w b e fd number (Started s) is = let f = sym s.is ∙ is in absurd cc
happens_number w b e fd number (Opens o) is = let f = sym o.is ∙ is in absurd cc
happens_number w b e fd number (Releases r) is = let f = sym r.is ∙ is in absurd cc
happens_number w b e fd number (Numbers n) is = let f = sym n.is ∙ is in (n.paid, cc)
happens_number w b e fd number (OpensFile o) is = let g = sym o.is ∙ is in absurd cc
happens_number w b e fd number (LastJoined j) is = let f = sym j.join.is ∙ is in absurd cc
happens_number w b e fd number (Ended f) is = let g = sym f.is ∙ is in absurd cc
happens_number w b e fd number (EntersGate x) is = let g = sym x.is ∙ is in absurd cc
happens_number w b e fd number (EntersRecycled x) is = let g = sym x.is ∙ is in absurd cc
happens_number w b e fd number (LeavesGate l) is = let g = sym l.is ∙ is in absurd cc
happens_number w b e fd number (LeavesRecycled l) is = let g = sym l.is ∙ is in absurd cc

numbered_pays : (i : Image) (b : ActorState) (e : Event) (fd number : ℕ) → e ≡ event.Fds directory_ask.Claim (directory_reply.Claimed fd number) → a1 b ≤ b.fuel → a1 (takes i b e) ≤ (takes i b e).fuel
unfolding takes
numbered_pays i b e fd number is paid =
    subst (λ y. a1 (takes i b y) ≤ (takes i b y).fuel) (sym is) (numbered_is (λ x. a1 x ≤ x.fuel) b b.phase fd paid (λ o. paid))

happens_opening : (w : WorldState) (b : ActorState) (e : Event) (fd number : ℕ) → Happens w b e → e ≡ event.Fds directory_ask.Claim (directory_reply.Claimed fd number)
    → (o : FileOpening) × (b.phase ≡ phase.OpeningFile o) × IsOpening b (λ c. request_at w.image c b) o
happens_opening w b e fd number (Requested r) is = absurd (no_claim r.want _ b w.cells fd number r.own (sym r.is ∙ is))
happens_opening w b e fd number (Joined j) is = let f = sym j.join.is ∙ is in absurd cc
happens_opening w b e fd number (Snaps s) is = let f = sym s.is ∙ is in absurd cc
happens_opening w b e fd number (GateSnaps s) is = let f = sym s.is ∙ is in absurd cc
happens_opening w b e fd number (Started s) is = let f = sym s.is ∙ is in absurd cc
happens_opening w b e fd number (Opens o) is = let f = sym o.is ∙ is in absurd cc
happens_opening w b e fd number (Releases r) is = let f = sym r.is ∙ is in absurd cc
happens_opening w b e fd number (Numbers n) is = (n.opening, n.at, n.opens)
happens_opening w b e fd number (OpensFile o) is = let g = sym o.is ∙ is in absurd cc
happens_opening w b e fd number (LastJoined j) is = let f = sym j.join.is ∙ is in absurd cc
happens_opening w b e fd number (Ended f) is = let g = sym f.is ∙ is in absurd cc
happens_opening w b e fd number (EntersGate x) is = let g = sym x.is ∙ is in absurd cc
happens_opening w b e fd number (EntersRecycled x) is = let g = sym x.is ∙ is in absurd cc
happens_opening w b e fd number (LeavesGate l) is = let g = sym l.is ∙ is in absurd cc
happens_opening w b e fd number (LeavesRecycled l) is = let g = sym l.is ∙ is in absurd cc

-- it opens the same file still
numbered_by : (i : Image) (b : ActorState) (e : Event) (fd number : ℕ) (o : FileOpening) → e ≡ event.Fds directory_ask.Claim (directory_reply.Claimed fd number) → b.phase ≡ phase.OpeningFile o
    → takes i b e ≡ record b { phase = phase.OpeningFile (record o { number = Some fd }) }
unfolding takes
numbered_by i b e fd number o is at = ap (takes i b) is ∙ ap (λ p. has_number b p fd) at

numbered_opens : (i : Image) (b : ActorState) (e : Event) (fd number : ℕ) (o : FileOpening) → e ≡ event.Fds directory_ask.Claim (directory_reply.Claimed fd number) → b.phase ≡ phase.OpeningFile o → IsOpening b (λ c. request_at i c b) o
    → (x : FileOpening) → (takes i b e).phase ≡ phase.OpeningFile x → IsOpening (takes i b e) (λ c. request_at i c (takes i b e)) x
numbered_opens i b e fd number o is at h x goes =
    let now = numbered_by i b e fd number o is at in
    let y : ActorState = record b { phase = phase.OpeningFile (record o { number = Some fd }) } in
    let both : phase.OpeningFile (record o { number = Some fd }) ≡ phase.OpeningFile x = sym (ap (λ (z : ActorState). z.phase) now) ∙ goes in
    let same : record o { number = Some fd } ≡ x = cc in
    let own : IsOpening y (λ c. request_at i c y) (record o { number = Some fd }) =
    record { path = h.path; file = h.file; bits = h.bits; told = h.told; allowed = h.allowed; passed = h.passed; is = ap (λ (z : FileOpening). record z { number = Some fd }) h.is } in
    subst (λ (z : ActorState). IsOpening z (λ c. request_at i c z) x) (sym now) (subst (IsOpening y (λ c. request_at i c y)) same own)

pub takes_reads : (w : WorldState) (b : ActorState) (e : Event) → GivesBelow (slots_in w.image) w.cells.places → GivesBelow (fds_in w.image) w.cells.numbers
    → Happens w b e → ReadsAs w.image (takes w.image b e) (takes w.image b e).phase
takes_reads w b e sound numbers h =
    leaves_reads w.image (takes w.image b e) e (takes w.image b e).phase (takes_between w.image b e) (takes_startable w.image b e (happens_ready w b e h) (happens_preparing w b e h))
    (takes_granting w.image b e (happens_making w b e h))
    (λ slot tag is. let c = happens_claim w b e slot tag h is in (claimed_inside (slots_in w.image) w.cells.places slot tag sound c.1, claimed_pages w.image b e slot tag is c.0))
    (λ fd number is.
    let c = happens_number w b e fd number h is in
    let o = happens_opening w b e fd number h is in
    (numbered_pays w.image b e fd number is c.0, claimed_inside (fds_in w.image) w.cells.numbers fd number numbers c.1, numbered_opens w.image b e fd number o.0 is o.1 o.2))

-- what a join makes of the actor, by what it was at
pub joined_at : (b : ActorState) (p : Phase) (x : End) (k fuel : ℕ) → b.phase ≡ p
    → answered_end (record b { fuel = b.fuel + fuel; unjoined = without_child b.unjoined k }) b.phase x ≡ answered_end (record b { fuel = b.fuel + fuel; unjoined = without_child b.unjoined k }) p x
joined_at b p x k fuel at = ap (λ q. answered_end (record b { fuel = b.fuel + fuel; unjoined = without_child b.unjoined k }) q x) at
