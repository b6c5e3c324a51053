-- Who loads from tags, and who reads streams.
use Rattle.std.proofs.Common.{◌≡◌, ℕ, ◌==◌, Bool, true, false, true≢false, List, [], ◌∷◌, length, refl, sym, ap, subst, ◌∙◌}
use Rattle.std.proofs.lemmas.Bool.{eqb-true}
use Rattle.std.specs.Prelude.{Option, Some, None, option_map, not, nat_lt, if◌then◌else◌}
use Rattle.wedge_base.specs.Rights.{at_least, read_bit}
use Rattle.wedge_base.specs.declared.rights.FdBits.{FdBits}
use Rattle.wedge_base.specs.declared.rights.Right.TheVariants as right
use Rattle.wedge_base.specs.declared.rights.StreamKind.{StreamKind}
use Rattle.wedge_base.specs.declared.rights.StreamKind.TheVariants as kind
use Rattle.wedge_events.specs.Slots.{Segment, slot_reply as slot_reply_of}
use Rattle.wedge_events.specs.Streams.{Stream, stream_reply as stream_reply_of, read_reply}
use Rattle.wedge_events.specs.declared.cells.DirectoryAsk.TheVariants as directory_ask
use Rattle.wedge_events.specs.declared.cells.Live.{Live}
use Rattle.wedge_events.specs.declared.cells.LivesAsk.TheVariants as lives_ask
use Rattle.wedge_events.specs.declared.cells.SlotAsk.TheVariants as slot_ask
use Rattle.wedge_events.specs.declared.cells.SlotReply.TheVariants as slot_reply
use Rattle.wedge_events.specs.declared.cells.StreamAsk.{StreamAsk}
use Rattle.wedge_events.specs.declared.cells.StreamAsk.TheVariants as stream_ask
use Rattle.wedge_events.specs.declared.cells.StreamReply.TheVariants as reply
use Rattle.wedge_events.specs.declared.events.Event.{Event}
use Rattle.wedge_events.specs.declared.events.Event.TheVariants as event
use Rattle.wedge_events.specs.declared.events.SlotWant.TheVariants as slot_want
use Rattle.wedge_events.specs.declared.events.Turn.{Turn}
use Rattle.wedge_events.specs.declared.events.Want.{Want}
use Rattle.wedge_events.specs.declared.events.Want.TheVariants as want
use Rattle.machine.specs.Actors.{ActorState, right_of, bits_of}
use Rattle.machine.specs.Local.{rest}
use Rattle.machine.specs.Take.{pair}
use Rattle.run_laws.specs.Allowed.{may_use}
use Rattle.machine.specs.Cells.{Cells, slot_in, stream_in}
use Rattle.run_laws.specs.Laws.{RunsReadTheirOwn}
use Rattle.run_laws.specs.Moments.{EachTurn}
use Rattle.run_laws.specs.Readers.{loads_in, TurnLoadsOwn, reads_of, TurnReadsOwn}
use Rattle.machine.specs.Worlds.{WorldState, initial_state, turn_of, resumed, Runs}
use Rattle.run_laws.proofs.Between.{event_for}
use Rattle.run_laws.proofs.Happening.{Happens, Requested, Joined, Snaps, GateSnaps, Started, Opens, Releases, Numbers, OpensFile, LastJoined, Ended, EntersGate, LeavesGate, EntersRecycled, LeavesRecycled}
use Rattle.run_laws.proofs.Meeting.{IsRequest}
use Rattle.run_laws.proofs.Settling.{AllReady, turn_happens, turn_ready, opening_ready}
use Rattle.run_laws.proofs.StreamCalls.{IsStreamRequest}
use Rattle.run_laws.proofs.Turns.{turn_from}
use Rattle.run_laws.proofs.Writing.{SameRights, at_rest_rights}

-- ---- loads

-- a tag lives in a slot, and the actor may load from it
abbrev IsLoadable : Cells → ActorState → ℕ → Type 0
IsLoadable c b slot = (g : Segment) × (slot_in c slot ≡ Some g) × (may_use b g.tag right.Read ≡ true)

-- a load that took place was allowed
loaded_by : (s slot offset width value : ℕ) (live : Option Live) (tag : ℕ) (within held : Bool)
    → loads_in slot (event.Slot s (slot_ask.Load width offset live) (if not within then slot_reply.Unmapped else if held then slot_reply.Loaded value else slot_reply.Denied tag right.Read)) ≡ true
    → ((s == slot) ≡ true) × (held ≡ true)
loaded_by s slot offset width value live tag false held e = absurd (true≢false (sym e))
loaded_by s slot offset width value live tag true false e = absurd (true≢false (sym e))
loaded_by s slot offset width value live tag true true e = (e, refl)

load_owned : (c : Cells) (b : ActorState) (s offset width slot : ℕ) (o : Option Segment) → slot_in c s ≡ o
    → loads_in slot (event.Slot s (slot_ask.Load width offset (pair b (option_map (λ g. g.tag) o))) (slot_reply_of o (slot_ask.Load width offset (pair b (option_map (λ g. g.tag) o))))) ≡ true → IsLoadable c b slot
load_owned c b s offset width slot None there e = absurd (true≢false (sym e))
load_owned c b s offset width slot (Some g) there e =
    let live = Some (record { tag = g.tag; right = right_of b g.tag }) in
    let both = loaded_by s slot offset width _ live g.tag (nat_lt offset (length g.bytes)) (at_least (right_of b g.tag) right.Read) e in
    (g, subst (λ n. slot_in c n ≡ Some g) (eqb-true s slot both.0) there, both.1)

-- ---- reads

-- a read that was given bytes had its bit
given_by : (n fd : ℕ) (bits : FdBits) (count : ℕ) (x : Stream) (v t : Bool) (k : StreamKind)
    → reads_of fd (event.Fd n (stream_ask.Read bits count) (if v then (if t then read_reply k x count else reply.Denied read_bit) else reply.NoSuch)) ≡ true → ((n == fd) ≡ true) × (t ≡ true)
given_by n fd bits count x false t k e = absurd (true≢false (sym e))
given_by n fd bits count x true false k e = absurd (true≢false (sym e))
given_by n fd bits count x true true kind.Source e = (e, refl)
given_by n fd bits count x true true kind.Append e = absurd (true≢false (sym e))

read_owned : (b : ActorState) (n fd : ℕ) (bits : FdBits) (count : ℕ) (s : Option Stream) → bits ≡ bits_of b n
    → reads_of fd (event.Fd n (stream_ask.Read bits count) (stream_reply_of s (stream_ask.Read bits count))) ≡ true → (bits_of b fd).read ≡ true
read_owned b n fd bits count None own e = absurd (true≢false (sym e))
read_owned b n fd bits count (Some s) own e =
    let both = given_by n fd bits count s s.live bits.read s.kind e in
    subst (λ m. (bits_of b m).read ≡ true) (eqb-true n fd both.0) (subst (λ x. x.read ≡ true) own both.1)

stream_owned : (b : ActorState) (n fd : ℕ) (q : StreamAsk) (s : Option Stream) → IsStreamRequest b n q → reads_of fd (event.Fd n q (stream_reply_of s q)) ≡ true → (bits_of b fd).read ≡ true
stream_owned b n fd (stream_ask.Open k bytes) s own e = absurd own
stream_owned b n fd (stream_ask.Read bits count) s own e = read_owned b n fd bits count s own.0 e
stream_owned b n fd (stream_ask.Append bits bytes) s own e = absurd (true≢false (sym e))
stream_owned b n fd (stream_ask.Close bits) s own e = absurd (true≢false (sym e))

-- ---- the event to which an actor comes

record IsOwn (c : Cells) (b : ActorState) (e : Event) : Type 0 where
  loads : (slot : ℕ) → loads_in slot e ≡ true → IsLoadable c b slot
  reads : (fd : ℕ) → reads_of fd e ≡ true → (bits_of b fd).read ≡ true

-- an event that is neither
neither : (c : Cells) (b : ActorState) (e : Event) → ((slot : ℕ) → loads_in slot e ≡ false) → ((fd : ℕ) → reads_of fd e ≡ false) → IsOwn c b e
neither c b e no_load no_read = record {
  loads = λ slot h. absurd (true≢false (sym h ∙ no_load slot));
  reads = λ fd h. absurd (true≢false (sym h ∙ no_read fd));
}

want_own : (N : ℕ → Type 0) (c : Cells) (b : ActorState) (q : Want) → IsRequest N b q → IsOwn c b (event_for c b q)
want_own N c b (want.Slots directory_ask.Claim) own = neither c b _ (λ slot. refl) (λ fd. refl)
want_own N c b (want.Slot s (slot_want.Close tag)) own = neither c b _ (λ slot. refl) (λ fd. refl)
want_own N c b (want.Slot s (slot_want.Smalloc tag size)) own = neither c b _ (λ slot. refl) (λ fd. refl)
want_own N c b (want.Slot s (slot_want.Sfree offset)) own = neither c b _ (λ slot. refl) (λ fd. refl)
want_own N c b (want.Slot s (slot_want.Store offset width value)) own = neither c b _ (λ slot. refl) (λ fd. refl)
want_own N c b (want.Slot s (slot_want.Load offset width)) own =
    record { loads = λ slot e. load_owned c b s offset width slot (slot_in c s) refl e; reads = λ fd e. absurd (true≢false (sym e)) }
want_own N c b (want.Fd n q) own =
    record { loads = λ slot e. absurd (true≢false (sym e)); reads = λ fd e. stream_owned b n fd q (stream_in c n) own e }
want_own N c b (want.Lives lives_ask.Claim) own = neither c b _ (λ slot. refl) (λ fd. refl)
want_own N c b q own = absurd own

event_own : (w : WorldState) (b : ActorState) (e : Event) → Happens w b e → IsOwn w.cells b e
event_own w b e (Requested r) = subst (IsOwn w.cells b) (sym r.is) (want_own _ w.cells b r.want r.own)
event_own w b e (Joined j) = subst (IsOwn w.cells b) (sym j.join.is) (neither w.cells b _ (λ slot. refl) (λ fd. refl))
event_own w b e (Snaps s) = subst (IsOwn w.cells b) (sym s.is) (neither w.cells b _ (λ slot. refl) (λ fd. refl))
event_own w b e (GateSnaps s) = subst (IsOwn w.cells b) (sym s.is) (neither w.cells b _ (λ slot. refl) (λ fd. refl))
event_own w b e (Started s) = subst (IsOwn w.cells b) (sym s.is) (neither w.cells b _ (λ slot. refl) (λ fd. refl))
event_own w b e (Opens o) = subst (IsOwn w.cells b) (sym o.is) (neither w.cells b _ (λ slot. refl) (λ fd. refl))
event_own w b e (Releases r) = subst (IsOwn w.cells b) (sym r.is) (neither w.cells b _ (λ slot. refl) (λ fd. refl))
event_own w b e (Numbers n) = subst (IsOwn w.cells b) (sym n.is) (neither w.cells b _ (λ slot. refl) (λ fd. refl))
event_own w b e (OpensFile f) = subst (IsOwn w.cells b) (sym f.is) (neither w.cells b _ (λ slot. refl) (λ fd. refl))
event_own w b e (LastJoined j) = subst (IsOwn w.cells b) (sym j.join.is) (neither w.cells b _ (λ slot. refl) (λ fd. refl))
event_own w b e (Ended f) = subst (IsOwn w.cells b) (sym f.is) (neither w.cells b _ (λ slot. refl) (λ fd. refl))
event_own w b e (EntersGate x) = subst (IsOwn w.cells b) (sym x.is) (neither w.cells b _ (λ slot. refl) (λ fd. refl))
event_own w b e (EntersRecycled x) = subst (IsOwn w.cells b) (sym x.is) (neither w.cells b _ (λ slot. refl) (λ fd. refl))
event_own w b e (LeavesGate l) = subst (IsOwn w.cells b) (sym l.is) (neither w.cells b _ (λ slot. refl) (λ fd. refl))
event_own w b e (LeavesRecycled l) = subst (IsOwn w.cells b) (sym l.is) (neither w.cells b _ (λ slot. refl) (λ fd. refl))

-- ---- turns, and runs

-- whoever loads from a slot in a turn may load from the tag that lives there, and whoever reads may read
record TurnOwns (w : WorldState) (t : Turn) (new : WorldState) : Type 0 where
  loads : TurnLoadsOwn w t new
  reads : TurnReadsOwn w t new

turn_owns : (w : WorldState) (t : Turn) (new : WorldState) → AllReady w → turn_of w t.actor ≡ Some (record { event = t.event; world = new }) → TurnOwns w t new
turn_owns w t new all e =
    let p = turn_from w t.actor t.event new e in
    let own = event_own (resumed w p.actor) (rest w.image p.parts.actor) t.event (turn_happens w t.actor t.event new all p) in
    let same : SameRights p.actor (rest w.image p.parts.actor) = subst (λ (x : ActorState). SameRights p.actor (rest w.image x)) (sym p.is) (at_rest_rights w p.actor) in
    record {
      loads = λ slot loaded.
          let o = own.loads slot loaded in
          (o.0, o.1, (p.actor, p.named, ap (λ r. at_least r right.Read) (sym (same.rights o.0.tag)) ∙ o.2));
      reads = λ fd given.
          let o = own.reads fd given in
          (p.actor, p.named, ap (λ x. x.read) (sym (same.bits fd)) ∙ o);
    }

each_turn : (P : WorldState → Turn → WorldState → Type 0)
    → ((w : WorldState) (t : Turn) (new : WorldState) → AllReady w → turn_of w t.actor ≡ Some (record { event = t.event; world = new }) → P w t new)
    → (old : WorldState) (turns : List Turn) (new : WorldState) → AllReady old → Runs old turns new → EachTurn P old turns
each_turn P by old [] new all run = tt
each_turn P by old (t ∷ ts) new all run = (run.0, run.1, by old t run.0 all run.1, each_turn P by run.0 ts new (turn_ready old t.actor t.event run.0 all run.1) run.2)

pub runs_read_their_own : RunsReadTheirOwn
runs_read_their_own i turns new run = record {
  loaders = each_turn TurnLoadsOwn (λ w t n all e. (turn_owns w t n all e).loads) (initial_state i) turns new (opening_ready i) run;
  readers = each_turn TurnReadsOwn (λ w t n all e. (turn_owns w t n all e).reads) (initial_state i) turns new (opening_ready i) run;
}
