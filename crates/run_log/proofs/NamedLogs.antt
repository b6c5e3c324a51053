-- Each note of a schedule names what is there.
use Rattle.std.proofs.Common.{◌≡◌, inl, ℕ, zero, suc, ◌<◌, ◌≤◌, List, [], ◌∷◌, length, refl, sym, ap, subst, ◌∙◌, arith}
use Rattle.std.specs.Prelude.{Option, Some, None, option_map, slice_get}
use Rattle.wedge_base.specs.Images.{Image}
use Rattle.wedge_base.specs.declared.image.FdEntry.{FdEntry}
use Rattle.wedge_events.specs.Slots.{slot_reply as slot_reply_of}
use Rattle.wedge_events.specs.Streams.{Stream, declared_stream, stream_reply as stream_reply_of}
use Rattle.wedge_events.specs.Wants.{slot_ask_with}
use Rattle.wedge_events.specs.declared.cells.SlotReply.{SlotReply}
use Rattle.wedge_events.specs.declared.cells.SlotReply.TheVariants as slot_reply
use Rattle.wedge_events.specs.declared.cells.StreamAsk.{StreamAsk}
use Rattle.wedge_events.specs.declared.cells.StreamAsk.TheVariants as stream_ask
use Rattle.wedge_events.specs.declared.cells.StreamReply.{StreamReply}
use Rattle.wedge_events.specs.declared.cells.StreamReply.TheVariants as stream_reply
use Rattle.wedge_events.specs.declared.events.Event.{Event}
use Rattle.wedge_events.specs.declared.events.SlotWant.{SlotWant}
use Rattle.wedge_events.specs.declared.events.SlotWant.TheVariants as slot_want
use Rattle.wedge_events.specs.declared.events.Want.{Want}
use Rattle.wedge_events.specs.declared.events.Want.TheVariants as want
use Rattle.image_form.specs.Rules.{IsImage}
use Rattle.callgate.specs.declared.gate.Gate.{Gate}
use Rattle.machine.specs.Actors.{ActorState}
use Rattle.machine.specs.Calls.{a0}
use Rattle.machine.specs.Cells.{Cells, slot_in, stream_in, tag_in}
use Rattle.machine.specs.Entrance.{Entrance}
use Rattle.machine.specs.Local.{rest}
use Rattle.machine.specs.Take.{pair}
use Rattle.machine.specs.Worlds.{WorldState, Taken, initial_state, ready, resumed, turn_of}
use Rattle.machine.specs.declared.phase.Phase.TheVariants as phase
use Rattle.run_laws.specs.CellHistories.{StreamMode, mode, mode_in}
use Rattle.run_laws.specs.Occupancy.{AreOccupied}
use Rattle.run_laws.proofs.Between.{event_for}
use Rattle.run_laws.proofs.EnteringGates.{IsEnterable}
use Rattle.run_laws.proofs.GateRuns.{each_entered}
use Rattle.run_laws.proofs.Happening.{Happens, Requested, Joined, Snaps, GateSnaps, Started, Opens, Releases, Numbers, OpensFile, LastJoined, Ended, EntersGate, LeavesGate, EntersRecycled, LeavesRecycled}
use Rattle.run_laws.proofs.Meeting.{IsRequest, LoadsAt}
use Rattle.run_laws.proofs.OccupiedRuns.{Occupied, turn_occupied, opening_occupied}
use Rattle.run_laws.proofs.Opening.{cells_open}
use Rattle.run_laws.proofs.Settling.{AllReady, turn_happens, turn_ready, opening_ready}
use Rattle.run_laws.proofs.Turns.{turn_from, ready_sheet}
use Rattle.run_notes.specs.Doers.{doer_of, entry_of}
use Rattle.run_notes.specs.Items.{tag_item, fd_item}
use Rattle.run_notes.specs.Notes.{Noted, noted_rest, slot_note, stream_note, entry_note, event_note}
use Rattle.run_notes.specs.declared.chain.CallChain.{CallChain}
use Rattle.run_notes.specs.declared.doer.Doer.{Doer}
use Rattle.run_notes.specs.declared.items.Makings.{Makings}
use Rattle.run_log.specs.Logs.{Log}
use Rattle.run_log.specs.Logging.{opening_log, log_event_by, with_noted, log_turn, log_from}
use Rattle.run_log.specs.NamedNotes.{BeginsAt, IsTagNamed, IsStreamNamed, NotesAreNamed}
use Rattle.run_log.proofs.Entries.{HasEntries, AreEntries, EachEntries, ready_entries, rest_entries, turn_entries, opening_entries}
use Rattle.run_log.proofs.KnownItems.{Knows, tag_named, fd_named, living_known, CopiesAreNamed, copies_named}
use Rattle.run_log.proofs.KnownTurns.{makings_of_turn, turn_knows}
use Rattle.run_log.proofs.LogTurns.{logs_turn}
use Rattle.run_log.proofs.NamedRests.{AreNamed, IsOptionNamed, note_named, rest_named}
use Rattle.world_turns.specs.Progress.{IsTurn}

-- ---- the note of an event

slot_named : (i : Image) (m : Makings) (d : Doer) (ch : CallChain) (b : ActorState) (o : Option ℕ) (q : SlotWant) (r : SlotReply) → BeginsAt i d.compartment → ((tag : ℕ) → o ≡ Some tag → IsTagNamed i (tag_item i m tag))
    → IsOptionNamed i (slot_note i m d ch (slot_ask_with q (pair b o)) r)
slot_named i m d ch b None (slot_want.Load offset width) (slot_reply.Loaded value) own named = tt
slot_named i m d ch b (Some tag) (slot_want.Load offset width) (slot_reply.Loaded value) own named = record { compartment = own; mode = refl; item = named tag refl }
slot_named i m d ch b None (slot_want.Store offset width value) slot_reply.Stored own named = tt
slot_named i m d ch b (Some tag) (slot_want.Store offset width value) slot_reply.Stored own named = record { compartment = own; mode = refl; item = named tag refl }
slot_named i m d ch b o q r own named = tt

asked_named : (i : Image) (m : Makings) (d : Doer) (ch : CallChain) (fd : ℕ) (q : StreamAsk) (r : StreamReply) → BeginsAt i d.compartment → IsStreamNamed i (fd_item i m fd) → IsOptionNamed i (stream_note i m d ch fd q r)
asked_named i m d ch fd (stream_ask.Read bits count) (stream_reply.Given bytes) own named = record { compartment = own; mode = refl; item = named }
asked_named i m d ch fd (stream_ask.Append bits bytes) stream_reply.Appended own named = record { compartment = own; mode = refl; item = named }
asked_named i m d ch fd q r own named = tt

stream_named : (i : Image) (m : Makings) (d : Doer) (ch : CallChain) (fd : ℕ) (s : Option Stream) (q : StreamAsk) → BeginsAt i d.compartment → ((x : Stream) → s ≡ Some x → IsStreamNamed i (fd_item i m fd)) → IsOptionNamed i (stream_note i m d ch fd q (stream_reply_of s q))
stream_named i m d ch fd None (stream_ask.Open k bytes) own named = tt
stream_named i m d ch fd None (stream_ask.Read bits count) own named = tt
stream_named i m d ch fd None (stream_ask.Append bits bytes) own named = tt
stream_named i m d ch fd None (stream_ask.Close bits) own named = tt
stream_named i m d ch fd (Some x) q own named = asked_named i m d ch fd q (stream_reply_of (Some x) q) own (named x refl)

-- the tag that lives in a slot, and the stream behind a descriptor
abbrev TagsAreNamed : Image → Cells → Makings → Type 0
TagsAreNamed i c m = (slot tag : ℕ) → tag_in c slot ≡ Some tag → IsTagNamed i (tag_item i m tag)

abbrev StreamsAreNamed : Image → Cells → Makings → Type 0
StreamsAreNamed i c m = (fd : ℕ) (x : Stream) → stream_in c fd ≡ Some x → IsStreamNamed i (fd_item i m fd)

request_named : (i : Image) (c : Cells) (m : Makings) (b : ActorState) (ch : CallChain) (N : ℕ → Type 0) (q : Want) → IsRequest N b q → BeginsAt i b.compartment → TagsAreNamed i c m → StreamsAreNamed i c m
    → IsOptionNamed i (event_note i m (doer_of b) ch (event_for c b q))
request_named i c m b ch N (want.Slots q) asked own tags streams = tt
request_named i c m b ch N (want.Slot slot q) asked own tags streams = slot_named i m (doer_of b) ch b (tag_in c slot) q (slot_reply_of (slot_in c slot) (slot_ask_with q (pair b (tag_in c slot)))) own (tags slot)
request_named i c m b ch N (want.Fd fd q) asked own tags streams = stream_named i m (doer_of b) ch fd (stream_in c fd) q own (streams fd)
request_named i c m b ch N (want.Lives q) asked own tags streams = tt
request_named i c m b ch N q asked own tags streams = absurd asked

entry_named : (i : Image) (b : ActorState) (ch : CallChain) (x : Entrance) → b.phase ≡ phase.Entering x → IsEnterable b x → BeginsAt i b.compartment → AreEntries i b.gates → IsOptionNamed i (entry_note (doer_of b) ch (entry_of b.phase))
entry_named i b ch x at_ may own gates =
    let begins : BeginsAt i x.gate.entry = each_entered (λ (g : Gate). BeginsAt i g.entry) b (a0 b) x.gate gates may.held in
    subst (λ p. IsOptionNamed i (entry_note (doer_of b) ch (entry_of p))) (sym at_) (record { compartment = own; mode = refl; item = begins })

event_named : (w : WorldState) (m : Makings) (b : ActorState) (ch : CallChain) (e : Event) → Happens w b e → BeginsAt w.image b.compartment → AreEntries w.image b.gates → TagsAreNamed w.image w.cells m → StreamsAreNamed w.image w.cells m
    → IsOptionNamed w.image (event_note w.image m (doer_of b) ch e)
event_named w m b ch e (Requested r) own gates tags streams =
    subst (λ y. IsOptionNamed w.image (event_note w.image m (doer_of b) ch y)) (sym r.is) (request_named w.image w.cells m b ch (LoadsAt w.image b.hart r.rd r.is_signed) r.want r.own own tags streams)
event_named w m b ch e (Joined j) own gates tags streams = subst (λ y. IsOptionNamed w.image (event_note w.image m (doer_of b) ch y)) (sym j.join.is) tt
event_named w m b ch e (Snaps s) own gates tags streams = subst (λ y. IsOptionNamed w.image (event_note w.image m (doer_of b) ch y)) (sym s.is) tt
event_named w m b ch e (GateSnaps s) own gates tags streams = subst (λ y. IsOptionNamed w.image (event_note w.image m (doer_of b) ch y)) (sym s.is) tt
event_named w m b ch e (Started s) own gates tags streams = subst (λ y. IsOptionNamed w.image (event_note w.image m (doer_of b) ch y)) (sym s.is) tt
event_named w m b ch e (Opens o) own gates tags streams = subst (λ y. IsOptionNamed w.image (event_note w.image m (doer_of b) ch y)) (sym o.is) tt
event_named w m b ch e (Releases r) own gates tags streams = subst (λ y. IsOptionNamed w.image (event_note w.image m (doer_of b) ch y)) (sym r.is) tt
event_named w m b ch e (Numbers n) own gates tags streams = subst (λ y. IsOptionNamed w.image (event_note w.image m (doer_of b) ch y)) (sym n.is) tt
event_named w m b ch e (OpensFile f) own gates tags streams = subst (λ y. IsOptionNamed w.image (event_note w.image m (doer_of b) ch y)) (sym f.is) tt
event_named w m b ch e (LastJoined j) own gates tags streams = subst (λ y. IsOptionNamed w.image (event_note w.image m (doer_of b) ch y)) (sym j.join.is) tt
event_named w m b ch e (Ended x) own gates tags streams = subst (λ y. IsOptionNamed w.image (event_note w.image m (doer_of b) ch y)) (sym x.is) tt
event_named w m b ch e (LeavesGate l) own gates tags streams = subst (λ y. IsOptionNamed w.image (event_note w.image m (doer_of b) ch y)) (sym l.is) tt
event_named w m b ch e (LeavesRecycled l) own gates tags streams = subst (λ y. IsOptionNamed w.image (event_note w.image m (doer_of b) ch y)) (sym l.is) tt
event_named w m b ch e (EntersGate x) own gates tags streams =
    subst (λ y. IsOptionNamed w.image (event_note w.image m (doer_of b) ch y)) (sym x.is) (entry_named w.image b ch x.entrance x.at x.may own gates)
event_named w m b ch e (EntersRecycled x) own gates tags streams =
    subst (λ y. IsOptionNamed w.image (event_note w.image m (doer_of b) ch y)) (sym x.is) (entry_named w.image b ch x.entrance x.at x.may own gates)

-- ---- a turn

-- a log of a world, of which all notes have names
record IsNamedLog (w : WorldState) (l : Log) : Type 0 where
  all : AllReady w
  occupied : Occupied w
  entries : EachEntries w.image w.actors
  knows : Knows w.image w.cells w.actors l.makings
  aligned : length l.chains ≡ length w.actors
  notes : AreNamed w.image l.notes

has_mode : (c : Cells) (fd : ℕ) (x : Stream) → stream_in c fd ≡ Some x → mode_in c fd ≡ Some (mode x.kind x.live)
has_mode c fd x is = ap (option_map (λ (s : Stream). mode s.kind s.live)) is

turn_is_named : (w : WorldState) (l : Log) (name : List ℕ) (e : Event) (new : WorldState) → IsNamedLog w l → IsTurn w name e new → IsNamedLog new (log_turn w l name e)
turn_is_named w l name e new was turn =
    let t = turn_from w name e new turn in
    let i = w.image in
    let a = t.actor in
    let b = ready w.actors a in
    let r = rest i b in
    let p = logs_turn w l name e new t was.aligned in
    let occ : AreOccupied w.cells w.actors = was.occupied.occupied in
    let ready_own : HasEntries i b = ready_entries i w.actors a (was.entries name a t.named) in
    let rest_own : HasEntries i r = rest_entries i b ready_own in
    let copies : CopiesAreNamed i l.makings b.sheet = subst (CopiesAreNamed i l.makings) (sym (ready_sheet w.actors a)) (copies_named i w.cells w.actors l.makings name a occ was.knows t.named) in
    let n : Noted = noted_rest i l.makings b (record { chain = p.chain; notes = l.notes }) in
    let rested : AreNamed i n.notes = rest_named i l.makings b (record { chain = p.chain; notes = l.notes }) ready_own.own copies was.notes in
    let tags : TagsAreNamed i w.cells l.makings = λ slot tag lives. tag_named i l.makings tag was.knows.origins (living_known i w.cells w.actors l.makings slot tag occ was.knows lives) in
    let streams : StreamsAreNamed i w.cells l.makings = λ fd x is. fd_named i l.makings fd was.knows.paths (was.knows.streams fd (mode x.kind x.live) (has_mode w.cells fd x is)) in
    let same_actor : rest i t.parts.actor ≡ r = ap (rest i) t.is in
    let happens : Happens (resumed w a) r e = subst (λ y. Happens (resumed w a) y e) same_actor (turn_happens w name e new was.all t) in
    let noted : AreNamed i (log_event_by i (with_noted l p.index n) r e (Some n.chain)).notes =
    note_named i n.notes (event_note i l.makings (doer_of r) n.chain e) rested (event_named (resumed w a) l.makings r n.chain e happens rest_own.own rest_own.gates tags streams) in
    let own : BeginsAt i (rest i t.parts.actor).compartment = subst (λ (y : ActorState). BeginsAt i y.compartment) (sym same_actor) rest_own.own in
    let known : Knows i new.cells new.actors (makings_of_turn i l.makings r e) =
    subst (λ y. Knows i new.cells new.actors (makings_of_turn i l.makings y e)) same_actor (turn_knows w name e new l.makings was.all turn t own was.knows) in
    subst (IsNamedLog new) (sym p.is) (record {
      all = turn_ready w name e new was.all turn;
      occupied = turn_occupied w name e new was.all was.occupied turn;
      entries = subst (λ j. EachEntries j new.actors) (sym p.image) (turn_entries w name e new was.all was.entries t);
      knows = subst (λ j. Knows j new.cells new.actors (makings_of_turn i l.makings r e)) (sym p.image) known;
      aligned = p.aligned;
      notes = subst (λ j. AreNamed j (log_event_by i (with_noted l p.index n) r e (Some n.chain)).notes) (sym p.image) noted;
    })

-- ---- a schedule

from_named : (names : List (List ℕ)) (i : Image) (w : WorldState) (l : Log) → w.image ≡ i → IsNamedLog w l → AreNamed i (log_from w l names).notes
unfolding log_from
from_named [] i w l image was = subst (λ j. AreNamed j l.notes) image was.notes
from_named (name ∷ names) i w l image was = by_turn (from_named names i) (turn_of w name) refl
  where
    by_turn : ((v : WorldState) (m : Log) → v.image ≡ i → IsNamedLog v m → AreNamed i (log_from v m names).notes) → (o : Option Taken) → turn_of w name ≡ o
        → (let m : Log = elim o [ None ↦ l | Some t ↦ log_from t.world (log_turn w l name t.event) names ] in AreNamed i m.notes)
    by_turn more None e = subst (λ j. AreNamed j l.notes) image was.notes
    by_turn more (Some t) e =
        let turn : IsTurn w name t.event t.world = e in
        let same : t.world.image ≡ w.image = ap (λ (v : WorldState). v.image) (turn_from w name t.event t.world turn).parts.new_is in
        more t.world (log_turn w l name t.event) (same ∙ image) (turn_is_named w l name t.event t.world was turn)

none_given : (n tag : ℕ) → n ≤ tag → tag < n → ⊥
none_given n tag above given = omega (arith, above, given)

get_below : {X : Type 0} (xs : List X) (k : ℕ) (x : X) → slice_get xs k ≡ Some x → k < length xs
get_below [] k x e = absurd cc
get_below (y ∷ ys) zero x e = omega arith
get_below (y ∷ ys) (suc k) x e = (let h = get_below ys k x e in omega (arith, h))

-- the first streams are those that the image declares
declared : (i : Image) (fd : ℕ) (k : StreamMode) → mode_in (initial_state i).cells fd ≡ Some k → fd < length i.fds
declared i fd k is = by_declared (slice_get i.fds fd) refl ((cells_open i).streams fd)
  where
    by_declared : (o : Option FdEntry) → slice_get i.fds fd ≡ o → stream_in (initial_state i).cells fd ≡ option_map declared_stream o → fd < length i.fds
    by_declared None e streams = (let f : None ≡ Some k = sym (ap (option_map (λ (s : Stream). mode s.kind s.live)) streams) ∙ is in absurd cc)
    by_declared (Some f) e streams = get_below i.fds fd f e

opening_named : (i : Image) → IsImage i → IsNamedLog (initial_state i) (opening_log i)
opening_named i valid = record {
  all = opening_ready i;
  occupied = opening_occupied i;
  entries = opening_entries i valid;
  knows = record { tags = λ tag above given. absurd (none_given (length i.tags) tag above given); origins = λ tag o is. absurd cc; streams = λ fd k is. inl (declared i fd k is); paths = λ fd path is. absurd cc };
  aligned = refl;
  notes = tt;
}

pub notes_named : NotesAreNamed
notes_named i names valid = from_named names i (initial_state i) (opening_log i) refl (opening_named i valid)
