-- The entries that cells keep fit the actors that asked.
use Rattle.std.proofs.Common.{◌≡◌, ℕ, ◌+◌, ◌<◌, ◌++◌, ◌∷◌, [], Bool, true, false, refl, sym, ap, subst, ◌∙◌, arith}
use Rattle.std.proofs.lemmas.Bool.Decides.{nat_tests}
use Rattle.std.proofs.Common.{List}
use Rattle.std.specs.Prelude.{Option, Some, None, Result, Ok, Err, IfOk, IsSomeAnd, nat_lt, option_map, unwrap_or}
use Rattle.wedge_base.specs.declared.errors.NoMemory.{NoMemory}
use Rattle.cow_pages.specs.PrivateMemory.{PrivateMemory}
use Rattle.wedge_base.specs.declared.grants.GateId.{GateId}
use Rattle.wedge_base.specs.declared.rights.End.{End}
use Rattle.wedge_events.specs.declared.cells.GateAsk.{GateAsk}
use Rattle.wedge_events.specs.declared.cells.GateAsk.TheVariants as gate_ask
use Rattle.wedge_events.specs.declared.cells.GateReply.{GateReply}
use Rattle.wedge_events.specs.declared.cells.GateReply.TheVariants as gate_reply
use Rattle.machine.specs.declared.phase.Phase.{Phase}
use Rattle.machine.specs.declared.phase.Phase.TheVariants as phase
use Rattle.wedge_base.specs.Images.{Image}
use Rattle.wedge_events.specs.Wants.{slot_ask_with}
use Rattle.wedge_events.specs.Directories.{Directory, DirectoryFits, directory_reply, directory_next, slots_opening, fds_opening}
use Rattle.wedge_events.specs.Gates.{Kept, GateFits, gate_reply as gate_replies, gate_next, gate_opening}
use Rattle.wedge_events.specs.Lives.{lives_reply, lives_next, lives_opening}
use Rattle.wedge_events.specs.Streams.{Stream, StreamFits, stream_reply, stream_next}
use Rattle.wedge_events.specs.Slots.{Segment, IsPair, SlotFits, slot_reply, slot_next}
use Rattle.tag_segment.specs.Objects.{opening_state, FitsState}
use Rattle.fd_table.specs.Openings.{initial_stream}
use Rattle.wedge_events.specs.declared.events.SlotWant.TheVariants as slot_want
use Rattle.wedge_events.specs.declared.cells.SlotReply.{SlotReply}
use Rattle.wedge_events.specs.declared.cells.StreamAsk.{StreamAsk}
use Rattle.wedge_events.specs.declared.cells.StreamReply.{StreamReply}
use Rattle.wedge_events.specs.declared.cells.LivesAsk.{LivesAsk}
use Rattle.wedge_events.specs.declared.cells.LivesAsk.TheVariants as lives_ask
use Rattle.wedge_events.specs.declared.cells.LivesReply.{LivesReply}
use Rattle.wedge_events.specs.declared.cells.DirectoryAsk.{DirectoryAsk}
use Rattle.wedge_events.specs.declared.cells.DirectoryAsk.TheVariants as directory_ask
use Rattle.wedge_events.specs.declared.cells.DirectoryReply.{DirectoryReply}
use Rattle.wedge_events.specs.declared.events.SlotWant.{SlotWant}
use Rattle.wedge_events.specs.declared.events.Want.{Want}
use Rattle.wedge_events.specs.declared.events.Want.TheVariants as want
use Rattle.wedge_events.specs.declared.events.Event.TheVariants as event
use Rattle.wedge_events.specs.declared.events.LogEntry.{LogEntry}
use Rattle.wedge_events.specs.Journals.{event_ask}
use Rattle.machine.specs.Actors.{ActorState}
use Rattle.machine.specs.Between.{WantFits, IsAtGate, IsNextName, IsInBounds, SuitsActor}
use Rattle.machine.specs.Take.{current_want, asks, pair, run_at}
use Rattle.run_laws.specs.Walks.{IsEntryOf}
use Rattle.wedge_events.specs.declared.cells.SlotAsk.{SlotAsk}
use Rattle.wedge_events.specs.declared.events.CellName.{CellName}
use Rattle.wedge_events.specs.declared.events.CellName.TheVariants as cell
use Rattle.journal_cell.specs.Histories.{CellState, IsHistory, cell_after, entry_at, greater}
use Rattle.journal_cell.specs.declared.entry.Entry.{Entry}
use Rattle.journal_cell.specs.declared.entry.Pass.{Pass}
use Rattle.run_cells.specs.Names.{IsSlotName, IsFdName}
use Rattle.thread_laws.specs.ActorProgresses.{ActorProgress}
use Rattle.actor_run.specs.Runs.{AffordsGate}
use Rattle.run_cells.specs.Entries.{IsPlainEntry, IsCreatingEntry, IsNextActor, IsLastOfCell, IsKeptInGate}
use Rattle.run_cells.specs.Entries.{slot_entry_of, stream_entry_of, lives_entry_of, slot_directory_entry_of, fd_directory_entry_of, gate_entry_of, entry_in_gate}

pub above : (a b : ℕ) → b < greater a b + 1
above a b = by_test (nat_lt a b) refl
  where
    by_test : (t : Bool) → nat_lt a b ≡ t → b < greater a b + 1
    by_test true is = grind (arith, nat_tests, is)
    by_test false is = grind (arith, nat_tests, is)

-- an entry for what an actor wants
pub own_entry : (a : ActorState) (clock : ℕ) (q : Want) (live : Option ℕ) (e : LogEntry) → current_want a ≡ Some q
    → event_ask e.event ≡ asks a live q → e.actor ≡ a.name → clock < e.stamp → IsEntryOf a clock e
own_entry a clock q live e wants asked own after =
    record { above = after; own = own; event = record { want = q; live = live; wants = wants; asks_it = asked } }

pub slot_entry_fits : (i : Image) (r : ActorProgress) (slot : ℕ) (q : SlotWant) (live : Option ℕ) (reply : SlotReply) (stamp : ℕ)
    → current_want r.state ≡ Some (want.Slot slot q) → r.clock < stamp → IsInBounds (event.Slot slot (slot_ask_with q (pair r.state live)) reply)
    → IsLastOfCell i stamp r.state.name (event.Slot slot (slot_ask_with q (pair r.state live)) reply)
    → IsPlainEntry i r (record { stamp = stamp; actor = r.state.name; event = event.Slot slot (slot_ask_with q (pair r.state live)) reply })
slot_entry_fits i r slot q live reply stamp wants after bounds last = record {
  own = own_entry r.state r.clock (want.Slot slot q) live _ wants refl refl after;
  stamp = tt;
  fits = (bounds, tt);
  alone = refl;
  nameless = refl;
  no_join = tt;
  last_ = last;
}

pub stream_entry_fits : (i : Image) (r : ActorProgress) (fd : ℕ) (q : StreamAsk) (reply : StreamReply) (stamp : ℕ)
    → current_want r.state ≡ Some (want.Fd fd q) → r.clock < stamp → IsInBounds (event.Fd fd q reply)
    → IsLastOfCell i stamp r.state.name (event.Fd fd q reply)
    → IsPlainEntry i r (record { stamp = stamp; actor = r.state.name; event = event.Fd fd q reply })
stream_entry_fits i r fd q reply stamp wants after bounds last = record {
  own = own_entry r.state r.clock (want.Fd fd q) None _ wants refl refl after;
  stamp = tt;
  fits = (bounds, tt);
  alone = refl;
  nameless = refl;
  no_join = tt;
  last_ = last;
}

pub lives_entry_fits : (i : Image) (r : ActorProgress) (q : LivesAsk) (reply : LivesReply) (stamp : ℕ)
    → current_want r.state ≡ Some (want.Lives q) → WantFits r.state (want.Lives q) → r.clock < stamp
    → IsLastOfCell i stamp r.state.name (event.Lives q reply)
    → IsPlainEntry i r (record { stamp = stamp; actor = r.state.name; event = event.Lives q reply })
lives_entry_fits i r q reply stamp wants fits after last = record {
  own = own_entry r.state r.clock (want.Lives q) None _ wants refl refl after;
  stamp = tt;
  fits = (tt, suits q fits);
  alone = refl;
  nameless = refl;
  no_join = tt;
  last_ = last;
}
  where
    suits : (q : LivesAsk) → WantFits r.state (want.Lives q) → SuitsActor r.state (event.Lives q reply)
    suits lives_ask.Claim h = h
    suits (lives_ask.Release e) h = tt

pub slot_directory_entry_fits : (i : Image) (r : ActorProgress) (q : DirectoryAsk) (reply : DirectoryReply) (stamp : ℕ)
    → current_want r.state ≡ Some (want.Slots q) → WantFits r.state (want.Slots q) → IsInBounds (event.Slots q reply) → r.clock < stamp
    → IsLastOfCell i stamp r.state.name (event.Slots q reply)
    → IsPlainEntry i r (record { stamp = stamp; actor = r.state.name; event = event.Slots q reply })
slot_directory_entry_fits i r q reply stamp wants fits given after last = record {
  own = own_entry r.state r.clock (want.Slots q) None _ wants refl refl after;
  stamp = tt;
  fits = (given, suits q fits);
  alone = refl;
  nameless = refl;
  no_join = tt;
  last_ = last;
}
  where
    suits : (q : DirectoryAsk) → WantFits r.state (want.Slots q) → SuitsActor r.state (event.Slots q reply)
    suits directory_ask.Claim h = h
    suits (directory_ask.Release place) h = tt

pub fd_directory_entry_fits : (i : Image) (r : ActorProgress) (q : DirectoryAsk) (reply : DirectoryReply) (stamp : ℕ)
    → current_want r.state ≡ Some (want.Fds q) → IsInBounds (event.Fds q reply) → r.clock < stamp
    → IsLastOfCell i stamp r.state.name (event.Fds q reply)
    → IsPlainEntry i r (record { stamp = stamp; actor = r.state.name; event = event.Fds q reply })
fd_directory_entry_fits i r q reply stamp wants given after last = record {
  own = own_entry r.state r.clock (want.Fds q) None _ wants refl refl after;
  stamp = tt;
  fits = (given, tt);
  alone = refl;
  nameless = refl;
  no_join = tt;
  last_ = last;
}

-- ---- the entry by which the run of a gate begins

-- a run begins where a gate is about to be entered, with the name that is given, and with fuel that
-- the actor has
run_begins : (a : ActorState) (run : List ℕ) (kept : Option PrivateMemory) (p : Phase) → IsAtGate p → IsNextName a.name a.starts run
    → AffordsGate p a.fuel → IsSomeAnd (run_at a run kept p) (IsNextActor a)
run_begins a run kept (phase.Entering x) at name affords = record { name_ = name; fuel_ = affords }
run_begins a run kept p at name affords = absurd at

pub gate_entry_fits : (i : Image) (r : ActorProgress) (id : GateId) (run : List ℕ) (first kept : PrivateMemory) (stamp : ℕ)
    → current_want r.state ≡ Some (want.Gate id (gate_ask.Enter run first)) → WantFits r.state (want.Gate id (gate_ask.Enter run first))
    → AffordsGate r.state.phase r.state.fuel → r.clock < stamp
    → IsLastOfCell i stamp r.state.name (event.Gate id (gate_ask.Enter run first) (gate_reply.Entered kept))
    → IsCreatingEntry i r (record { stamp = stamp; actor = r.state.name; event = event.Gate id (gate_ask.Enter run first) (gate_reply.Entered kept) })
gate_entry_fits i r id run first kept stamp wants fits affords after last = record {
  own = own_entry r.state r.clock (want.Gate id (gate_ask.Enter run first)) None _ wants refl refl after;
  stamp = tt;
  fits = (tt, tt);
  creates = run_begins r.state run (Some kept) r.state.phase fits.0 fits.1 affords;
  last_ = last;
}

-- ---- leaves

pub gate_leave_fits : (i : Image) (r : ActorProgress) (id : GateId) (how : End) (m : PrivateMemory) (reply : GateReply) (stamp : ℕ)
    → current_want r.state ≡ Some (want.Gate id (gate_ask.Leave how m)) → r.clock < stamp
    → IsLastOfCell i stamp r.state.name (event.Gate id (gate_ask.Leave how m) reply)
    → IsPlainEntry i r (record { stamp = stamp; actor = r.state.name; event = event.Gate id (gate_ask.Leave how m) reply })
gate_leave_fits i r id how m reply stamp wants after last = record {
  own = own_entry r.state r.clock (want.Gate id (gate_ask.Leave how m)) None _ wants refl refl after;
  stamp = tt;
  fits = (tt, tt);
  alone = refl;
  nameless = refl;
  no_join = tt;
  last_ = last;
}

-- ---- the last entries of legal histories

pub slot_last : (i : Image) (slot : ℕ) (name : CellName) (es : List (Entry SlotAsk SlotReply)) (stamp : ℕ) (actor : List ℕ) (q : SlotAsk) (reply : SlotReply) → IsSlotName name
    → IsHistory (FitsState i) slot_reply slot_next (opening_state i name) 0 (es ++ record { stamp = stamp; actor = actor; ask = q; reply = reply } ∷ [])
    → IsLastOfCell i stamp actor (event.Slot slot q reply)
slot_last i slot (cell.Slot n) es stamp actor q reply named h = (n, (es, h))
slot_last i slot name es stamp actor q reply named h = absurd named

pub stream_last : (i : Image) (fd : ℕ) (name : CellName) (es : List (Entry StreamAsk StreamReply)) (stamp : ℕ) (actor : List ℕ) (q : StreamAsk) (reply : StreamReply) → IsFdName name
    → IsHistory (λ s q. StreamFits s q) stream_reply stream_next (initial_stream i name) 0 (es ++ record { stamp = stamp; actor = actor; ask = q; reply = reply } ∷ [])
    → IsLastOfCell i stamp actor (event.Fd fd q reply)
stream_last i fd (cell.Fd n) es stamp actor q reply named h = (n, (es, h))
stream_last i fd name es stamp actor q reply named h = absurd named

-- ---- what cells keep

-- what an actor asks of a slot for what it wants
abbrev pub slot_asked : ActorState → SlotWant → Option Segment → SlotAsk
slot_asked a q s = slot_ask_with q (pair a (option_map (λ (g : Segment). g.tag) s))

pub slot_plain : (i : Image) (r : ActorProgress) (slot : ℕ) (q : SlotWant) (k : CellState (Option Segment) SlotAsk SlotReply) (p : Pass) (e : Entry SlotAsk SlotReply)
    → current_want r.state ≡ Some (want.Slot slot q) → IsInBounds (event.Slot slot (slot_asked r.state q k.state) (slot_reply k.state (slot_asked r.state q k.state))) → IsSlotName k.name
    → p.name.now ≡ r.state.name → p.clock ≡ r.clock → e ≡ entry_at slot_reply k p (slot_asked r.state q k.state)
    → IsHistory (FitsState i) slot_reply slot_next (opening_state i k.name) 0 (k.history ++ e ∷ []) → IsPlainEntry i r (slot_entry_of slot e)
slot_plain i r slot q k p e wants bounds name who clock is h =
    let stamp = greater k.clock p.clock + 1 in
    let after : r.clock < stamp = subst (λ n. n < stamp) clock (above k.clock p.clock) in
    let own : e ≡ record { stamp = stamp; actor = r.state.name; ask = (slot_asked r.state q k.state); reply = slot_reply k.state (slot_asked r.state q k.state) } =
    is ∙ ap (λ a. record { stamp = stamp; actor = a; ask = (slot_asked r.state q k.state); reply = slot_reply k.state (slot_asked r.state q k.state) }) who in
    let legal = subst (λ (x : Entry SlotAsk SlotReply). IsHistory (FitsState i) slot_reply slot_next (opening_state i k.name) 0 (k.history ++ x ∷ [])) own h in
    subst (λ (x : Entry SlotAsk SlotReply). IsPlainEntry i r (slot_entry_of slot x)) (sym own) (slot_entry_fits i r slot q (option_map (λ (g : Segment). g.tag) k.state) (slot_reply k.state (slot_asked r.state q k.state)) stamp wants after bounds (slot_last i slot k.name k.history stamp r.state.name (slot_asked r.state q k.state) (slot_reply k.state (slot_asked r.state q k.state)) name legal))

pub stream_plain : (i : Image) (r : ActorProgress) (fd : ℕ) (q : StreamAsk) (k : CellState (Option Stream) StreamAsk StreamReply) (p : Pass) (e : Entry StreamAsk StreamReply)
    → current_want r.state ≡ Some (want.Fd fd q) → IsInBounds (event.Fd fd q (stream_reply k.state q)) → IsFdName k.name
    → p.name.now ≡ r.state.name → p.clock ≡ r.clock → e ≡ entry_at stream_reply k p q
    → IsHistory (λ s q. StreamFits s q) stream_reply stream_next (initial_stream i k.name) 0 (k.history ++ e ∷ []) → IsPlainEntry i r (stream_entry_of fd e)
stream_plain i r fd q k p e wants bounds name who clock is h =
    let stamp = greater k.clock p.clock + 1 in
    let after : r.clock < stamp = subst (λ n. n < stamp) clock (above k.clock p.clock) in
    let own : e ≡ record { stamp = stamp; actor = r.state.name; ask = q; reply = stream_reply k.state q } =
    is ∙ ap (λ a. record { stamp = stamp; actor = a; ask = q; reply = stream_reply k.state q }) who in
    let legal = subst (λ (x : Entry StreamAsk StreamReply). IsHistory (λ s q. StreamFits s q) stream_reply stream_next (initial_stream i k.name) 0 (k.history ++ x ∷ [])) own h in
    subst (λ (x : Entry StreamAsk StreamReply). IsPlainEntry i r (stream_entry_of fd x)) (sym own) (stream_entry_fits i r fd q (stream_reply k.state q) stamp wants after bounds (stream_last i fd k.name k.history stamp r.state.name q (stream_reply k.state q) name legal))

pub lives_plain : (i : Image) (r : ActorProgress) (q : LivesAsk) (k : CellState ℕ LivesAsk LivesReply) (p : Pass) (e : Entry LivesAsk LivesReply)
    → current_want r.state ≡ Some (want.Lives q) → WantFits r.state (want.Lives q)
    → p.name.now ≡ r.state.name → p.clock ≡ r.clock → e ≡ entry_at lives_reply k p q
    → IsHistory (λ n q. Unit {0}) lives_reply lives_next lives_opening 0 (k.history ++ e ∷ []) → IsPlainEntry i r (lives_entry_of e)
lives_plain i r q k p e wants fits who clock is h =
    let stamp = greater k.clock p.clock + 1 in
    let after : r.clock < stamp = subst (λ n. n < stamp) clock (above k.clock p.clock) in
    let own : e ≡ record { stamp = stamp; actor = r.state.name; ask = q; reply = lives_reply k.state q } =
    is ∙ ap (λ a. record { stamp = stamp; actor = a; ask = q; reply = lives_reply k.state q }) who in
    let legal = subst (λ (x : Entry LivesAsk LivesReply). IsHistory (λ n q. Unit {0}) lives_reply lives_next lives_opening 0 (k.history ++ x ∷ [])) own h in
    subst (λ (x : Entry LivesAsk LivesReply). IsPlainEntry i r (lives_entry_of x)) (sym own) (lives_entry_fits i r q (lives_reply k.state q) stamp wants fits after ((k.history, legal)))

pub slot_directory_plain : (i : Image) (r : ActorProgress) (q : DirectoryAsk) (k : CellState Directory DirectoryAsk DirectoryReply) (p : Pass) (e : Entry DirectoryAsk DirectoryReply)
    → current_want r.state ≡ Some (want.Slots q) → WantFits r.state (want.Slots q) → IsInBounds (event.Slots q (directory_reply k.state q))
    → p.name.now ≡ r.state.name → p.clock ≡ r.clock → e ≡ entry_at directory_reply k p q
    → IsHistory (λ d q. DirectoryFits d q) directory_reply directory_next (slots_opening i) 0 (k.history ++ e ∷ []) → IsPlainEntry i r (slot_directory_entry_of e)
slot_directory_plain i r q k p e wants fits bounds who clock is h =
    let stamp = greater k.clock p.clock + 1 in
    let after : r.clock < stamp = subst (λ n. n < stamp) clock (above k.clock p.clock) in
    let own : e ≡ record { stamp = stamp; actor = r.state.name; ask = q; reply = directory_reply k.state q } =
    is ∙ ap (λ a. record { stamp = stamp; actor = a; ask = q; reply = directory_reply k.state q }) who in
    let legal = subst (λ (x : Entry DirectoryAsk DirectoryReply). IsHistory (λ d q. DirectoryFits d q) directory_reply directory_next (slots_opening i) 0 (k.history ++ x ∷ [])) own h in
    subst (λ (x : Entry DirectoryAsk DirectoryReply). IsPlainEntry i r (slot_directory_entry_of x)) (sym own) (slot_directory_entry_fits i r q (directory_reply k.state q) stamp wants fits bounds after ((k.history, legal)))

pub fd_directory_plain : (i : Image) (r : ActorProgress) (q : DirectoryAsk) (k : CellState Directory DirectoryAsk DirectoryReply) (p : Pass) (e : Entry DirectoryAsk DirectoryReply)
    → current_want r.state ≡ Some (want.Fds q) → IsInBounds (event.Fds q (directory_reply k.state q))
    → p.name.now ≡ r.state.name → p.clock ≡ r.clock → e ≡ entry_at directory_reply k p q
    → IsHistory (λ d q. DirectoryFits d q) directory_reply directory_next (fds_opening i) 0 (k.history ++ e ∷ []) → IsPlainEntry i r (fd_directory_entry_of e)
fd_directory_plain i r q k p e wants bounds who clock is h =
    let stamp = greater k.clock p.clock + 1 in
    let after : r.clock < stamp = subst (λ n. n < stamp) clock (above k.clock p.clock) in
    let own : e ≡ record { stamp = stamp; actor = r.state.name; ask = q; reply = directory_reply k.state q } =
    is ∙ ap (λ a. record { stamp = stamp; actor = a; ask = q; reply = directory_reply k.state q }) who in
    let legal = subst (λ (x : Entry DirectoryAsk DirectoryReply). IsHistory (λ d q. DirectoryFits d q) directory_reply directory_next (fds_opening i) 0 (k.history ++ x ∷ [])) own h in
    subst (λ (x : Entry DirectoryAsk DirectoryReply). IsPlainEntry i r (fd_directory_entry_of x)) (sym own) (fd_directory_entry_fits i r q (directory_reply k.state q) stamp wants bounds after ((k.history, legal)))

pub gate_entered : (i : Image) (r : ActorProgress) (id : GateId) (run : List ℕ) (first : PrivateMemory) (k : CellState Kept GateAsk GateReply) (p : Pass) (e : Entry GateAsk GateReply)
    → current_want r.state ≡ Some (want.Gate id (gate_ask.Enter run first)) → WantFits r.state (want.Gate id (gate_ask.Enter run first)) → AffordsGate r.state.phase r.state.fuel
    → p.name.now ≡ r.state.name → p.clock ≡ r.clock → e ≡ entry_at gate_replies k p (gate_ask.Enter run first)
    → IsHistory (λ k q. GateFits k q) gate_replies gate_next gate_opening 0 (k.history ++ e ∷ []) → IsCreatingEntry i r (gate_entry_of id e)
gate_entered i r id run first k p e wants fits affords who clock is h =
    let stamp = greater k.clock p.clock + 1 in
    let after : r.clock < stamp = subst (λ n. n < stamp) clock (above k.clock p.clock) in
    let own : e ≡ record { stamp = stamp; actor = r.state.name; ask = gate_ask.Enter run first; reply = gate_replies k.state (gate_ask.Enter run first) } =
    is ∙ ap (λ a. record { stamp = stamp; actor = a; ask = gate_ask.Enter run first; reply = gate_replies k.state (gate_ask.Enter run first) }) who in
    let legal = subst (λ (x : Entry GateAsk GateReply). IsHistory (λ k q. GateFits k q) gate_replies gate_next gate_opening 0 (k.history ++ x ∷ [])) own h in
    subst (λ (x : Entry GateAsk GateReply). IsCreatingEntry i r (gate_entry_of id x)) (sym own) (gate_entry_fits i r id run first (unwrap_or k.state.kept first) stamp wants fits affords after (k.history, legal))

pub gate_left : (i : Image) (r : ActorProgress) (id : GateId) (how : End) (m : PrivateMemory) (k : CellState Kept GateAsk GateReply) (p : Pass) (e : Entry GateAsk GateReply)
    → current_want r.state ≡ Some (want.Gate id (gate_ask.Leave how m))
    → p.name.now ≡ r.state.name → p.clock ≡ r.clock → e ≡ entry_at gate_replies k p (gate_ask.Leave how m)
    → IsHistory (λ k q. GateFits k q) gate_replies gate_next gate_opening 0 (k.history ++ e ∷ []) → IsPlainEntry i r (gate_entry_of id e)
gate_left i r id how m k p e wants who clock is h =
    let stamp = greater k.clock p.clock + 1 in
    let after : r.clock < stamp = subst (λ n. n < stamp) clock (above k.clock p.clock) in
    let own : e ≡ record { stamp = stamp; actor = r.state.name; ask = gate_ask.Leave how m; reply = gate_reply.Left } =
    is ∙ ap (λ a. record { stamp = stamp; actor = a; ask = gate_ask.Leave how m; reply = gate_reply.Left }) who in
    let legal = subst (λ (x : Entry GateAsk GateReply). IsHistory (λ k q. GateFits k q) gate_replies gate_next gate_opening 0 (k.history ++ x ∷ [])) own h in
    subst (λ (x : Entry GateAsk GateReply). IsPlainEntry i r (gate_entry_of id x)) (sym own) (gate_leave_fits i r id how m gate_reply.Left stamp wants after (k.history, legal))

-- what holds of the entry that is returned
pub if_entry : (P : LogEntry → Type 0) (x : LogEntry) (r : Result LogEntry NoMemory) → IfOk r (λ e. e ≡ x) → P x → IfOk r P
if_entry P x (Ok e) is h = subst P (sym is) h
if_entry P x (Err e) is h = tt

-- the gate keeps the entry
pub gate_kept : (id : GateId) (q : GateAsk) (r : ActorProgress) (old new : CellState Kept GateAsk GateReply) (p : Pass) (e : Entry GateAsk GateReply)
    → p.name.now ≡ r.state.name → p.clock ≡ r.clock → e ≡ entry_at gate_replies old p q → new ≡ cell_after gate_next old e → IsKeptInGate id q r old new (gate_entry_of id e)
gate_kept id q r old new p e who clock is kept =
    let entry : ℕ → List ℕ → Entry GateAsk GateReply = λ n a. record { stamp = greater old.clock n + 1; actor = a; ask = q; reply = gate_replies old.state q } in
    let own : e ≡ entry_in_gate r old q = is ∙ (ap (entry p.clock) who ∙ ap (λ n. entry n r.state.name) clock) in
    record { entry_ = ap (gate_entry_of id) own; kept_ = kept ∙ ap (cell_after gate_next old) own }

-- ---- what is asked of a slot fits it, with the tag that lives there

pair_names : (s : Option Segment) (a : ActorState) → IsPair s (pair a (option_map (λ (g : Segment). g.tag) s))
pair_names None a = refl
pair_names (Some g) a = refl

pub slot_fits : (s : Option Segment) (a : ActorState) (slot : ℕ) (q : SlotWant) → WantFits a (want.Slot slot q) → SlotFits s (slot_ask_with q (pair a (option_map (λ (g : Segment). g.tag) s)))
slot_fits s a slot (slot_want.Open tag pages) h = (h.1, h.2)
slot_fits s a slot (slot_want.Close tag) h = tt
slot_fits s a slot (slot_want.Load offset width) h = (h.1, pair_names s a)
slot_fits s a slot (slot_want.Store offset width value) h = (h.1, pair_names s a)
slot_fits s a slot (slot_want.Smalloc tag size) h = h.1
slot_fits s a slot (slot_want.Sfree offset) h = (h.1, pair_names s a)
slot_fits s a slot (slot_want.Snap tag) h = tt
