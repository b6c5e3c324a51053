-- Logs stay framed, turn by turn.
use Rattle.std.proofs.Common.{◌≡◌, ℕ, zero, suc, List, [], ◌∷◌, ◌++◌, length, refl, sym, ap, subst, ◌∙◌, arith}
use Rattle.std.specs.Prelude.{Option, Some, None, slice_get, slice_set}
use Rattle.std.specs.List.{AllByRecursion}
use Rattle.wedge_base.specs.Images.{Image}
use Rattle.wedge_events.specs.declared.events.Event.{Event}
use Rattle.wedge_events.specs.declared.events.Event.TheVariants as event
use Rattle.wedge_events.specs.declared.cells.GateAsk.{GateAsk}
use Rattle.wedge_events.specs.declared.cells.GateAsk.TheVariants as gate_ask
use Rattle.wedge_events.specs.declared.cells.GateReply.{GateReply}
use Rattle.wedge_events.specs.declared.cells.GateReply.TheVariants as gate_reply
use Rattle.wedge_events.specs.declared.cells.SlotAsk.{SlotAsk}
use Rattle.wedge_events.specs.declared.cells.SlotAsk.TheVariants as slot_ask
use Rattle.wedge_events.specs.declared.cells.SlotReply.{SlotReply}
use Rattle.wedge_events.specs.declared.cells.SlotReply.TheVariants as slot_reply
use Rattle.wedge_events.specs.declared.cells.StreamAsk.{StreamAsk}
use Rattle.wedge_events.specs.declared.cells.StreamAsk.TheVariants as stream_ask
use Rattle.wedge_events.specs.declared.cells.StreamReply.{StreamReply}
use Rattle.wedge_events.specs.declared.cells.StreamReply.TheVariants as stream_reply
use Rattle.machine.specs.Actors.{ActorState, root}
use Rattle.machine.specs.Local.{rest}
use Rattle.machine.specs.Take.{takes, actor_begun}
use Rattle.machine.specs.Worlds.{WorldState, Taken, initial_state, with_begun, ready, turn_of}
use Rattle.run_laws.proofs.Turns.{turn_from}
use Rattle.run_notes.specs.Chains.{opening_chain}
use Rattle.run_notes.specs.Doers.{doer_of}
use Rattle.run_notes.specs.Notes.{Noted, noted_rest, slot_note, stream_note, entry_note, gate_note, event_note}
use Rattle.run_notes.specs.declared.chain.CallChain.{CallChain}
use Rattle.run_notes.specs.declared.doer.Doer.{Doer}
use Rattle.run_notes.specs.declared.items.Makings.{Makings}
use Rattle.run_log.specs.ChainLaws.{IsFramed, IsNoteFramed, ChainsAreWellFormed}
use Rattle.run_log.specs.Logs.{Log}
use Rattle.run_log.specs.Logging.{opening_log, log_event_by, with_noted, with_chain, log_turn, log_from}
use Rattle.run_log.proofs.FramedChains.{IsChainOf, AreFramed, IsOptionFramed, opening_framed, note_framed, rest_framed}
use Rattle.run_log.proofs.LogTurns.{logs_turn}
use Rattle.run_log.proofs.Kept.{takes_compartment, rest_compartment, ready_compartment}
use Rattle.world_turns.specs.Progress.{IsTurn}
use Rattle.world_turns.proofs.Turning.{set_length}

one_of : {X : Type 0} {x y : X} → Some x ≡ Some y → x ≡ y
one_of e = cc

-- ---- the note of an event is framed

slot_framed : (i : Image) (m : Makings) (d : Doer) (c : CallChain) (q : SlotAsk) (r : SlotReply) → IsFramed i d.compartment c.frames → IsOptionFramed i (slot_note i m d c q r)
slot_framed i m d c (slot_ask.Load offset width None) (slot_reply.Loaded value) framed = tt
slot_framed i m d c (slot_ask.Load offset width (Some live)) (slot_reply.Loaded value) framed = framed
slot_framed i m d c (slot_ask.Store offset width value None) slot_reply.Stored framed = tt
slot_framed i m d c (slot_ask.Store offset width value (Some live)) slot_reply.Stored framed = framed
slot_framed i m d c q r framed = tt

stream_framed : (i : Image) (m : Makings) (d : Doer) (c : CallChain) (fd : ℕ) (q : StreamAsk) (r : StreamReply) → IsFramed i d.compartment c.frames → IsOptionFramed i (stream_note i m d c fd q r)
stream_framed i m d c fd (stream_ask.Read bits count) (stream_reply.Given bytes) framed = framed
stream_framed i m d c fd (stream_ask.Append bits bytes) stream_reply.Appended framed = framed
stream_framed i m d c fd q r framed = tt

entry_framed : (i : Image) (d : Doer) (c : CallChain) (entry : Option ℕ) → IsFramed i d.compartment c.frames → IsOptionFramed i (entry_note d c entry)
entry_framed i d c None framed = tt
entry_framed i d c (Some entry) framed = framed

gate_framed : (i : Image) (d : Doer) (c : CallChain) (q : GateAsk) (r : GateReply) → IsFramed i d.compartment c.frames → IsOptionFramed i (gate_note d c q r)
gate_framed i d c (gate_ask.Enter run first) (gate_reply.Entered memory) framed = entry_framed i d c d.entry framed
gate_framed i d c q r framed = tt

event_framed : (i : Image) (m : Makings) (d : Doer) (c : CallChain) (e : Event) → IsFramed i d.compartment c.frames → IsOptionFramed i (event_note i m d c e)
event_framed i m d c (event.Slot slot q r) framed = slot_framed i m d c q r framed
event_framed i m d c (event.Fd fd q r) framed = stream_framed i m d c fd q r framed
event_framed i m d c (event.Enter run) framed = entry_framed i d c d.entry framed
event_framed i m d c (event.Gate id q r) framed = gate_framed i d c q r framed
event_framed i m d c e framed = tt

-- ---- actors and their chains, index by index

abbrev AreChainsOf : Image → List ActorState → List CallChain → Type 0
AreChainsOf i actors chains = (k : ℕ) (a : ActorState) (c : CallChain) → slice_get actors k ≡ Some a → slice_get chains k ≡ Some c → IsChainOf i a.compartment c

set_chains : (i : Image) (xs : List ActorState) (cs : List CallChain) (k : ℕ) (x : ActorState) (d : CallChain) → IsChainOf i x.compartment d → AreChainsOf i xs cs → AreChainsOf i (slice_set xs k x) (slice_set cs k d)
set_chains i [] cs k x d is are = λ j a c there at. absurd cc
set_chains i (y ∷ ys) [] k x d is are = λ j a c there at. absurd cc
set_chains i (y ∷ ys) (e ∷ es) zero x d is are = λ j. by_index j
  where
    by_index : (j : ℕ) (a : ActorState) (c : CallChain) → slice_get (x ∷ ys) j ≡ Some a → slice_get (d ∷ es) j ≡ Some c → IsChainOf i a.compartment c
    by_index zero a c there at = subst (λ z. IsChainOf i a.compartment z) (one_of at) (subst (λ (z : ActorState). IsChainOf i z.compartment d) (one_of there) is)
    by_index (suc j) a c there at = are (suc j) a c there at
set_chains i (y ∷ ys) (e ∷ es) (suc k) x d is are = by_index (set_chains i ys es k x d is (λ j. are (suc j)))
  where
    by_index : AreChainsOf i (slice_set ys k x) (slice_set es k d) → (j : ℕ) (a : ActorState) (c : CallChain) → slice_get (y ∷ slice_set ys k x) j ≡ Some a → slice_get (e ∷ slice_set es k d) j ≡ Some c → IsChainOf i a.compartment c
    by_index more zero a c there at = are zero a c there at
    by_index more (suc j) a c there at = more j a c there at

begun_chains : (i : Image) (xs : List ActorState) (cs : List CallChain) (o : Option ActorState) → length cs ≡ length xs → AreChainsOf i xs cs → AreChainsOf i (with_begun xs o) (with_chain cs o)
begun_chains i xs cs None same are = are
begun_chains i [] [] (Some b) same are = λ j. by_index j
  where
    by_index : (j : ℕ) (a : ActorState) (c : CallChain) → slice_get (b ∷ []) j ≡ Some a → slice_get (opening_chain b.compartment ∷ []) j ≡ Some c → IsChainOf i a.compartment c
    by_index zero a c there at = subst (λ z. IsChainOf i a.compartment z) (one_of at) (subst (λ (z : ActorState). IsChainOf i z.compartment (opening_chain b.compartment)) (one_of there) (opening_framed i b.compartment))
    by_index (suc j) a c there at = absurd cc
begun_chains i [] (e ∷ es) (Some b) same are = absurd (omega (arith, same))
begun_chains i (y ∷ ys) [] (Some b) same are = absurd (omega (arith, same))
begun_chains i (y ∷ ys) (e ∷ es) (Some b) same are = by_index (begun_chains i ys es (Some b) (omega (arith, same)) (λ j. are (suc j)))
  where
    by_index : AreChainsOf i (ys ++ b ∷ []) (es ++ opening_chain b.compartment ∷ []) → (j : ℕ) (a : ActorState) (c : CallChain) → slice_get (y ∷ (ys ++ b ∷ [])) j ≡ Some a → slice_get (e ∷ (es ++ opening_chain b.compartment ∷ [])) j ≡ Some c → IsChainOf i a.compartment c
    by_index more zero a c there at = are zero a c there at
    by_index more (suc j) a c there at = more j a c there at

-- ---- a turn

-- a log of a world: each actor has a chain, and all chains and notes are framed
record IsFramedLog (w : WorldState) (l : Log) : Type 0 where
  aligned : length l.chains ≡ length w.actors
  chains : AreChainsOf w.image w.actors l.chains
  notes : AllByRecursion (IsNoteFramed w.image) l.notes

turn_framed : (w : WorldState) (l : Log) (name : List ℕ) (e : Event) (new : WorldState) → IsFramedLog w l → IsTurn w name e new → IsFramedLog new (log_turn w l name e)
turn_framed w l name e new was turn =
    let t = turn_from w name e new turn in
    let i = w.image in
    let a = t.actor in
    let b = ready w.actors a in
    let r = rest i b in
    let x = takes i r e in
    let o = actor_begun i r e in
    let p = logs_turn w l name e new t was.aligned in
    let k = p.index in
    let c = p.chain in
    let here : b.compartment ≡ a.compartment = ready_compartment w.actors a in
    let resting : r.compartment ≡ b.compartment = rest_compartment i b in
    let start : Noted = record { chain = c; notes = l.notes } in
    let n = noted_rest i l.makings b start in
    let first : AreFramed i b.compartment start = record { chain = subst (λ q. IsChainOf i q c) (sym here) (was.chains k a c p.found.there p.at); notes = was.notes } in
    let noted : AreFramed i b.compartment n = rest_framed i l.makings b start first in
    let at_rest_chain : IsChainOf i r.compartment n.chain = subst (λ q. IsChainOf i q n.chain) (sym resting) noted.chain in
    let after_chain : IsChainOf i x.compartment n.chain = subst (λ q. IsChainOf i q n.chain) (sym (takes_compartment i r e)) at_rest_chain in
    let m : Log = log_event_by i (with_noted l k n) r e (Some n.chain) in
    let sets : AreChainsOf i (slice_set w.actors k x) (slice_set l.chains k n.chain) = set_chains i w.actors l.chains k x n.chain after_chain was.chains in
    let same_length : length (slice_set l.chains k n.chain) ≡ length (slice_set w.actors k x) = set_length l.chains k n.chain ∙ (was.aligned ∙ sym (set_length w.actors k x)) in
    let all_chains : AreChainsOf i (with_begun (slice_set w.actors k x) o) m.chains = begun_chains i (slice_set w.actors k x) (slice_set l.chains k n.chain) o same_length sets in
    let all_notes : AllByRecursion (IsNoteFramed i) m.notes = note_framed i n.notes (event_note i l.makings (doer_of r) n.chain e) noted.notes (event_framed i l.makings (doer_of r) n.chain e at_rest_chain.framed) in
    subst (IsFramedLog new) (sym p.is) (record {
      aligned = p.aligned;
      chains = subst (λ as_. AreChainsOf new.image as_ m.chains) (sym p.actors) (subst (λ j. AreChainsOf j (with_begun (slice_set w.actors k x) o) m.chains) (sym p.image) all_chains);
      notes = subst (λ j. AllByRecursion (IsNoteFramed j) m.notes) (sym p.image) all_notes;
    })

-- ---- a schedule

from_framed : (names : List (List ℕ)) (i : Image) (w : WorldState) (l : Log) → w.image ≡ i → IsFramedLog w l → AllByRecursion (IsNoteFramed i) (log_from w l names).notes
unfolding log_from
from_framed [] i w l image was = subst (λ j. AllByRecursion (IsNoteFramed j) l.notes) image was.notes
from_framed (name ∷ names) i w l image was = by_turn (from_framed names i) (turn_of w name) refl
  where
    by_turn : ((v : WorldState) (m : Log) → v.image ≡ i → IsFramedLog v m → AllByRecursion (IsNoteFramed i) (log_from v m names).notes) → (o : Option Taken) → turn_of w name ≡ o → (let m : Log = elim o [ None ↦ l | Some t ↦ log_from t.world (log_turn w l name t.event) names ] in AllByRecursion (IsNoteFramed i) m.notes)
    by_turn more None e = subst (λ j. AllByRecursion (IsNoteFramed j) l.notes) image was.notes
    by_turn more (Some t) e =
        let turn : IsTurn w name t.event t.world = e in
        let same : t.world.image ≡ w.image = ap (λ (v : WorldState). v.image) (turn_from w name t.event t.world turn).parts.new_is in
        more t.world (log_turn w l name t.event) (same ∙ image) (turn_framed w l name t.event t.world was turn)

opening_is_framed : (i : Image) → IsFramedLog (initial_state i) (opening_log i)
unfolding root
opening_is_framed i = record { aligned = refl; chains = λ k. by_index k; notes = tt }
  where
    by_index : (k : ℕ) (a : ActorState) (c : CallChain) → slice_get (root i ∷ []) k ≡ Some a → slice_get (opening_chain i.entry ∷ []) k ≡ Some c → IsChainOf i a.compartment c
    by_index zero a c there at = subst (λ z. IsChainOf i a.compartment z) (one_of at) (subst (λ (z : ActorState). IsChainOf i z.compartment (opening_chain i.entry)) (one_of there) (opening_framed i i.entry))
    by_index (suc k) a c there at = absurd cc

pub chains_well_formed : ChainsAreWellFormed
chains_well_formed i names = from_framed names i (initial_state i) (opening_log i) refl (opening_is_framed i)
