-- In every run a turn adds its own notes to the log.
use Rattle.std.proofs.Common.{◌≡◌, ℕ, List, [], ◌∷◌, ◌++◌, length, map, refl, sym, ap, subst, ◌∙◌, append-nil}
use Rattle.std.proofs.lemmas.List.{map-append}
use Rattle.std.specs.Prelude.{Option, Some, None, slice_set}
use Rattle.wedge_base.specs.Images.{Image}
use Rattle.wedge_events.specs.declared.events.Event.{Event}
use Rattle.wedge_events.specs.declared.events.Turn.{Turn}
use Rattle.machine.specs.Actors.{ActorState, root}
use Rattle.machine.specs.Local.{rest}
use Rattle.machine.specs.Take.{actor_begun}
use Rattle.machine.specs.Worlds.{WorldState, Taken, initial_state, ready, resumed, turn_of, Runs}
use Rattle.run_laws.specs.CopiesGranted.{AreOwnCopiesGranted}
use Rattle.run_laws.proofs.GrantedCopies.{copies_granted}
use Rattle.run_laws.proofs.Happening.{Happens}
use Rattle.run_laws.proofs.Settling.{AllReady, turn_happens, run_ready}
use Rattle.run_laws.proofs.Turns.{Turned, ready_is, turn_from}
use Rattle.run_notes.specs.Doers.{doer_of}
use Rattle.run_notes.specs.declared.chain.CallChain.{CallChain}
use Rattle.run_notes.specs.Notes.{Noted, noted_rest, with_note, event_note}
use Rattle.run_log.specs.Logs.{Log}
use Rattle.run_log.specs.Logging.{opening_log, with_chain, log_turn, log_from}
use Rattle.run_log.specs.NoteLaws.{IsEventNote, chain_at_rest, chain_begun, AreTurnNotes, log_so_far, IsFirstLog, NotesAreWithin}
use Rattle.run_log.proofs.LogTurns.{logs_turn}
use Rattle.run_log.proofs.NotedCopies.{rest_notes}
use Rattle.run_log.proofs.NotedEvents.{event_noted}
use Rattle.world_turns.specs.Progress.{IsTurn}

begun_behind : (cs : List CallChain) (o : Option ActorState) → with_chain cs o ≡ cs ++ chain_begun o
begun_behind cs None = sym (append-nil cs)
begun_behind cs (Some a) = refl

turn_notes : (w : WorldState) (l : Log) (name : List ℕ) (e : Event) (new : WorldState) → AllReady w → length l.chains ≡ length w.actors → (t : Turned w name e new) → AreOwnCopiesGranted t.actor
    → AreTurnNotes w l (record { actor = name; event = e }) (log_turn w l name e)
turn_notes w l name e new all aligned t granted =
    let i = w.image in
    let a = t.actor in
    let b = ready w.actors a in
    let r = rest i b in
    let p = logs_turn w l name e new t aligned in
    let start : Noted = record { chain = p.chain; notes = l.notes } in
    let n = noted_rest i l.makings b start in
    let goes : AreOwnCopiesGranted b = ready_is AreOwnCopiesGranted w.actors a granted (λ k x fuel. granted) in
    let own = rest_notes i l.makings b start goes in
    let last = event_note i l.makings (doer_of r) n.chain e in
    let happens : Happens (resumed w a) r e = subst (λ y. Happens (resumed w a) y e) (ap (rest i) t.is) (turn_happens w name e new all t) in
    record {
      actor = a;
      named = t.named;
      index = p.index;
      at = p.indexed;
      chain = p.chain;
      kept = p.at;
      own = own.own;
      last = last;
      notes = ap (λ (x : Log). x.notes) p.is ∙ ap (λ ns. with_note ns last) own.notes;
      copies = own.are;
      event = subst (λ ch. IsEventNote i w.cells l.makings r ch e last) own.chain (event_noted (resumed w a) l.makings r n.chain e happens);
      chains = ap (λ (x : Log). x.chains) p.is ∙ (ap (λ ch. with_chain (slice_set l.chains p.index ch) (actor_begun i r e)) own.chain ∙ begun_behind (slice_set l.chains p.index (chain_at_rest i b p.chain)) (actor_begun i r e));
    }

-- ---- the log of a run, turn by turn

pub first_logged : (w mid : WorldState) (l : Log) (name : List ℕ) (e : Event) (names : List (List ℕ)) → turn_of w name ≡ Some (record { event = e; world = mid }) → log_from w l (name ∷ names) ≡ log_from mid (log_turn w l name e) names
unfolding log_from
first_logged w mid l name e names turn = ap (λ (o : Option Taken). elim o [ None ↦ l | Some t ↦ log_from t.world (log_turn w l name t.event) names ]) turn

last_logged : (old : WorldState) (l : Log) (turns : List Turn) (w new : WorldState) (name : List ℕ) (e : Event) → Runs old turns w → turn_of w name ≡ Some (record { event = e; world = new })
    → log_from old l (map (λ t. t.actor) turns ++ name ∷ []) ≡ log_turn w (log_from old l (map (λ t. t.actor) turns)) name e
unfolding log_from
last_logged old l [] w new name e run turn =
    first_logged old new l name e [] (subst (λ (v : WorldState). turn_of v name ≡ Some (record { event = e; world = new })) run turn) ∙ ap (λ (v : WorldState). log_turn v l name e) (sym run)
last_logged old l (t ∷ ts) w new name e run turn =
    let later = map (λ (u : Turn). u.actor) ts in
    first_logged old run.0 l t.actor t.event (later ++ name ∷ []) run.1
    ∙ (last_logged run.0 (log_turn old l t.actor t.event) ts w new name e run.2 turn
    ∙ ap (λ x. log_turn w x name e) (sym (first_logged old run.0 l t.actor t.event later run.1)))

-- each actor has a chain
pub turn_aligned : (w : WorldState) (l : Log) (name : List ℕ) (e : Event) (new : WorldState) → IsTurn w name e new → length l.chains ≡ length w.actors → length (log_turn w l name e).chains ≡ length new.actors
turn_aligned w l name e new turn aligned = (let p = logs_turn w l name e new (turn_from w name e new turn) aligned in ap (λ (x : Log). length x.chains) p.is ∙ p.aligned)

run_aligned : (old : WorldState) (l : Log) (turns : List Turn) (w : WorldState) → Runs old turns w → length l.chains ≡ length old.actors → length (log_from old l (map (λ t. t.actor) turns)).chains ≡ length w.actors
unfolding log_from
run_aligned old l [] w run aligned = aligned ∙ ap (λ (v : WorldState). length v.actors) (sym run)
run_aligned old l (t ∷ ts) w run aligned =
    ap (λ (x : Log). length x.chains) (first_logged old run.0 l t.actor t.event (map (λ (u : Turn). u.actor) ts) run.1)
    ∙ run_aligned run.0 (log_turn old l t.actor t.event) ts w run.2 (turn_aligned old l t.actor t.event run.0 run.1 aligned)

notes_each : (i : Image) (turns : List Turn) (w new : WorldState) (t : Turn) → Runs (initial_state i) turns w → turn_of w t.actor ≡ Some (record { event = t.event; world = new }) → AreTurnNotes w (log_so_far i turns) t (log_so_far i (turns ++ t ∷ []))
notes_each i turns w new t run turn =
    let old = initial_state i in
    let names = map (λ (u : Turn). u.actor) turns in
    let l = log_from old (opening_log i) names in
    let p = turn_from w t.actor t.event new turn in
    let aligned = run_aligned old (opening_log i) turns w run refl in
    let granted : AreOwnCopiesGranted p.actor = (copies_granted i turns w run t.actor p.actor p.named).own in
    let whole = ap (log_from old (opening_log i)) (map-append (λ (u : Turn). u.actor) turns (t ∷ [])) ∙ last_logged old (opening_log i) turns w new t.actor t.event run turn in
    subst (AreTurnNotes w l t) (sym whole) (turn_notes w l t.actor t.event new (run_ready i turns w run) aligned p granted)

first_log : (i : Image) → IsFirstLog i (log_so_far i [])
unfolding log_from root
first_log i = record { notes = refl; chains = refl }

pub notes_within : NotesAreWithin
notes_within = record { first = first_log; each = notes_each }
