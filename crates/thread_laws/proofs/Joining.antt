-- Where the logs are walked, the histories are legal and both agree, the journal is a complete run, with the outcome that is read off both.
use Rattle.std.proofs.Common.{◌≡◌, ℕ, zero, suc, ◌+◌, Bool, true, false, true≢false, List, [], ◌∷◌, ◌++◌, length, refl, sym, ap, subst, ◌∙◌, arith}
use Rattle.std.specs.Prelude.{Option, Some, None, map, slice_get, if◌then◌else◌}
use Rattle.wedge_base.specs.Images.{Image, procedure_name}
use Rattle.wedge_base.specs.Names.{same, root_name}
use Rattle.wedge_events.specs.Journals.{turns_of}
use Rattle.wedge_events.specs.Streams.{Stream}
use Rattle.wedge_events.specs.declared.events.CellName.TheVariants as cell
use Rattle.wedge_events.specs.declared.events.LogEntry.{LogEntry}
use Rattle.machine.specs.declared.phase.Phase.{Phase}
use Rattle.machine.specs.Actors.{ActorState}
use Rattle.machine.specs.Take.{takes}
use Rattle.machine.specs.Cells.{Cells, held, opening_cells, stream_in, cells_after}
use Rattle.run_laws.specs.Names.{IsNew, AreDistinct}
use Rattle.machine.specs.Outcomes.{line_of, with_line, with_actor_line, lines_of, labels_of, streams_of, outcome_of}
use Rattle.machine.specs.Worlds.{WorldState, actor_named}
use Rattle.run_laws.proofs.FamilyRuns.{run_family}
use Rattle.run_laws.proofs.Named.{same_self, same_equal}
use Rattle.thread_laws.specs.declared.gathered.ActorLog.{ActorLog}
use Rattle.thread_laws.specs.declared.gathered.CellHistory.{CellHistory}
use Rattle.thread_laws.specs.Joining.{IsEndOf, IsExecutionLog, AreLogs, AreWalked, all_logged, journal_of, log_named, with_log, logs_named, logs_in_order, line_in, lines_in, labels_in, stream_left, streams_from, streams_left, outcome_gathered, GatheredIsRun}
use Rattle.thread_laws.specs.Histories.{entries_on, IsLegal, left_by_history, cells_after_entries}
use Rattle.thread_laws.specs.Forests.{Forest, nobody, someone, executions, IsForestOfRoot}
use Rattle.thread_laws.specs.Laws.{IsRunOfExecutions}
use Rattle.thread_laws.specs.Executions.{LearnedEnd, at_next_event, after_entries, Execution, final_state, names_begun}
use Rattle.thread_laws.specs.Merging.{execution_named, IsMerge}
use Rattle.thread_laws.specs.Sorting.{in_order, all_entries}
use Rattle.thread_laws.proofs.Alike.{streams_long}
use Rattle.thread_laws.proofs.Creations.{taken_name}
use Rattle.thread_laws.proofs.GoingOn.{runs_go_on}
use Rattle.thread_laws.proofs.Forests.{forest_is_executions}
use Rattle.thread_laws.proofs.Merging.{executions_are_a_run}
use Rattle.thread_laws.proofs.Sorting.{order_is_merge}
use Rattle.thread_laws.proofs.Turning.{names_of}

-- ---- actors in an order of names

abbrev with_execution : Option Execution → List Execution → List Execution
with_execution None ls = ls
with_execution (Some l) ls = l ∷ ls

abbrev executions_named : List Execution → List (List ℕ) → List Execution
executions_named ls [] = []
executions_named ls (n ∷ ns) = with_execution (execution_named ls n) (executions_named ls ns)

-- where each name of its own is found, it is there
found_each : (actors : List ActorState) (a : ActorState) (bs : List ActorState) → IsNew a.name bs → (m : List ℕ) (b : ActorState) → actor_named bs m ≡ Some b → same a.name m ≡ false
found_each actors a [] new m b e = absurd cc
found_each actors a (y ∷ ys) new m b e = by_name (same y.name m) refl e (found_each actors a ys new.1 m b)
  where
    by_name : (t : Bool) → same y.name m ≡ t → (if t then Some y else actor_named ys m) ≡ Some b → (actor_named ys m ≡ Some b → same a.name m ≡ false) → same a.name m ≡ false
    by_name false is h others = others h
    by_name true is h others = by_own (same a.name m) refl
      where
        by_own : (u : Bool) → same a.name m ≡ u → same a.name m ≡ false
        by_own false k = k
        by_own true k =
            let one : same y.name a.name ≡ true = ap (same y.name) (same_equal a.name m k) ∙ is in
            absurd (true≢false (sym one ∙ new.0))

-- the actors of a list with names of their own are those that their names say
abbrev Finds : Image → List Execution → List ActorState → Type 0
Finds i ls [] = Unit {0}
Finds i ls (a ∷ as_) = ((l : Execution) × (execution_named ls a.name ≡ Some l) × (final_state i l ≡ a)) × Finds i ls as_

finds : (i : Image) (ls : List Execution) (actors : List ActorState) → AreDistinct actors
    → ((m : List ℕ) (a : ActorState) → actor_named actors m ≡ Some a → (l : Execution) × (execution_named ls m ≡ Some l) × (final_state i l ≡ a)) → Finds i ls actors
finds i ls [] apart find_ = tt
finds i ls (a ∷ as_) apart find_ = (
  find_ a.name a (ap (λ t. if t then Some a else actor_named as_ a.name) (same_self a.name)),
  finds i ls as_ apart.1 (λ m b e. find_ m b (ap (λ t. if t then Some a else actor_named as_ m) (found_each as_ a as_ apart.0 m b e) ∙ e)),
)

ordered : (i : Image) (ls : List Execution) (actors : List ActorState) → Finds i ls actors → actors ≡ map (final_state i) (executions_named ls (names_of actors))
ordered i ls [] h = refl
ordered i ls (a ∷ as_) h =
    ap (λ x. x ∷ as_) (sym h.0.2) ∙ (ap (λ xs. final_state i h.0.0 ∷ xs) (ordered i ls as_ h.1)
    ∙ sym (ap (λ o. map (final_state i) (with_execution o (executions_named ls (names_of as_)))) h.0.1))

-- ---- logs

-- a walk keeps the name
pub after_entries_name : (i : Image) (learned : List LearnedEnd) (a : ActorState) (es : List LogEntry) → (after_entries i learned a es).name ≡ a.name
after_entries_name i learned a [] = refl
after_entries_name i learned a (e ∷ es) = after_entries_name i learned (takes i (at_next_event i learned a) e.event) es ∙ taken_name i learned a e.event

log_name : (i : Image) (l : Execution) (g : ActorLog) → IsExecutionLog i l g → g.name ≡ l.began.name
log_name i l g h = h.end_.name ∙ after_entries_name i l.learned l.began l.entries

logged : (i : Image) (ls : List Execution) (logs : List ActorLog) → AreLogs i ls logs → all_logged logs ≡ all_entries ls
logged i [] [] h = refl
logged i [] (g ∷ gs) h = absurd h
logged i (l ∷ ls) [] h = absurd h
logged i (l ∷ ls) (g ∷ gs) h = ap (λ es. es ++ all_logged gs) h.0.entries ∙ ap (λ es. l.entries ++ es) (logged i ls gs h.1)

-- a log and a execution of each name
abbrev pub IsLogIf : Image → Option Execution → Option ActorLog → Type 0
IsLogIf i None None = Unit {0}
IsLogIf i None (Some g) = ⊥
IsLogIf i (Some l) None = ⊥
IsLogIf i (Some l) (Some g) = IsExecutionLog i l g

pub log_if : (i : Image) (ls : List Execution) (logs : List ActorLog) (m : List ℕ) → AreLogs i ls logs → IsLogIf i (execution_named ls m) (log_named logs m)
log_if i [] [] m h = tt
log_if i [] (g ∷ gs) m h = absurd h
log_if i (l ∷ ls) [] m h = absurd h
log_if i (l ∷ ls) (g ∷ gs) m h = by_name (same l.began.name m) (same g.name m) (ap (λ n. same n m) (log_name i l g h.0)) (log_if i ls gs m h.1)
  where
    by_name : (t u : Bool) → u ≡ t → IsLogIf i (execution_named ls m) (log_named gs m) → IsLogIf i (if t then Some l else execution_named ls m) (if u then Some g else log_named gs m)
    by_name true true e others = h.0
    by_name false false e others = others
    by_name true false e others = absurd cc
    by_name false true e others = absurd cc

with_both : (i : Image) (o : Option Execution) (p : Option ActorLog) (ls : List Execution) (gs : List ActorLog) → IsLogIf i o p → AreLogs i ls gs → AreLogs i (with_execution o ls) (with_log p gs)
with_both i None None ls gs h others = others
with_both i None (Some g) ls gs h others = absurd h
with_both i (Some l) None ls gs h others = absurd h
with_both i (Some l) (Some g) ls gs h others = (h, others)

logs_ordered : (i : Image) (ls : List Execution) (logs : List ActorLog) (ns : List (List ℕ)) → AreLogs i ls logs → AreLogs i (executions_named ls ns) (logs_named logs ns)
logs_ordered i ls logs [] h = tt
logs_ordered i ls logs (n ∷ ns) h = with_both i (execution_named ls n) (log_named logs n) (executions_named ls ns) (logs_named logs ns) (log_if i ls logs n h) (logs_ordered i ls logs ns h)

-- ---- lines, labels and streams

-- the line of a log is that of the actor at the end of its execution
line_is : (i : Image) (a : ActorState) (g : ActorLog) → IsEndOf a g → line_in i g ≡ line_of i a g.end
line_is i a g h =
    ap (λ n. record (line_in i g) { name = n }) h.name
    ∙ (ap (λ c. record { name = a.name; compartment = procedure_name i c; end = g.end; pc = g.pc; fuel = g.fuel; denials = g.denials }) h.compartment
    ∙ (ap (λ p. record { name = a.name; compartment = procedure_name i a.compartment; end = g.end; pc = p; fuel = g.fuel; denials = g.denials }) h.pc
    ∙ (ap (λ f. record { name = a.name; compartment = procedure_name i a.compartment; end = g.end; pc = a.hart.pc; fuel = f; denials = g.denials }) h.fuel
    ∙ ap (λ d. record { name = a.name; compartment = procedure_name i a.compartment; end = g.end; pc = a.hart.pc; fuel = a.fuel; denials = d }) h.denials)))

lines_alike : (i : Image) (ls : List Execution) (logs : List ActorLog) → AreLogs i ls logs → lines_of i (map (final_state i) ls) ≡ lines_in i logs
lines_alike i [] [] h = refl
lines_alike i [] (g ∷ gs) h = absurd h
lines_alike i (l ∷ ls) [] h = absurd h
lines_alike i (l ∷ ls) (g ∷ gs) h =
    let a = final_state i l in
    ap (with_actor_line i a a.phase) (lines_alike i ls gs h.1)
    ∙ (ap (λ (p : Phase). with_actor_line i a p (lines_in i gs)) h.0.end_.ended ∙ ap (λ x. with_line x (lines_in i gs)) (sym (line_is i a g h.0.end_)))

labels_alike : (i : Image) (ls : List Execution) (logs : List ActorLog) → AreLogs i ls logs → labels_of (map (final_state i) ls) ≡ labels_in logs
labels_alike i [] [] h = refl
labels_alike i [] (g ∷ gs) h = absurd h
labels_alike i (l ∷ ls) [] h = absurd h
labels_alike i (l ∷ ls) (g ∷ gs) h = ap (λ xs. (final_state i l).labels ++ xs) (labels_alike i ls gs h.1) ∙ ap (λ xs. xs ++ labels_in gs) (sym h.0.end_.labels)

streams_alike : (i : Image) (cells : List CellHistory) (xs : List (Option Stream)) (n fd : ℕ) → length xs ≡ n → ((k : ℕ) → held (slice_get xs k) ≡ stream_left i cells (fd + k)) → xs ≡ streams_from i cells n fd
streams_alike i cells [] zero fd long h = refl
streams_alike i cells [] (suc n) fd long h = absurd (omega (arith, long))
streams_alike i cells (x ∷ xs) zero fd long h = absurd (omega (arith, long))
streams_alike i cells (x ∷ xs) (suc n) fd long h =
    let first : x ≡ stream_left i cells fd = h 0 ∙ ap (stream_left i cells) (omega arith) in
    let others : xs ≡ streams_from i cells n (fd + 1) = streams_alike i cells xs n (fd + 1) (omega (arith, long)) (λ k. h (suc k) ∙ ap (stream_left i cells) (omega arith)) in
    ap (λ y. y ∷ xs) first ∙ ap (λ ys. stream_left i cells fd ∷ ys) others

-- entries leave as many streams as there were
kept_long : (c : Cells) (es : List LogEntry) → length (cells_after_entries c es).streams ≡ length c.streams
kept_long c [] = refl
kept_long c (e ∷ es) = kept_long (cells_after c e.event) es ∙ streams_long c e.event

-- ---- the theorem

lifted : (i : Image) (ls : List Execution) (w : WorldState) → ((m : List ℕ) (l : Execution) → execution_named ls m ≡ Some l → actor_named w.actors m ≡ Some (final_state i l)) → ((m : List ℕ) → execution_named ls m ≡ None → actor_named w.actors m ≡ None)
    → (m : List ℕ) (a : ActorState) → actor_named w.actors m ≡ Some a → (l : Execution) × (execution_named ls m ≡ Some l) × (final_state i l ≡ a)
lifted i ls w there none m a e = by_execution (execution_named ls m) refl
  where
    by_execution : (o : Option Execution) → execution_named ls m ≡ o → (l : Execution) × (execution_named ls m ≡ Some l) × (final_state i l ≡ a)
    by_execution None is = let f : None ≡ Some a = sym (none m is) ∙ e in absurd cc
    by_execution (Some l) is = let f : Some (final_state i l) ≡ Some a = sym (there m l is) ∙ e in (l, is, cc)

-- the journal of walked logs is a merge of the executions
pub walked_merge : (i : Image) (logs : List ActorLog) (walked : AreWalked i logs) → IsMerge (executions (someone walked.own walked.its nobody)) (journal_of logs)
walked_merge i logs walked = subst (λ xs. IsMerge ls (in_order xs)) (sym (logged i ls logs walked.logs_)) (order_is_merge i ls fits.executions_ fits.apart)
  where
    ls : List Execution
    ls = executions (someone walked.own walked.its nobody)

    fits : IsForestOfRoot i (someone walked.own walked.its nobody)
    fits = forest_is_executions i (someone walked.own walked.its nobody) walked.forest

pub gathered_is_run : GatheredIsRun
gathered_is_run i logs cells walked legal agrees = record { last = r.last; run = r.run; complete = r.complete; rising = merge.rising; goes_on = runs_go_on i (turns_of es) r.last r.run; ends = sym outcome }
  where
    k : Forest
    k = someone walked.own walked.its nobody

    ls : List Execution
    ls = executions k

    es : List LogEntry
    es = journal_of logs

    fits : IsForestOfRoot i k
    fits = forest_is_executions i k walked.forest

    merge : IsMerge ls es
    merge = walked_merge i logs walked

    r : IsRunOfExecutions i ls es
    r = executions_are_a_run i ls es fits.executions_ merge (λ x. subst (IsLegal i x) (agrees x tt) (legal x))

    w : WorldState
    w = r.last

    order : w.actors ≡ map (final_state i) (executions_named ls (root_name ∷ names_begun es))
    order = ordered i ls w.actors (finds i ls w.actors (run_family i (turns_of es) w r.run).distinct (lifted i ls w r.actors r.others)) ∙ ap (λ ns. map (final_state i) (executions_named ls ns)) r.names

    logs_ : AreLogs i (executions_named ls (root_name ∷ names_begun es)) (logs_in_order logs)
    logs_ = logs_ordered i ls logs (root_name ∷ names_begun es) walked.logs_

    lines : lines_of w.image w.actors ≡ lines_in i (logs_in_order logs)
    lines = ap (λ j. lines_of j w.actors) r.image ∙ (ap (lines_of i) order ∙ lines_alike i (executions_named ls (root_name ∷ names_begun es)) (logs_in_order logs) logs_)

    labels : labels_of w.actors ≡ labels_in (logs_in_order logs)
    labels = ap labels_of order ∙ labels_alike i (executions_named ls (root_name ∷ names_begun es)) (logs_in_order logs) logs_

    stream : (fd : ℕ) → held (slice_get w.cells.streams fd) ≡ stream_left i cells fd
    stream fd = (r.cells (cell.Fd fd)).0 ∙ ap (λ xs. stream_in (left_by_history i xs) fd) (sym (agrees (cell.Fd fd) tt))

    long : length w.cells.streams ≡ length (opening_cells i).streams
    long = (r.cells (cell.Fd 0)).1 ∙ kept_long (opening_cells i) (entries_on (cell.Fd 0) es)

    streams : w.cells.streams ≡ streams_left i cells
    streams = streams_alike i cells w.cells.streams (length (opening_cells i).streams) 0 long (λ n. stream n ∙ ap (stream_left i cells) (omega arith))

    outcome : outcome_of w ≡ outcome_gathered i logs cells
    outcome =
        ap (λ ls. record { actors = ls; streams = streams_of w.image (labels_of w.actors) 0 w.cells.streams }) lines
        ∙ (ap (λ j. record { actors = lines_in i (logs_in_order logs); streams = streams_of j (labels_of w.actors) 0 w.cells.streams }) r.image
        ∙ (ap (λ xs. record { actors = lines_in i (logs_in_order logs); streams = streams_of i xs 0 w.cells.streams }) labels
        ∙ ap (λ xs. record { actors = lines_in i (logs_in_order logs); streams = streams_of i (labels_in (logs_in_order logs)) 0 xs }) streams))
