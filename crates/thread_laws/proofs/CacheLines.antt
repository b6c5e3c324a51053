-- Where the logs are walked, their counts are for the entries of the journal.
use Rattle.std.proofs.Common.{◌≡◌, ℕ, Bool, true, false, List, [], ◌∷◌, map, refl, sym, ap, subst, ◌∙◌}
use Rattle.std.specs.Prelude.{Option, Some, None, if◌then◌else◌}
use Rattle.std.specs.Ordering.{nat_cmp, is_lt}
use Rattle.std.specs.Cmp.Lexicographic.{slice_cmp}
use Rattle.wedge_base.specs.Images.{Image}
use Rattle.wedge_base.specs.Names.{same, root_name}
use Rattle.wedge_base.specs.declared.outcome.ActorLine.{ActorLine}
use Rattle.wedge_events.specs.declared.events.LogEntry.{LogEntry}
use Rattle.machine.specs.Outcomes.{with_line}
use Rattle.run_laws.specs.Walks.{entries_of}
use Rattle.run_laws.proofs.Named.{same_equal}
use Rattle.thread_laws.specs.CacheLines.{with_counts, counts_named, CachesAreCounted}
use Rattle.thread_laws.specs.Executions.{Execution, names_begun}
use Rattle.thread_laws.specs.Forests.{nobody, someone, executions}
use Rattle.thread_laws.specs.Joining.{AreLogs, journal_of, log_named, with_log, logs_named, line_in, lines_in}
use Rattle.thread_laws.specs.LookUps.{IsCounted, AllCounted}
use Rattle.thread_laws.specs.Merging.{execution_named, entries_in_execution, IsMerge}
use Rattle.thread_laws.specs.declared.gathered.ActorLog.{ActorLog}
use Rattle.thread_laws.proofs.Joining.{IsLogIf, log_if, walked_merge}

-- ---- there is a log for each line

abbrev HasLog : List ActorLog → List ℕ → Type 0
HasLog logs name = (g : ActorLog) × (log_named logs name ≡ Some g)

abbrev HaveLogs : List ActorLog → List ActorLine → Type 0
HaveLogs logs [] = Unit {0}
HaveLogs logs (l ∷ ls) = HasLog logs l.name × HaveLogs logs ls

named_so : (logs : List ActorLog) (name : List ℕ) (g : ActorLog) → log_named logs name ≡ Some g → g.name ≡ name
named_so [] name g e = absurd cc
named_so (h ∷ hs) name g e = by_name (same h.name name) refl e (named_so hs name g)
  where
    by_name : (t : Bool) → same h.name name ≡ t → (if t then Some h else log_named hs name) ≡ Some g → (log_named hs name ≡ Some g → g.name ≡ name) → g.name ≡ name
    by_name true is f others = let one : h ≡ g = cc in ap (λ (x : ActorLog). x.name) (sym one) ∙ same_equal h.name name is
    by_name false is f others = others f

line_has : (logs : List ActorLog) (l : ActorLine) (ls : List ActorLine) → HasLog logs l.name → HaveLogs logs ls → HaveLogs logs (with_line l ls)
line_has logs l [] h others = (h, tt)
line_has logs l (m ∷ ms) h others = by_order (is_lt (slice_cmp nat_cmp l.name m.name)) (line_has logs l ms h others.1)
  where
    by_order : (t : Bool) → HaveLogs logs (with_line l ms) → HaveLogs logs (if t then l ∷ m ∷ ms else m ∷ with_line l ms)
    by_order true k = (h, others)
    by_order false k = (others.0, k)

lines_have : (i : Image) (logs : List ActorLog) (ns : List (List ℕ)) → HaveLogs logs (lines_in i (logs_named logs ns))
lines_have i logs [] = tt
lines_have i logs (n ∷ ns) = by_log (log_named logs n) refl (lines_have i logs ns)
  where
    by_log : (o : Option ActorLog) → log_named logs n ≡ o → HaveLogs logs (lines_in i (logs_named logs ns)) → HaveLogs logs (lines_in i (with_log o (logs_named logs ns)))
    by_log None is others = others
    by_log (Some g) is others = line_has logs (line_in i g) (lines_in i (logs_named logs ns)) (g, ap (log_named logs) (named_so logs n g is) ∙ is) others

names_are : (logs : List ActorLog) (ls : List ActorLine) → HaveLogs logs ls → map (λ c. c.name) (counts_named logs (map (λ l. l.name) ls)) ≡ map (λ l. l.name) ls
names_are logs [] h = refl
names_are logs (l ∷ ls) h =
    ap (λ o. map (λ c. c.name) (with_counts l.name o (counts_named logs (map (λ l. l.name) ls)))) h.0.1 ∙ ap (λ ns. l.name ∷ ns) (names_are logs ls h.1)

-- ---- each has the counts for the entries of its actor

log_counted : (i : Image) (o : Option Execution) (g : ActorLog) (es : List LogEntry) → IsLogIf i o (Some g) → es ≡ entries_in_execution o → IsCounted es g.cache
log_counted i None g es h e = absurd h
log_counted i (Some l) g es h e = subst (λ xs. IsCounted xs g.cache) (h.entries ∙ sym e) h.end_.counted

counted_so : (i : Image) (ls : List Execution) (logs : List ActorLog) (es : List LogEntry) → AreLogs i ls logs → IsMerge ls es → (ns : List (List ℕ)) → AllCounted es (counts_named logs ns)
counted_so i ls logs es logs_ merge [] = tt
counted_so i ls logs es logs_ merge (n ∷ ns) = by_log (log_named logs n) (log_if i ls logs n logs_) (counted_so i ls logs es logs_ merge ns)
  where
    by_log : (o : Option ActorLog) → IsLogIf i (execution_named ls n) o → AllCounted es (counts_named logs ns) → AllCounted es (with_counts n o (counts_named logs ns))
    by_log None h others = others
    by_log (Some g) h others = (log_counted i (execution_named ls n) g (entries_of n es) h (merge.each n), others)

pub caches_are_counted : CachesAreCounted
caches_are_counted i logs walked = record {
  names = names_are logs (lines_in i (logs_named logs (root_name ∷ names_begun (journal_of logs)))) (lines_have i logs (root_name ∷ names_begun (journal_of logs)));
  counted = counted_so i (executions (someone walked.own walked.its nobody)) logs (journal_of logs) walked.logs_ (walked_merge i logs walked)
      (map (λ l. l.name) (lines_in i (logs_named logs (root_name ∷ names_begun (journal_of logs)))));
}
