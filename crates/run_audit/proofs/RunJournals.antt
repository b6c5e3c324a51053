-- The entries of a journal that are in its order, or still in logs.
use Rattle.std.proofs.Common.{◌≡◌, ◌⊎◌, inl, inr, ℕ, ◌+◌, ◌<◌, List, [], ◌∷◌, ◌++◌, length, take, refl, sym, ap, ◌∙◌, append-nil, append_assoc, arith}
use Rattle.std.proofs.lemmas.List.{length-append, take_more}
use Rattle.std.proofs.lemmas.List.Elements.{All-get_or}
use Rattle.std.specs.Prelude.{slice_index_or, All}
use Rattle.wedge_events.specs.declared.events.LogEntry.{LogEntry}
use Rattle.thread_laws.specs.Joining.{all_logged, journal_of}
use Rattle.thread_laws.specs.declared.gathered.ActorLog.{ActorLog}
use Rattle.run_audit.specs.RunJournals.{CountsAll}
use Rattle.run_audit.proofs.IndexedEntries.{length_in_order}

-- with logs they are theirs
pub in_logs_alone : (es : List LogEntry) (logs : List ActorLog) → 0 < length logs → (logs ≡ []) ⊎ (es ≡ []) → (all : List LogEntry) → es ++ all ≡ all
in_logs_alone es logs some (inl none) all = let no : length logs ≡ 0 = ap length none in absurd (omega (arith, some, no))
in_logs_alone es logs some (inr none) all = ap (λ xs. xs ++ all) none

-- and as many
pub length_in_logs : (es : List LogEntry) (logs : List ActorLog) → 0 < length logs → (logs ≡ []) ⊎ (es ≡ []) → length (es ++ journal_of logs) ≡ length (all_logged logs)
length_in_logs es logs some one = ap length (in_logs_alone es logs some one (journal_of logs)) ∙ length_in_order (all_logged logs)

-- ---- the entries of logs, counted

logged_append : (gs hs : List ActorLog) → all_logged (gs ++ hs) ≡ all_logged gs ++ all_logged hs
logged_append [] hs = refl
logged_append (g ∷ gs) hs = ap (λ es. g.entries ++ es) (logged_append gs hs) ∙ sym (append_assoc g.entries (all_logged gs) (all_logged hs))

pub counted_more : (gs : List ActorLog) (k : ℕ) (d : ActorLog) → k < length gs → All CountsAll gs → length (all_logged (take (k + 1) gs)) ≡ length (all_logged (take k gs)) + (slice_index_or gs k d).count
counted_more gs k d less all =
    let one = slice_index_or gs k d in
    let whole = ap (λ hs. length (all_logged hs)) (take_more gs k d less) in
    let parts = ap length (logged_append (take k gs) (one ∷ [])) in
    let both = length-append (all_logged (take k gs)) (one.entries ++ []) in
    let last = ap length (append-nil one.entries) in
    let count : one.count ≡ length one.entries = All-get_or CountsAll gs k d less all in
    omega (arith, whole, parts, both, last, count)
