-- Entries with their indices among all, and the list that is taken by indices.
use Rattle.std.specs.Prelude.{ℕ, ◌+◌, Bool, not, List, [], ◌∷◌, map, Option, Some, None}
use Rattle.std.specs.Prelude.{slice_index_or, slice_set}
use Rattle.std.specs.Cmp.{IsStrictWeakOrder}
use Rattle.std.specs.List.{filter}
use Rattle.std.specs.List.Sorted.{IsSortedBy, IsStableBy}
use Rattle.std.specs.Cmp.Lexicographic.{nat_list_cmp_total}
use Rattle.std.proofs.lemmas.Cmp.{then_total, on_total, nat_cmp_total}
use Rattle.std.proofs.lemmas.List.Sorted.{ranks_by}
use Rattle.stable_sort.specs.Sorting.{sorted}
use Rattle.wedge_events.specs.declared.events.LogEntry.{LogEntry}
use Rattle.thread_laws.specs.Sorting.{comes_before}
use Rattle.thread_laws.specs.declared.gathered.ActorLog.{ActorLog}
use Rattle.thread_laws.specs.KeptEntries.{is_on_declared, all_kept}

-- an entry, and its index among all
pub record IndexedEntry : Type 0 where
  pub entry : LogEntry
  pub index : ℕ

-- entries with their indices, from a number on
abbrev pub indexed : ℕ → List LogEntry → List IndexedEntry
indexed n [] = []
indexed n (e ∷ es) = record { entry = e; index = n } ∷ indexed (n + 1) es

abbrev pub entries_without_index : List IndexedEntry → List LogEntry
entries_without_index xs = map (λ (x : IndexedEntry). x.entry) xs

abbrev pub indices_of : List IndexedEntry → List ℕ
indices_of xs = map (λ (x : IndexedEntry). x.index) xs

abbrev pub indexed_before : IndexedEntry → IndexedEntry → Bool
indexed_before x y = comes_before x.entry y.entry

pub indexed_ordered : IsStrictWeakOrder indexed_before
indexed_ordered = ranks_by
    (then_total (on_total (λ (e : LogEntry). e.stamp) nat_cmp_total)
    (on_total (λ (e : LogEntry). e.actor) nat_list_cmp_total))
    (λ (x : IndexedEntry). x.entry)

-- those that are not on the first n slots, in their order
abbrev pub compared_indexed : ℕ → List IndexedEntry → List IndexedEntry
compared_indexed n xs = filter (λ (x : IndexedEntry). not (is_on_declared n x.entry.event)) xs

-- those of these entries that are not on the first n slots, in the order of their stamps; the indices
-- of all are from a number on
pub record AreInOrder (n first : ℕ) (es : List LogEntry) (xs : List IndexedEntry) : Type 0 where
  pub sorted_ : IsSortedBy indexed_before xs
  pub stable : IsStableBy indexed_before (compared_indexed n (indexed first es)) xs

-- the entries that logs keep, in the order of the journal, each with its index among them, log by log
abbrev pub indexed_journal : List ActorLog → List IndexedEntry
indexed_journal logs = sorted indexed_before (indexed 0 (all_kept logs))

-- ---- entries taken by their indices

abbrev pub with_taken : Option LogEntry → List LogEntry → List LogEntry
with_taken None es = es
with_taken (Some e) es = e ∷ es

-- what is in the slots of these indices, each taken out once
abbrev pub taken_by : List ℕ → List (Option LogEntry) → List LogEntry
taken_by [] slots = []
taken_by (i ∷ is) slots =
    with_taken (slice_index_or slots i None) (taken_by is (slice_set slots i None))
