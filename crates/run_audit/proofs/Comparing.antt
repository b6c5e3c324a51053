-- What the first difference of two lists says of histories and the journal.
use Rattle.std.proofs.Common.{◌≡◌, List, sym, ap, subst, ◌∙◌, map}
use Rattle.std.specs.Prelude.{Option, Some, None}
use Rattle.std.specs.List.Sorted.{IsSortedBy, IsStableBy}
use Rattle.wedge_events.specs.declared.events.CellName.{CellName}
use Rattle.wedge_events.specs.declared.events.LogEntry.{LogEntry}
use Rattle.stable_sort.proofs.Sorted.{rises_if_sorted}
use Rattle.thread_laws.specs.Auditing.{DifferAt}
use Rattle.thread_laws.specs.Histories.{entries_on}
use Rattle.thread_laws.specs.Replaying.{history_of}
use Rattle.thread_laws.specs.declared.gathered.CellHistory.{CellHistory}
use Rattle.run_audit.specs.CellOrder.{by_cell}
use Rattle.run_audit.specs.Differences.{IsComparison}
use Rattle.run_audit.specs.HistoryEntries.{history_first, entries_kept, kept_as}
use Rattle.run_audit.specs.declared.kept.KeptEntry.{KeptEntry}
use Rattle.run_audit.specs.Orders.{entries_ordered}
use Rattle.run_audit.specs.ListDifferences.{AreInCellOrder, IsListDifference}
use Rattle.run_audit.specs.declared.fault.Difference.{Difference}
use Rattle.run_audit.proofs.CellKeys.{stable_on}
use Rattle.run_audit.proofs.KeptLists.{rises_kept, kept_in_order}
use Rattle.run_audit.proofs.TwoHeads.{order_from}

pub kept_ordered : (hs : List CellHistory) (xs : List LogEntry) → xs ≡ entries_kept hs → AreInCellOrder xs
kept_ordered hs xs e = subst AreInCellOrder (sym e) (order_from (entries_kept hs) (rises_kept hs))

pub sorted_ordered : (ls : List LogEntry) → IsSortedBy by_cell ls → AreInCellOrder ls
sorted_ordered ls up = order_from ls (rises_if_sorted by_cell entries_ordered ls up)

pub compared_of : (cells hs : List CellHistory) (es ls ks : List LogEntry) (r : Option Difference) → IsSortedBy history_first hs → IsStableBy history_first cells hs → ks ≡ entries_kept hs → IsStableBy by_cell es ls → IsListDifference ks ls r → IsComparison cells es r
compared_of cells hs es ls ks r up stable e steady h = by_result r h
  where
    kept : (name : CellName) → entries_on name ks ≡ history_of cells name
    kept name = ap (entries_on name) e ∙ (kept_in_order cells hs up stable).1 name

    logged : (name : CellName) → entries_on name ls ≡ entries_on name es
    logged name = stable_on name es ls steady

    by_result : (r : Option Difference) → IsListDifference ks ls r → IsComparison cells es r
    by_result None h = λ name. sym (kept name) ∙ (h name ∙ logged name)
    by_result (Some d) h = record {
      differ = subst (λ xs. DifferAt xs (entries_on d.cell es) d.index d.kept d.logged) (kept d.cell) (subst (λ ys. DifferAt (entries_on d.cell ks) ys d.index d.kept d.logged) (logged d.cell) h.differ);
      first = λ name before. sym (kept name) ∙ (h.first name before ∙ logged name);
    }

pub compared_as : (cells hs slices : List CellHistory) (es ls logged : List LogEntry) (ks kept : List KeptEntry) (r : Option Difference) → IsSortedBy history_first hs → IsStableBy history_first cells hs → slices ≡ hs → map kept_as ks ≡ entries_kept slices → kept ≡ ks → IsStableBy by_cell es ls → logged ≡ ls
    → IsListDifference (map kept_as kept) logged r → IsComparison cells es r
compared_as cells hs slices es ls logged ks kept r up stable a e b steady c h =
    compared_of cells hs es ls (map kept_as ks) r up stable (subst (λ x. map kept_as ks ≡ entries_kept x) a e) steady (subst (λ y. IsListDifference (map kept_as y) ls r) b (subst (λ z. IsListDifference (map kept_as kept) z r) c h))
