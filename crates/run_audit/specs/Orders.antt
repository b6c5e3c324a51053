-- That cells, and what is of them, are in an order.
use Rattle.std.specs.Cmp.{IsStrictWeakOrder, IsTotalOrder}
use Rattle.std.specs.Cmp.Lexicographic.{nat_list_cmp_total}
use Rattle.std.proofs.lemmas.Cmp.{then_total, on_total, nat_cmp_total}
use Rattle.std.proofs.lemmas.List.Sorted.{ranks_by}
use Rattle.std.specs.Prelude.{Some}
use Rattle.wedge_events.specs.Journals.{cell_of}
use Rattle.wedge_events.specs.declared.events.LogEntry.{LogEntry}
use Rattle.thread_laws.specs.Replaying.{cell_in}
use Rattle.thread_laws.specs.declared.gathered.CellHistory.{CellHistory}
use Rattle.run_audit.specs.CellOrder.{cell_kind, cell_maker, cell_number, cell_order, by_cell}
use Rattle.run_audit.specs.HistoryEntries.{history_first}

pub cells_total : IsTotalOrder cell_order
cells_total = then_total (on_total cell_kind nat_cmp_total)
    (then_total (on_total cell_maker nat_list_cmp_total) (on_total cell_number nat_cmp_total))

pub entries_ordered : IsStrictWeakOrder by_cell
entries_ordered = ranks_by cells_total (λ (e : LogEntry). cell_of e.event)

pub histories_ordered : IsStrictWeakOrder history_first
histories_ordered = ranks_by cells_total (λ (h : CellHistory). Some (cell_in h))
