-- A legal history that has just the logged entries on a slot is what the journal has of the slot.
use Rattle.std.proofs.Common.{◌≡◌, ℕ, ◌<◌, ◌≤◌, true, List, [], ◌∷◌, ap, sym, subst, arith, lt-ltb, Less, Equal, Greater}
use Rattle.std.specs.Prelude.{◌==◌, if◌then◌else◌}
use Rattle.std.specs.Cmp.{IsStrictWeakOrder}
use Rattle.std.specs.Cmp.Lexicographic.{slice_cmp, nat_list_cmp_total}
use Rattle.std.specs.Ordering.{nat_cmp, is_lt, ordering_then}
use Rattle.std.proofs.lemmas.Cmp.{then_total, on_total, nat_cmp_total}
use Rattle.std.proofs.lemmas.List.Sorted.{ranks_by, IsPermutation-trans}
use Rattle.stable_sort.proofs.Sorted.{Rises, rises_onto}
use Rattle.wedge_events.specs.declared.events.CellName.{CellName}
use Rattle.wedge_events.specs.declared.events.CellName.TheVariants as cell
use Rattle.wedge_events.specs.declared.events.LogEntry.{LogEntry}
use Rattle.machine.specs.Cells.{Cells, opening_cells, cells_after}
use Rattle.thread_laws.specs.Histories.{entries_on, IsReplay}
use Rattle.thread_laws.specs.Joining.{all_logged, journal_of}
use Rattle.thread_laws.specs.Replaying.{history_of}
use Rattle.thread_laws.specs.Sorting.{comes_before, in_order}
use Rattle.tag_laws.specs.DeclaredTags.{RuledCellsAgree}
use Rattle.tag_laws.proofs.Permutations.{IsLessThanEach, RisesStrictly, one_strict_order, rises_kept, sorted-IsPermutation}
use Rattle.tag_laws.proofs.OnCells.{is_entry_on, entries_by_test, entries_on-IsPermutation}

pub journal_order : IsStrictWeakOrder comes_before
journal_order = ranks_by (then_total (on_total (λ (e : LogEntry). e.stamp) nat_cmp_total) (on_total (λ (e : LogEntry). e.actor) nat_list_cmp_total)) (λ (e : LogEntry). e)

-- ---- the stamps of a history rise

earlier_before : (x y : LogEntry) → x.stamp < y.stamp → comes_before x y ≡ true
earlier_before x y less =
    let names = slice_cmp nat_cmp x.actor y.actor in
    ap (λ b. is_lt (ordering_then (if b then Less else (if x.stamp == y.stamp then Equal else Greater)) names)) (lt-ltb x.stamp y.stamp less)

each_later : (x : LogEntry) (name : CellName) (c : Cells) (clock : ℕ) (es : List LogEntry) → x.stamp ≤ clock → IsReplay name c clock es → IsLessThanEach comes_before journal_order x es
each_later x name c clock [] le replay = tt
each_later x name c clock (e ∷ es) le replay =
    let above = replay.0.above in
    (earlier_before x e (omega (arith, le, above)), each_later x name (cells_after c e.event) e.stamp es (omega (arith, le, above)) replay.1)

history_rises : (name : CellName) (c : Cells) (clock : ℕ) (es : List LogEntry) → IsReplay name c clock es → RisesStrictly comes_before journal_order es
history_rises name c clock [] replay = tt
history_rises name c clock (e ∷ es) replay =
    let next = cells_after c e.event in
    (each_later e name next e.stamp es (omega arith) replay.1, history_rises name next e.stamp es replay.1)

-- ---- those of the journal do not fall

journal_rises : (name : CellName) (es : List LogEntry) → Rises comes_before journal_order (entries_on name (in_order es))
journal_rises name es =
    subst (Rises comes_before journal_order) (sym (entries_by_test name (in_order es)))
    (rises_kept comes_before journal_order (is_entry_on name) (in_order es) (rises_onto comes_before journal_order [] es tt))

pub ruled_cells_agree : RuledCellsAgree
ruled_cells_agree i n logs cells legal ruled (cell.Slot slot) less =
    let name = cell.Slot slot in
    let es = all_logged logs in
    one_strict_order comes_before journal_order (history_of cells name) (entries_on name (journal_of logs))
    (history_rises name (opening_cells i) 0 (history_of cells name) (legal name))
    (journal_rises name es)
    (IsPermutation-trans _ _ _ (ruled slot less) (entries_on-IsPermutation name es (in_order es) (sorted-IsPermutation comes_before es)))
ruled_cells_agree i n logs cells legal ruled c none = absurd none
