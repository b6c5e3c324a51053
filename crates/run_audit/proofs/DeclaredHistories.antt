-- The histories of the slots of declared tags come before the others, and neither a comparison nor a stream reads them.
use Rattle.std.proofs.Common.{◌≡◌, ℕ, zero, suc, ◌+◌, ◌≤◌, not, cond, List, [], ◌∷◌, ◌++◌, length, refl, ap, ◌∙◌, arith}
use Rattle.std.proofs.lemmas.Bool.{lt-ltb}
use Rattle.wedge_base.specs.Images.{Image}
use Rattle.wedge_events.specs.declared.cells.SlotAsk.{SlotAsk}
use Rattle.wedge_events.specs.declared.cells.SlotReply.{SlotReply}
use Rattle.wedge_events.specs.declared.events.CellName.TheVariants as cell
use Rattle.journal_cell.specs.declared.entry.Entry.{Entry}
use Rattle.machine.specs.Cells.{opening_cells, stream_in}
use Rattle.thread_laws.specs.Histories.{left_by_history}
use Rattle.thread_laws.specs.Joining.{streams_from, streams_left}
use Rattle.thread_laws.specs.Replaying.{history_of, slot_histories, all_histories}
use Rattle.thread_laws.specs.declared.gathered.CellHistory.{CellHistory}
use Rattle.thread_laws.specs.declared.gathered.CellHistory.TheVariants as history
use Rattle.thread_laws.specs.declared.gathered.Gathered.{Gathered}
use Rattle.run_audit.specs.ComparedCells.{compared_histories}

-- none of them is compared
others_compared : (n k : ℕ) (ess : List (List (Entry SlotAsk SlotReply))) (others : List CellHistory) → k + length ess ≤ n → compared_histories n (slot_histories k ess ++ others) ≡ compared_histories n others
others_compared n k [] others few = refl
others_compared n k (es ∷ ess) others few =
    let rest = compared_histories n (slot_histories (k + 1) ess ++ others) in
    ap (λ t. cond (not t) (history.Slot k es ∷ rest) rest) (lt-ltb k n (omega (arith, few)))
    ∙ others_compared n (k + 1) ess others (omega (arith, few))

pub compared_of_all : (g : Gathered) → compared_histories (length g.declared) (all_histories g) ≡ compared_histories (length g.declared) g.others
compared_of_all g = others_compared (length g.declared) 0 g.declared g.others (omega arith)

-- none of them is that of a descriptor
other_stream : (k : ℕ) (ess : List (List (Entry SlotAsk SlotReply))) (others : List CellHistory) (fd : ℕ)
    → history_of (slot_histories k ess ++ others) (cell.Fd fd) ≡ history_of others (cell.Fd fd)
other_stream k [] others fd = refl
other_stream k (es ∷ ess) others fd = other_stream (k + 1) ess others fd

streams_alike : (i : Image) (g : Gathered) (n fd : ℕ) → streams_from i (all_histories g) n fd ≡ streams_from i g.others n fd
streams_alike i g zero fd = refl
streams_alike i g (suc n) fd =
    let one = ap (λ es. stream_in (left_by_history i es) fd) (other_stream 0 g.declared g.others fd) in
    let rest = streams_alike i g n (fd + 1) in
    λ j. one j ∷ rest j

pub streams_of_others : (i : Image) (g : Gathered) → streams_left i (all_histories g) ≡ streams_left i g.others
streams_of_others i g = streams_alike i g (length (opening_cells i).streams) 0
