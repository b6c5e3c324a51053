-- A pass may go to another thread, and threads may share the cells, where the object may.
use denote.RattleType.{RattleType}
use denote.Builtin.{unit}
use denote.Param.Send.{IsSend, IsSync, Frees, view_sync, recorded_sync, struct_sync, sendable}
use denote.Struct.Declared.{shape}
use Rattle.std.proofs.Crossing.{crosses}
use Rattle.std.proofs.Crossing as heap
use Rattle.std.specs.contracts.impls.GlobalAllocator.TheImpl.{ghosts}
use Rattle.atomic_table.proofs.owned.Table.TheSendSync as table
use Rattle.atomic_table.proofs.shared.Seat.TheSendSync as seat
use Rattle.journal_cell.specs.contracts.ghost_journaled.GhostJournaled as GhostJournaled
use Rattle.journal_cell.proofs.Crossing.{GhostJournaled_send, GhostJournaled_sync}
use Rattle.ruled_cell.specs.contracts.cells.RuledCells as RuledCells
use Rattle.ruled_cell.specs.contracts.cells.RuledCells.TheInside as Inside
use Rattle.ruled_cell.specs.contracts.order.TicketOrder as Order
use Rattle.ruled_cell.specs.contracts.passes.PassView as PassView
use Rattle.ruled_cell.specs.contracts.passes.RuledPass as RuledPass
use Rattle.ruled_cell.specs.Order.{IsTicketOrder}
use Rattle.ruled_cell.specs.Passes.{first_view}
use Rattle.std.specs.contracts.alloc.Global as Heap

pub RuledPass_send : (O I Q R : RattleType) (g : _) (r : _) → IsSend O → IsSend I → IsSend (RuledPass.the_row O I Q R g r)
RuledPass_send O I Q R g r o i = search (sendable, crosses, seat.the_send, GhostJournaled_send) depth 40 fits 10000

pub RuledCells_sync : (O I Q R : RattleType) (g : _) (r : _) → IsSend O → IsSync O → IsSend I → IsSync I → IsSync (RuledCells.the_row O I Q R g r)
RuledCells_sync O I Q R g r o p i j =
    let anyone : Frees ghosts ghosts.dealloc_token = record { frees = heap.frees.frees } in
    let s : IsSend (GhostJournaled.the_row O I Q R g r) = GhostJournaled_send O I Q R g r o i in
    let y : IsSync (GhostJournaled.the_row O I Q R g r) = GhostJournaled_sync O I Q R g r p j in
    view_sync _ _ _ _ _ (recorded_sync _ _ _ (Inside.the_type O I Q R g r).to_one (struct_sync (shape (Inside.the_type O I Q R g r))
    (table.the_field_sync (GhostJournaled.the_row O I Q R g r) (PassView.the_row Q R) unit Order.the_row Heap.the_row (record { holds = λ k. IsTicketOrder; first = λ k. first_view }) ghosts s heap.send heap.sync anyone, (search sendable, (heap.Vec-sync _ y, tt)))))
