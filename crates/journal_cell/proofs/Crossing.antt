-- A cell whose history only proofs see may go to another thread, and be shared, where its object may: a ghost list is nothing.
use denote.RattleType.{RattleType}
use denote.Param.Send.{IsSend, IsSync, sendable}
use Rattle.std.proofs.Crossing.{crosses}
use Rattle.journal_cell.specs.contracts.ghost_journaled.GhostJournaled as GhostJournaled
use Rattle.wedge_base.proofs.numbers.Stamp.TheSendSync as stamp
use Rattle.wedge_events.proofs.events.CellName.TheSendSync as name

pub GhostJournaled_send : (O I Q R : RattleType) (g : _) (r : _) → IsSend O → IsSend I → IsSend (GhostJournaled.the_row O I Q R g r)
GhostJournaled_send O I Q R g r o i = search (sendable, crosses, name.the_send, stamp.the_send) depth 40 fits 10000

pub GhostJournaled_sync : (O I Q R : RattleType) (g : _) (r : _) → IsSync O → IsSync I → IsSync (GhostJournaled.the_row O I Q R g r)
GhostJournaled_sync O I Q R g r o i = search (sendable, crosses, name.the_sync, stamp.the_sync) depth 40 fits 10000
