-- What threads share of the cells of a run, and the passes with which they come to them, may go to other threads.
use denote.RattleType.{RattleType}
use denote.Param.Send.{IsSend, IsSync, recorded_sync, struct_sync, sendable}
use denote.Struct.Declared.{shape}
use Rattle.std.proofs.Crossing.{crosses}
use Rattle.std.proofs.sync.Mutex.TheSendSync as mutex
use Rattle.fd_table.proofs.stream.Stream.TheSendSync as stream
use Rattle.machine.proofs.lives.Lives.TheSendSync as lives
use Rattle.ruled_cell.proofs.Crossing.{RuledPass_send, RuledCells_sync}
use Rattle.tag_directory.proofs.bounded.FdDirectory.TheSendSync as fds
use Rattle.tag_directory.proofs.bounded.SlotDirectory.TheSendSync as slots
use Rattle.tag_segment.proofs.state.SlotState.TheSendSync as slot
use Rattle.wedge_events.proofs.cells.DirectoryAsk.TheSendSync as directory_ask
use Rattle.wedge_events.proofs.cells.DirectoryReply.TheSendSync as directory_reply
use Rattle.wedge_events.proofs.cells.LivesAsk.TheSendSync as lives_ask
use Rattle.wedge_events.proofs.cells.LivesReply.TheSendSync as lives_reply
use Rattle.wedge_events.proofs.cells.SlotAsk.TheSendSync as slot_ask
use Rattle.wedge_events.proofs.cells.SlotReply.TheSendSync as slot_reply
use Rattle.wedge_events.proofs.cells.StreamAsk.TheSendSync as stream_ask
use Rattle.wedge_events.proofs.cells.StreamReply.TheSendSync as stream_reply
use Rattle.run_cells.proofs.locked_cell.LockedCell.TheSendSync as locked
use Rattle.run_cells.specs.contracts.opening.RunCells as RunCells
use Rattle.run_cells.specs.contracts.tag_cells.FirstPass as FirstPass
use Rattle.run_cells.specs.contracts.tag_cells.TagCells as TagCells
use Rattle.run_cells.specs.contracts.tag_cells.TagPass as TagPass

pub TagPass_send : (I T : RattleType) (i : _) (t : _) → IsSend I → IsSend T → IsSend (TagPass.the_row I T i t)
TagPass_send I T i t a b = search (sendable, crosses, RuledPass_send, slot.the_send) depth 40 fits 10000

FirstPass_send : (I T : RattleType) (i : _) (t : _) → IsSend I → IsSend T → IsSend (FirstPass.the_row I T i t)
FirstPass_send I T i t a b = search (sendable, crosses, RuledPass_send, slot.the_send) depth 40 fits 10000

-- as a field of another struct
TagCells_sync : (I T : RattleType) (t : _) (i : _) → IsSend I → IsSync I → IsSend T → IsSync T → IsSync (TagCells.the_field I T t i).row
TagCells_sync I T t i a b c d = search (sendable, crosses, mutex.the_sync, FirstPass_send, RuledCells_sync, slot.the_send, slot.the_sync) depth 40 fits 10000

pub RunCells_sync : (I T : RattleType) (t : _) (i : _) → IsSend I → IsSync I → IsSend T → IsSync T → IsSync (RunCells.the_row I T t i)
RunCells_sync I T t i a b c d =
    let all = RunCells.the_type I T t i in
    recorded_sync _ _ _ all.to_one (struct_sync (shape all) (
      search (sendable, crosses, mutex.the_sync, locked.the_send, slots.the_send, directory_ask.the_send, directory_reply.the_send) depth 40 fits 10000,
      (
        TagCells_sync I T t i a b c d,
        (
          search (sendable, crosses, mutex.the_sync, locked.the_send, slot.the_send, slot_ask.the_send, slot_reply.the_send) depth 40 fits 10000,
          (
            search (sendable, crosses, mutex.the_sync, locked.the_send, fds.the_send, directory_ask.the_send, directory_reply.the_send) depth 40 fits 10000,
            (
              search (sendable, crosses, mutex.the_sync, locked.the_send, stream.the_send, stream_ask.the_send, stream_reply.the_send) depth 40 fits 10000,
              (
                search (sendable, crosses, mutex.the_sync, locked.the_send, lives.the_send, lives_ask.the_send, lives_reply.the_send) depth 40 fits 10000,
                tt,
              ),
            ),
          ),
        ),
      ),
    ))
