-- What threads share of a run, and what they return, may go to other threads.
use denote.RattleType.{RattleType}
use denote.Param.Send.{IsSend, IsSync, recorded_send, recorded_sync, struct_send, struct_sync, sendable}
use denote.Struct.Declared.{shape}
use Rattle.std.proofs.Crossing.{crosses}
use Rattle.std.proofs.Crossing as heap
use Rattle.actor_run.specs.contracts.kept_log.KeptLog as KeptLog
use Rattle.actor_task.specs.contracts.created.Returned as Returned
use Rattle.run_cells.specs.contracts.opening.RunCells as RunCells
use Rattle.run_cells.proofs.Crossing.{TagPass_send, RunCells_sync}
use Rattle.thread_laws.specs.contracts.gathered.ActorLog as ActorLog
use Rattle.gate_runner.specs.contracts.runner.Shared as Shared
use Rattle.gate_runner.proofs.runner.RunProgram.TheSendSync as program
use Rattle.machine.proofs.opening.StreamLabel.TheSendSync as label
use Rattle.wedge_base.proofs.names.ActorName.TheSendSync as name
use Rattle.wedge_base.proofs.outcome.DenialAt.TheSendSync as denial
use Rattle.wedge_events.proofs.events.LogEntry.TheSendSync as entry
use Rattle.thread_laws.proofs.gathered.ActorEnd.TheSendSync as end_
use Rattle.thread_laws.proofs.gathered.CellHistory.TheSendSync as history

-- as a field of another struct; the list of its entries, which only proofs see, is nothing
ActorLog_send : IsSend ActorLog.the_field.row
ActorLog_send = search (sendable, crosses, name.the_send, denial.the_send, label.the_send, entry.the_send) depth 40 fits 10000

KeptLog_send : (I : RattleType) (i : _) → IsSend I → IsSend (KeptLog.the_row I i)
KeptLog_send I i a = search (sendable, crosses, ActorLog_send) depth 40 fits 10000

-- as a field of another struct
KeptLog_field : (I : RattleType) (i : _) → IsSend I → IsSend (KeptLog.the_field I i).row
KeptLog_field I i a = search (sendable, crosses, ActorLog_send) depth 40 fits 10000

pub Returned_send : (I T : RattleType) (i : _) (t : _) → IsSend I → IsSend T → IsSend (Returned.the_row I T i t)
Returned_send I T i t a b =
    let all = Returned.the_type I T i t in
    recorded_send _ _ _ all.to_one (struct_send (shape all) (
      KeptLog_field I i a,
      (
        search (sendable, end_.the_field_send),
        (
          heap.Vec-send _ (KeptLog_send I i a),
          (
            heap.Vec-send _ history.the_send,
            (
              heap.Vec-send _ (TagPass_send I T i t a b),
              tt,
            ),
          ),
        ),
      ),
    ))

pub Shared_sync : (ℓ : _) (I T R P : RattleType) (i : _) (t : _) → IsSend I → IsSync I → IsSend T → IsSync T → IsSync R → IsSync P → IsSync (Shared.the_row ℓ I T R P i t)
Shared_sync ℓ I T R P i t a b c d r p =
    let all = Shared.the_type ℓ I T R P i t in
    let cells : IsSync (RunCells.the_row I T t i) = RunCells_sync I T t i a b c d in
    recorded_sync _ _ _ all.to_one (struct_sync (shape all) (
      search (sendable, r),
      (
        search (sendable, crosses),
        (
          search (sendable, program.the_sync),
          (
            search (sendable, cells),
            (
              search (sendable, p),
              tt,
            ),
          ),
        ),
      ),
    ))
