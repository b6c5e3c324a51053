use denote.Param.{param}
use denote.Ref.{NamedLft}
use denote.Param.Send.{IsSend, IsSync, param_send, sendable}
use Rattle.std.proofs.result.Result.TheSendSync as result
use Rattle.wedge_base.proofs.errors.NoMemory.TheSendSync as no_memory
use Rattle.actor_task.proofs.creating.NewActor.TheSendSync as new
use Rattle.gate_runner.specs.contracts.runner.Shared as Shared
use Rattle.actor_task.proofs.Progressing.{if_ok}
use Rattle.gate_runner.proofs.Adopting.{started_so, entered_so, entered_ended}
use Rattle.gate_runner.proofs.Crossing.{Returned_send, Shared_sync}
use Rattle.gate_runner.proofs.runner.+run.Lts-launch as lts
use Rattle.gate_runner.proofs.runner.+run.Goals as goal

-- What the bounds of the types say is named by its place, since a search does not come to it.
pub launch-spawn_with-requires-send-F : goal.launch-spawn_with-requires-send-F
launch-spawn_with-requires-send-F g t c κs within =
    let i : IsSend (param 0 g.row.I) = search (sendable, c.requires-raw) in
    let j : IsSync (param 0 g.row.I) = search (sendable, c.requires-raw) in
    let u : IsSend (param 1 g.row.T) = search (sendable, c.requires-raw) in
    let v : IsSync (param 1 g.row.T) = search (sendable, c.requires-raw) in
    let r : IsSync (param 2 g.row.R) = c.requires-raw.1.1.1.1.1.1.1.1.1.0 in
    let p : IsSync (param 3 g.row.P) = c.requires-raw.1.1.1.1.1.1.1.1.1.1.0 in
    let s : (ℓ : NamedLft) → IsSync (Shared.the_row ℓ (param 0 g.row.I) (param 1 g.row.T) (param 2 g.row.R) (param 3 g.row.P) g.I.RunOf g.T.TableOf) = λ ℓ. Shared_sync ℓ _ _ _ _ _ _ i j u v r p in
    let job = lts.arg-1-2 g.row.I g.row.T g.row.R g.row.P g.I.laws g.T.laws g.R.laws g.P.laws g.I.RunOf g.I.RunOf-dict g.T.TableOf g.T.TableOf-dict g.R.Threads g.R.Threads-dict g.R.Wait g.R.Wait-dict g.P.Pace g.P.Pace-dict κs in
    param_send 2 job (search (sendable, new.the_send, s) depth 20)

pub launch-spawn_with-requires-send-T : goal.launch-spawn_with-requires-send-T
launch-spawn_with-requires-send-T g t c κs within = search (sendable, Returned_send, no_memory.the_send, result.the_send, c.requires-raw) depth 40 fits 100000

-- what became of an actor that created another
pub start-returns-clause-started : goal.start-returns-clause-started
start-returns-clause-started g t c = if_ok _ _ c.launch.result (λ k h. started_so g.I.RunOf.image c.args.task k c.in_ok-creating.creating _ _ c.in_ok-creating.ensures.pair h) c.launch.ensures.adopted

pub enter_fresh-returns-clause-entered : goal.enter_fresh-returns-clause-entered
enter_fresh-returns-clause-entered g t c =
    if_ok _ _ c.adopt_ended.result (λ k is. entered_ended g.I.RunOf.image c.args.task k c.in_ok-creating.creating _ _ c.in_ok-returned.returned.end c.in_ok-creating.ensures.pair is) c.adopt_ended.ensures

pub run_inside-returns-clause-entered : goal.run_inside-returns-clause-entered
run_inside-returns-clause-entered g t c = if_ok _ _ c.leave_inside.result (λ k h. entered_so g.I.RunOf.image c.args.task k c.in_ok-creating.creating _ _ c.in_ok-creating.ensures.pair h) c.leave_inside.ensures.adopted
