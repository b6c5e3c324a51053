use Rattle.std.proofs.Common.{ap}
use Rattle.actor_task.specs.Tasks.{TaskState}
use Rattle.actor_task.proofs.Tracking.{if_done, tracked_more}
use Rattle.actor_steps.proofs.stepping.do_event.Goals as goal

pub returns-clause-tracked : goal.returns-clause-tracked
returns-clause-tracked g c =
    if_done c.take_plain.result
    (λ is. tracked_more g.T.TableOf.table.slots c.args.pass.now c.enter.new.pass g.I.RunOf.image c.args.task.now.progress c.take_plain.new.self.progress c.in_ok-entry.entry c.requires.tracked c.in_ok-entry.ensures.entered (ap (λ (k : TaskState). k.progress) is))
    c.take_plain.ensures
