use Rattle.machine.proofs.GatesMade.{shared}
use Rattle.sthread_life.proofs.starting.copy_of_gates.Goals as goal

pub returns : goal.returns
returns c = shared c.args.gates.now.items c.in_ok-clone.field-0.items c.in_ok-clone.ensures.cases.0
