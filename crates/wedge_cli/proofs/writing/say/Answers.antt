use Rattle.std.proofs.Common.{refl}
use Rattle.wedge_cli.specs.Outside.{device}
use Rattle.wedge_cli.proofs.Written.{said_fault}
use Rattle.wedge_cli.proofs.writing.say.Goals as goal

pub returns-in-Err : goal.returns-in-Err
returns-in-Err g c =
    let middle = device (g.E.Sink.written c.write_whole.new.sink) (g.E.Sink.faults c.write_whole.new.sink) in
    said_fault c.args.status c.args.line.now _ _ middle _ refl refl refl (record { rises = c.in-Err.ensures.counts; part = c.in-Err.ensures.part }) c.tell_write_fault.ensures
