use Rattle.std.proofs.Common.{drop}
use Rattle.wedge_cli.specs.Outside.{Sinks, sinks}
use Rattle.wedge_cli.specs.Ended.{AreTaken, OneFails}
use Rattle.wedge_cli.proofs.writing.write_texts.Given as goal

-- what the texts that are left do from here on, all do from the start on
abbrev pub invariant-loop-text : goal.invariant-loop-text
invariant-loop-text g l =
    let start = sinks (g.O.Sink.written l.fn.out) (g.O.Sink.faults l.fn.out) (g.E.Sink.written l.fn.err) (g.E.Sink.faults l.fn.err) in
    let here = sinks (g.O.Sink.written l.out) (g.O.Sink.faults l.out) (g.E.Sink.written l.err) (g.E.Sink.faults l.err) in
    record {
      taken : (after : Sinks) → AreTaken (drop l.text-index l.texts) here after → AreTaken l.texts start after;
      fails : (after : Sinks) → OneFails (drop l.text-index l.texts) here after → OneFails l.texts start after;
    }
