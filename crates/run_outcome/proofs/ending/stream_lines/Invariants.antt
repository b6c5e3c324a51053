use Rattle.std.proofs.Common.{◌≡◌, ◌++◌, drop}
use Rattle.machine.specs.Outcomes as outcomes
use Rattle.run_outcome.proofs.ending.stream_lines.Given as goal

abbrev pub invariant-loop-stream : goal.invariant-loop-stream
invariant-loop-stream l = (l.number ≡ l.stream-index) × (l.lines.items ++ outcomes.streams_of l.image (outcomes.labels_of l.residents) l.number (drop l.stream-index l.streams) ≡ outcomes.streams_of l.image (outcomes.labels_of l.residents) 0 l.streams)
