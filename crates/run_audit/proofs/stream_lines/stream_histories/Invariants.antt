use Rattle.std.proofs.Common.{◌≡◌, ◌++◌, drop}
use Rattle.run_audit.specs.StreamsLeft.{stream_histories}
use Rattle.run_audit.proofs.stream_lines.stream_histories.Given as goal

abbrev pub invariant-loop-history : goal.invariant-loop-history
invariant-loop-history l = l.all.items ++ stream_histories (drop l.history-index l.cells) ≡ stream_histories l.cells
