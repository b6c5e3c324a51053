use Rattle.std.proofs.Common.{◌≡◌, drop}
use Rattle.run_audit.specs.StreamsLeft.{stream_entries}
use Rattle.run_audit.proofs.stream_lines.stream_entries.Given as goal

abbrev pub invariant-loop-item : goal.invariant-loop-item
invariant-loop-item l = stream_entries (drop l.item-index l.histories) l.number ≡ stream_entries l.histories l.number
