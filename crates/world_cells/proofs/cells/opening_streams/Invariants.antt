use Rattle.std.proofs.Common.{◌≡◌, ◌≤◌, ◌-◌, ◌++◌, length, map}
use Rattle.std.specs.Prelude.{Some}
use Rattle.wedge_events.specs.Streams.{most_fds, declared_stream}
use Rattle.machine.specs.Cells.{nothings}
use Rattle.world_cells.proofs.cells.opening_streams.Given as goal

abbrev pub invariant-loop-streams : goal.invariant-loop-streams
invariant-loop-streams l = record {
  few : length l.streams.items ≤ most_fds;
  are : l.streams.items ++ nothings (most_fds - length l.streams.items) ≡ map (λ f. Some (declared_stream f)) l.fds ++ nothings (most_fds - length l.fds);
}

abbrev pub decreases-loop-streams : goal.decreases-loop-streams
decreases-loop-streams l = most_fds - length l.streams.items
