use Rattle.std.proofs.Common.{◌≡◌, ◌++◌, drop}
use Rattle.std.specs.Prelude.{Some, map}
use Rattle.wedge_events.specs.Streams.{declared_stream}
use Rattle.world_cells.proofs.cells.declared_streams.Given as goal

abbrev pub invariant-loop-fd : goal.invariant-loop-fd
invariant-loop-fd l = l.streams.items ++ map (λ f. Some (declared_stream f)) (drop l.fd-index l.fds) ≡ map (λ f. Some (declared_stream f)) l.fds
