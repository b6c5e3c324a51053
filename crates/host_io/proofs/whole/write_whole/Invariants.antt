use Rattle.std.proofs.Common.{length, ◌-◌, ◌≡◌, ◌≤◌, take}
use Rattle.host_io.specs.Exposed.{grown_by}
use Rattle.host_io.proofs.whole.write_whole.Given as goal

-- The sink has taken the bytes before `done`, and has counted no fault.
abbrev pub invariant-loop-done : goal.invariant-loop-done
invariant-loop-done g l =
    let sink = g.S.Sink in
    record {
      in_range : l.done ≤ length l.bytes;
      taken : sink.written l.sink ≡ grown_by (sink.written l.fn.sink) (take l.done l.bytes);
      counted : sink.faults l.sink ≡ sink.faults l.fn.sink;
      untouched : l.done ≡ 0 → l.sink ≡ l.fn.sink;
    }

abbrev pub decreases-loop-done : goal.decreases-loop-done
decreases-loop-done g l = length l.bytes - l.done
