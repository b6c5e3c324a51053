-- The streams as a run begins.
use Rattle.std.specs.Prelude.{Option, None}
use Rattle.wedge_base.specs.Images.{Image}
use Rattle.wedge_events.specs.Streams.{Stream, stream_opening}
use Rattle.wedge_events.specs.declared.events.CellName.{CellName}
use Rattle.wedge_events.specs.declared.events.CellName.TheVariants as cell

-- what the image declares is opened
abbrev pub initial_stream : Image → CellName → Option Stream
initial_stream i (cell.Fd fd) = stream_opening i fd
initial_stream i name = None
