-- The stream of a descriptor as the entries of its history leave it.
use Rattle.std.specs.Prelude.{ℕ, ◌==◌, List, [], ◌∷◌, Option, option_map, if◌then◌else◌}
use Rattle.wedge_events.specs.Streams.{Stream, new_stream, stream_after}
use Rattle.wedge_events.specs.declared.cells.StreamAsk.{StreamAsk}
use Rattle.wedge_events.specs.declared.cells.StreamReply.{StreamReply}
use Rattle.journal_cell.specs.declared.entry.Entry.{Entry}
use Rattle.thread_laws.specs.declared.gathered.CellHistory.{CellHistory}
use Rattle.thread_laws.specs.declared.gathered.CellHistory.TheVariants as history

-- what entries make of a stream
abbrev pub stream_over : Option Stream → List (Entry StreamAsk StreamReply) → Option Stream
stream_over s [] = s
stream_over s (e ∷ es) = stream_over (stream_after s e.ask e.reply) es

-- the entries of the first history of a descriptor, none where it is not listed
abbrev pub stream_entries : List CellHistory → ℕ → List (Entry StreamAsk StreamReply)
stream_entries [] fd = []
stream_entries (history.Fd n es ∷ hs) fd = if n == fd then es else stream_entries hs fd
stream_entries (h ∷ hs) fd = stream_entries hs fd

-- the histories of descriptors
abbrev pub stream_histories : List CellHistory → List CellHistory
stream_histories [] = []
stream_histories (history.Fd n es ∷ hs) = history.Fd n es ∷ stream_histories hs
stream_histories (h ∷ hs) = stream_histories hs

-- A stream with its kind and its bytes as they are, but as if just opened: how far it was read, and
-- whether it is closed, is not seen in an outcome.
abbrev pub as_written : Option Stream → Option Stream
as_written s = option_map (λ (x : Stream). new_stream x.kind x.bytes) s
