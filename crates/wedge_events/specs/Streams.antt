-- The cell of a descriptor: the stream behind it, once it is opened.
use Rattle.std.specs.Prelude.{ℕ, ◌+◌, Bool, true, false, List, ◌++◌, length, take, drop, slice_get, Option, Some, None, option_map, if◌then◌else◌}
use Rattle.wedge_base.specs.Images.{Image}
use Rattle.wedge_base.specs.Rights.{bits_within, read_bit, append_bit}
use Rattle.wedge_base.specs.declared.image.FdEntry.{FdEntry}
use Rattle.wedge_base.specs.declared.rights.FdBits.{FdBits}
use Rattle.wedge_base.specs.declared.rights.StreamKind.{StreamKind}
use Rattle.wedge_base.specs.declared.rights.StreamKind.TheVariants as kind
use Rattle.wedge_events.specs.declared.cells.StreamAsk.{StreamAsk}
use Rattle.wedge_events.specs.declared.cells.StreamAsk.TheVariants as ask
use Rattle.wedge_events.specs.declared.cells.StreamReply.{StreamReply}
use Rattle.wedge_events.specs.declared.cells.StreamReply.TheVariants as reply

-- a stream: a source has fixed bytes and a position, an append stream bytes that grow; a closed one
-- keeps its bytes
pub record Stream : Type 0 where
  pub kind : StreamKind
  pub bytes : List ℕ
  pub position : ℕ
  pub live : Bool

-- there are descriptors 0 to 1,023
abbrev pub most_fds : ℕ
most_fds = 1024

abbrev pub new_stream : StreamKind → List ℕ → Stream
new_stream kind bytes = record { kind = kind; bytes = bytes; position = 0; live = true }

-- the bit that a close needs: read on a source, append on an append stream
abbrev pub closing_bit : StreamKind → FdBits
closing_bit kind.Source = read_bit
closing_bit kind.Append = append_bit

-- a source is read and takes no bytes, an append stream the other way round
abbrev pub read_reply : StreamKind → Stream → ℕ → StreamReply
read_reply kind.Source s count = reply.Given (take count (drop s.position s.bytes))
read_reply kind.Append s count = reply.Bad

abbrev pub append_reply : StreamKind → StreamReply
append_reply kind.Append = reply.Appended
append_reply kind.Source = reply.Bad

-- the reply of a live stream
abbrev pub live_stream_reply : Stream → StreamAsk → StreamReply
live_stream_reply s (ask.Open kind bytes) = reply.Opened
live_stream_reply s (ask.Read bits count) = if bits.read then read_reply s.kind s count else reply.Denied read_bit
live_stream_reply s (ask.Append bits bytes) = if bits.append then append_reply s.kind else reply.Denied append_bit
live_stream_reply s (ask.Close bits) = if bits_within (closing_bit s.kind) bits then reply.Closed else reply.Denied (closing_bit s.kind)

-- the reply of one that is closed or was never opened
abbrev pub dead_reply : StreamAsk → StreamReply
dead_reply (ask.Open kind bytes) = reply.Opened
dead_reply (ask.Read bits count) = reply.NoSuch
dead_reply (ask.Append bits bytes) = reply.NoSuch
dead_reply (ask.Close bits) = reply.NoSuch

abbrev pub stream_reply : Option Stream → StreamAsk → StreamReply
stream_reply None q = dead_reply q
stream_reply (Some s) q = if s.live then live_stream_reply s q else dead_reply q

-- a stream read further, with more bytes at its end, and closed
abbrev pub with_bytes_read : ℕ → Stream → Stream
with_bytes_read count s = record s { position = s.position + count }

abbrev pub with_more_bytes : List ℕ → Stream → Stream
with_more_bytes bytes s = record s { bytes = s.bytes ++ bytes }

abbrev pub closed_stream : Stream → Stream
closed_stream s = record s { live = false }

-- what an ask with its reply makes of the stream; each other reply changes nothing
abbrev pub stream_after : Option Stream → StreamAsk → StreamReply → Option Stream
stream_after s (ask.Open kind bytes) r = Some (new_stream kind bytes)
stream_after s (ask.Read bits count) (reply.Given bytes) = option_map (with_bytes_read (length bytes)) s
stream_after s (ask.Append bits bytes) reply.Appended = option_map (with_more_bytes bytes) s
stream_after s (ask.Close bits) reply.Closed = option_map closed_stream s
stream_after s q r = s

abbrev pub stream_next : Option Stream → StreamAsk → Option Stream
stream_next s q = stream_after s q (stream_reply s q)

-- a declared descriptor's stream, as a run begins
abbrev pub declared_stream : FdEntry → Stream
declared_stream f = new_stream f.kind f.content

abbrev pub stream_opening : Image → ℕ → Option Stream
stream_opening i fd = option_map declared_stream (slice_get i.fds fd)

-- each ask fits
abbrev pub StreamFits : Option Stream → StreamAsk → Type 0
StreamFits s q = Unit {0}
