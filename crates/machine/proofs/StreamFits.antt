-- An ask of a stream fits wherever its descriptor is one.
use Rattle.std.proofs.Common.{ℕ, ◌<◌, List}
use Rattle.wedge_events.specs.Streams.{most_fds}
use Rattle.wedge_events.specs.declared.cells.StreamAsk.{StreamAsk}
use Rattle.wedge_events.specs.declared.cells.StreamAsk.TheVariants as stream_ask
use Rattle.wedge_events.specs.declared.events.Want.TheVariants as want
use Rattle.machine.specs.Between.{WantFitsWhere}

pub stream_fits : (P R : Type 0) (S : List ℕ → Type 0) (J : ℕ → Type 0) (fd : ℕ) (q : StreamAsk) → fd < most_fds → WantFitsWhere P R S J (want.Fd fd q)
stream_fits P R S J fd (stream_ask.Open kind bytes) h = h
stream_fits P R S J fd (stream_ask.Read bits count) h = h
stream_fits P R S J fd (stream_ask.Append bits bytes) h = h
stream_fits P R S J fd (stream_ask.Close bits) h = h
