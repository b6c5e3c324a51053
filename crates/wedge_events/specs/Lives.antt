-- The cell that counts live sthreads.
use Rattle.std.specs.Prelude.{ℕ, ◌+◌, ◌-◌, nat_lt, if◌then◌else◌}
use Rattle.wedge_events.specs.declared.cells.LivesAsk.{LivesAsk}
use Rattle.wedge_events.specs.declared.cells.LivesAsk.TheVariants as ask
use Rattle.wedge_events.specs.declared.cells.LivesReply.{LivesReply}
use Rattle.wedge_events.specs.declared.cells.LivesReply.TheVariants as reply

-- the most sthreads that live at a time, the root among them
abbrev pub most_lives : ℕ
most_lives = 256

abbrev pub lives_reply : ℕ → LivesAsk → LivesReply
lives_reply n ask.Claim = if nat_lt n most_lives then reply.Claimed else reply.Full
lives_reply n (ask.Release end) = reply.Released

abbrev pub lives_next : ℕ → LivesAsk → ℕ
lives_next n ask.Claim = if nat_lt n most_lives then n + 1 else n
lives_next n (ask.Release end) = n - 1

-- a run begins with the root alone
abbrev pub lives_opening : ℕ
lives_opening = 1
