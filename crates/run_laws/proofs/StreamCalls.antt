-- The calls on streams: the request that each is, the code with which its event refuses it, and what its actor asks.
use Rattle.std.proofs.Common.{◌≡◌, ℕ, ◌≤◌, Bool, true, false, List, refl, sym, subst}
use Rattle.std.specs.Prelude.{Option, Some, None, if◌then◌else◌}
use Rattle.wedge_events.specs.Streams.{Stream, read_reply, append_reply, closing_bit, stream_reply, stream_after}
use Rattle.wedge_base.specs.Rights.{read_bit, append_bit, bits_within}
use Rattle.wedge_base.specs.declared.rights.FdBits.{FdBits}
use Rattle.wedge_base.specs.declared.rights.StreamKind.{StreamKind}
use Rattle.wedge_base.specs.declared.rights.StreamKind.TheVariants as kind
use Rattle.wedge_events.specs.declared.cells.StreamAsk.{StreamAsk}
use Rattle.wedge_events.specs.declared.cells.StreamAsk.TheVariants as ask
use Rattle.wedge_events.specs.declared.cells.StreamReply.{StreamReply}
use Rattle.wedge_events.specs.declared.cells.StreamReply.TheVariants as reply
use Rattle.machine.specs.declared.phase.Phase.{Phase}
use Rattle.machine.specs.Actors.{ActorState, bits_of}
use Rattle.machine.specs.Calls.{a1, a2}
use Rattle.machine.specs.Accesses.{fits_write}
use Rattle.run_laws.specs.Requests.{Request, Reads, Appends, Closes, in_stream}
use Rattle.run_laws.specs.Refusals.{read_refusal_after, append_refusal_after, stream_close_refusal}
use Rattle.run_laws.specs.Allowed.{is_checked_at_event}

-- the request that an ask of a stream is
abbrev pub stream_request : ℕ → StreamAsk → Option Stream → Option Request
stream_request fd (ask.Open k bytes) s = None
stream_request fd (ask.Read bits count) s = in_stream (λ x. Reads fd x count) s
stream_request fd (ask.Append bits bytes) s = in_stream (λ x. Appends fd x bytes) s
stream_request fd (ask.Close bits) s = in_stream (Closes fd) s

-- the code with which its event refuses it
abbrev pub stream_refusal : ActorState → ℕ → StreamAsk → Option Stream → Option ℕ
stream_refusal a fd (ask.Open k bytes) s = None
stream_refusal a fd (ask.Read bits count) s = read_refusal_after a fd s
stream_refusal a fd (ask.Append bits bytes) s = append_refusal_after a fd s
stream_refusal a fd (ask.Close bits) s = stream_close_refusal s

-- what an actor asks of a stream: each ask is with its own bits, and a read or an append with the fuel for it; a read has a
-- buffer for as many bytes
abbrev pub IsStreamRequest : ActorState → ℕ → StreamAsk → Type 0
IsStreamRequest a fd (ask.Open k bytes) = ⊥
IsStreamRequest a fd (ask.Read bits count) = (bits ≡ bits_of a fd) × (count ≡ a2 a) × (a2 a ≤ a.fuel) × (fits_write a (a1 a) (a2 a) ≡ true)
IsStreamRequest a fd (ask.Append bits bytes) = (bits ≡ bits_of a fd) × (a2 a ≤ a.fuel)
IsStreamRequest a fd (ask.Close bits) = (bits ≡ bits_of a fd) × Unit {0}

-- neither turns on what the actor is at
pub request_at_phase : (a : ActorState) (p : Phase) (fd : ℕ) (q : StreamAsk) → IsStreamRequest a fd q → IsStreamRequest (record a { phase = p }) fd q
request_at_phase a p fd (ask.Open k bytes) own = own
request_at_phase a p fd (ask.Read bits count) own = own
request_at_phase a p fd (ask.Append bits bytes) own = own
request_at_phase a p fd (ask.Close bits) own = own

pub refusal_at_phase : (a : ActorState) (p : Phase) (fd : ℕ) (q : StreamAsk) (s : Option Stream) → stream_refusal a fd q s ≡ stream_refusal (record a { phase = p }) fd q s
refusal_at_phase a p fd (ask.Open k bytes) s = refl
refusal_at_phase a p fd (ask.Read bits count) s = refl
refusal_at_phase a p fd (ask.Append bits bytes) s = refl
refusal_at_phase a p fd (ask.Close bits) s = refl

-- each is checked at its event
in_stream_event : (of : Stream → Request) (s : Option Stream) (r : Request) → ((x : Stream) → is_checked_at_event (of x) ≡ true) → in_stream of s ≡ Some r → is_checked_at_event r ≡ true
in_stream_event of None r h e = absurd cc
in_stream_event of (Some s) r h e = by_test s.live e
  where
    by_test : (t : Bool) → (if t then Some (of s) else None) ≡ Some r → is_checked_at_event r ≡ true
    by_test true f = let is : of s ≡ r = cc in subst (λ y. is_checked_at_event y ≡ true) is (h s)
    by_test false f = absurd cc

pub stream_event : (fd : ℕ) (q : StreamAsk) (s : Option Stream) (r : Request) → stream_request fd q s ≡ Some r → is_checked_at_event r ≡ true
stream_event fd (ask.Open k bytes) s r e = absurd cc
stream_event fd (ask.Read bits count) s r e = in_stream_event (λ x. Reads fd x count) s r (λ x. refl) e
stream_event fd (ask.Append bits bytes) s r e = in_stream_event (λ x. Appends fd x bytes) s r (λ x. refl) e
stream_event fd (ask.Close bits) s r e = in_stream_event (Closes fd) s r (λ x. refl) e

-- ---- what a stream replies: that it is not live, or else by the bits and its kind

-- something holds of the reply to a read, whichever it is
pub read_cases : (P : StreamReply → Type 0) (s : Option Stream) (bits : FdBits) (count : ℕ) → P reply.NoSuch → P (reply.Denied read_bit) → P reply.Bad
    → ((x : Stream) → s ≡ Some x → P (read_reply kind.Source x count)) → P (stream_reply s (ask.Read bits count))
read_cases P None bits count dead lacks other given = dead
read_cases P (Some s) bits count dead lacks other given = by_tests s.live bits.read s.kind
  where
    by_tests : (v t : Bool) (k : StreamKind) → P (if v then (if t then read_reply k s count else reply.Denied read_bit) else reply.NoSuch)
    by_tests false t k = dead
    by_tests true false k = lacks
    by_tests true true kind.Source = given s refl
    by_tests true true kind.Append = other

pub append_cases : (P : StreamReply → Type 0) (s : Option Stream) (bits : FdBits) (bytes : List ℕ) → P reply.NoSuch → P (reply.Denied append_bit) → P reply.Bad → P reply.Appended → P (stream_reply s (ask.Append bits bytes))
append_cases P None bits bytes dead lacks other done = dead
append_cases P (Some s) bits bytes dead lacks other done = by_tests s.live bits.append s.kind
  where
    by_tests : (v t : Bool) (k : StreamKind) → P (if v then (if t then append_reply k else reply.Denied append_bit) else reply.NoSuch)
    by_tests false t k = dead
    by_tests true false k = lacks
    by_tests true true kind.Source = other
    by_tests true true kind.Append = done

pub close_cases : (P : StreamReply → Type 0) (s : Option Stream) (bits : FdBits) → P reply.NoSuch → ((k : StreamKind) → P (reply.Denied (closing_bit k))) → P reply.Closed → P (stream_reply s (ask.Close bits))
close_cases P None bits dead lacks done = dead
close_cases P (Some s) bits dead lacks done = by_tests s.live (bits_within (closing_bit s.kind) bits)
  where
    by_tests : (v t : Bool) → P (if v then (if t then reply.Closed else reply.Denied (closing_bit s.kind)) else reply.NoSuch)
    by_tests false t = dead
    by_tests true false = lacks s.kind
    by_tests true true = done

-- a stream that was never opened stays so
pub unopened_stays : (a : ActorState) (fd : ℕ) (q : StreamAsk) (s : Option Stream) → IsStreamRequest a fd q → s ≡ None → stream_after s q (stream_reply s q) ≡ None
unopened_stays a fd (ask.Open k bytes) s own none = absurd own
unopened_stays a fd (ask.Read bits count) s own none = subst (λ x. stream_after x (ask.Read bits count) (stream_reply x (ask.Read bits count)) ≡ None) (sym none) refl
unopened_stays a fd (ask.Append bits bytes) s own none = subst (λ x. stream_after x (ask.Append bits bytes) (stream_reply x (ask.Append bits bytes)) ≡ None) (sym none) refl
unopened_stays a fd (ask.Close bits) s own none = subst (λ x. stream_after x (ask.Close bits) (stream_reply x (ask.Close bits)) ≡ None) (sym none) refl
