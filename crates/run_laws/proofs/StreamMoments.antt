-- The moments of the calls on streams: what a stream answers, where its caller goes on, and what it refuses.
use Rattle.std.proofs.Common.{◌≡◌, ℕ, Bool, true, false, List, refl, sym, ap, subst, ◌∙◌}
use Rattle.std.specs.Prelude.{Option, Some, None, not, ◌&&◌, slice_set, if◌then◌else◌}
use Rattle.wedge_base.specs.Rights.{read_bit, append_bit, bits_within}
use Rattle.wedge_events.specs.Streams.{Stream, read_reply, append_reply, closing_bit, live_stream_reply, stream_reply as stream_reply_of, stream_after}
use Rattle.wedge_base.specs.declared.rights.FdBits.{FdBits}
use Rattle.wedge_base.specs.declared.rights.Denial.TheVariants as denial
use Rattle.wedge_base.specs.declared.rights.Code.TheVariants as code
use Rattle.wedge_base.specs.declared.rights.StreamKind.{StreamKind}
use Rattle.wedge_base.specs.declared.rights.StreamKind.TheVariants as kind
use Rattle.wedge_events.specs.declared.events.Event.TheVariants as event
use Rattle.wedge_events.specs.declared.cells.StreamAsk.{StreamAsk}
use Rattle.wedge_events.specs.declared.cells.StreamAsk.TheVariants as stream_ask
use Rattle.wedge_events.specs.declared.cells.StreamReply.{StreamReply}
use Rattle.wedge_events.specs.declared.cells.StreamReply.TheVariants as reply
use Rattle.wedge_base.specs.Images.{Image}
use Rattle.machine.specs.Actors.{ActorState, bits_of, refuses, spends, answers}
use Rattle.machine.specs.Calls.{a2}
use Rattle.machine.specs.Take.{takes, has_read}
use Rattle.machine.specs.Cells.{stream_in}
use Rattle.machine.specs.Worlds.{WorldState, actor_named, with_actor}
use Rattle.run_laws.specs.Requests.{Request, Reads, Appends, Closes, in_stream}
use Rattle.run_laws.specs.Allowed.{is_source, may_close, bit_to_close, next_bytes}
use Rattle.run_laws.specs.Moments.{IsChecked, IsAnswered}
use Rattle.run_laws.specs.Refusals.{no_such, bad, stream_refuses, refused, read_refusal_after, append_refusal_after, stream_close_refusal}
use Rattle.run_laws.proofs.Checking.{kept, put_there, checked_denied, checked_allowed, stayed, same_streams, stream_world}
use Rattle.run_laws.proofs.Going.{IsNext}
use Rattle.run_laws.proofs.StreamCalls.{stream_request, stream_refusal, IsStreamRequest, read_cases, append_cases, close_cases}

-- ---- what a stream answers

-- what one that is not live answers is no use, and denies nothing
dead_answered : (w : WorldState) (b : ActorState) (fd : ℕ) (s : Option Stream) (q : StreamAsk) → IsAnswered (with_actor w b) b (event.Fd fd q reply.NoSuch) None (stream_world w b fd s q reply.NoSuch)
unfolding takes
dead_answered w b fd s q = (kept w (record w.cells { streams = slice_set w.cells.streams fd (stream_after s q reply.NoSuch) }) b (refuses b code.NoSuch) refl refl, refl)

live_answered : (w : WorldState) (b : ActorState) (fd : ℕ) (s : Stream) (q : StreamAsk) (of : Stream → Request) (v : Bool)
    → IsAnswered (with_actor w b) b (event.Fd fd q (live_stream_reply s q)) (Some (of s)) (stream_world w b fd (Some s) q (live_stream_reply s q))
    → IsAnswered (with_actor w b) b (event.Fd fd q (if v then live_stream_reply s q else reply.NoSuch)) (if v then Some (of s) else None) (stream_world w b fd (Some s) q (if v then live_stream_reply s q else reply.NoSuch))
live_answered w b fd s q of false live = dead_answered w b fd (Some s) q
live_answered w b fd s q of true live = live

-- a read: with the bit or without, of a live stream of either kind, or of none
read_checked : (w : WorldState) (b a : ActorState) (fd n : ℕ) (s : Stream) (t : Bool) (k : StreamKind) → actor_named w.actors b.name ≡ Some a → stream_in w.cells fd ≡ Some s → (bits_of b fd).read ≡ t → s.kind ≡ k
    → IsChecked (with_actor w b) b (Reads fd s n) (Some (event.Fd fd (stream_ask.Read (bits_of b fd) n) (if t then read_reply k s n else reply.Denied read_bit)))
    (stream_world w b fd (Some s) (stream_ask.Read (bits_of b fd) n) (if t then read_reply k s n else reply.Denied read_bit))
unfolding takes
read_checked w b a fd n s false k named there held is =
    checked_denied _ b (Reads fd s n) _ _ (denial.Fd fd read_bit) (ap (λ u. if u then None else Some (denial.Fd fd read_bit)) held) (λ e. let f = e.0 in absurd cc) (stayed w b _ _ (same_streams w fd (Some s) there) refl)
read_checked w b a fd n s true kind.Source named there held is =
    checked_allowed _ b (Reads fd s n) _ _ false (ap (λ u. if u then None else Some (denial.Fd fd read_bit)) held) (ap (λ x. not (is_source x)) is) (λ e. refl, λ e. (refl, put_there w b (has_read b (next_bytes s n)) a named refl))
    (kept w (record w.cells { streams = slice_set w.cells.streams fd (stream_after (Some s) (stream_ask.Read (bits_of b fd) n) (reply.Given (next_bytes s n))) }) b _ refl refl)
    (λ z. absurd cc)
read_checked w b a fd n s true kind.Append named there held is =
    checked_allowed _ b (Reads fd s n) _ _ true (ap (λ u. if u then None else Some (denial.Fd fd read_bit)) held) (ap (λ x. not (is_source x)) is) (λ e. let f = e.0 in absurd cc, λ e. absurd cc)
    (kept w (record w.cells { streams = slice_set w.cells.streams fd (Some s) }) b _ refl refl)
    (λ z. same_streams w fd (Some s) there)

read_answered : (w : WorldState) (b a : ActorState) (fd n : ℕ) (s : Option Stream) → actor_named w.actors b.name ≡ Some a → stream_in w.cells fd ≡ s
    → IsAnswered (with_actor w b) b (event.Fd fd (stream_ask.Read (bits_of b fd) n) (stream_reply_of s (stream_ask.Read (bits_of b fd) n)))
    (in_stream (λ x. Reads fd x n) s)
    (stream_world w b fd s (stream_ask.Read (bits_of b fd) n) (stream_reply_of s (stream_ask.Read (bits_of b fd) n)))
read_answered w b a fd n None named there = dead_answered w b fd None (stream_ask.Read (bits_of b fd) n)
read_answered w b a fd n (Some s) named there =
    live_answered w b fd s (stream_ask.Read (bits_of b fd) n) (λ x. Reads fd x n) s.live (read_checked w b a fd n s _ s.kind named there refl refl)

-- an append
append_checked : (w : WorldState) (b a : ActorState) (fd : ℕ) (bytes : List ℕ) (s : Stream) (t : Bool) (k : StreamKind) → actor_named w.actors b.name ≡ Some a → stream_in w.cells fd ≡ Some s → (bits_of b fd).append ≡ t → s.kind ≡ k
    → IsChecked (with_actor w b) b (Appends fd s bytes) (Some (event.Fd fd (stream_ask.Append (bits_of b fd) bytes) (if t then append_reply k else reply.Denied append_bit)))
    (stream_world w b fd (Some s) (stream_ask.Append (bits_of b fd) bytes) (if t then append_reply k else reply.Denied append_bit))
unfolding takes
append_checked w b a fd bytes s false k named there held is =
    checked_denied _ b (Appends fd s bytes) _ _ (denial.Fd fd append_bit) (ap (λ u. if u then None else Some (denial.Fd fd append_bit)) held) (λ e. let f = e.0 in absurd cc) (stayed w b _ _ (same_streams w fd (Some s) there) refl)
append_checked w b a fd bytes s true kind.Append named there held is =
    checked_allowed _ b (Appends fd s bytes) _ _ false (ap (λ u. if u then None else Some (denial.Fd fd append_bit)) held) (ap is_source is) (λ e. refl, λ e. (refl, put_there w b (answers (spends b (a2 b)) (a2 b)) a named refl))
    (kept w (record w.cells { streams = slice_set w.cells.streams fd (stream_after (Some s) (stream_ask.Append (bits_of b fd) bytes) reply.Appended) }) b _ refl refl)
    (λ z. absurd cc)
append_checked w b a fd bytes s true kind.Source named there held is =
    checked_allowed _ b (Appends fd s bytes) _ _ true (ap (λ u. if u then None else Some (denial.Fd fd append_bit)) held) (ap is_source is) (λ e. let f = e.0 in absurd cc, λ e. absurd cc)
    (kept w (record w.cells { streams = slice_set w.cells.streams fd (Some s) }) b _ refl refl)
    (λ z. same_streams w fd (Some s) there)

append_answered : (w : WorldState) (b a : ActorState) (fd : ℕ) (bytes : List ℕ) (s : Option Stream) → actor_named w.actors b.name ≡ Some a → stream_in w.cells fd ≡ s
    → IsAnswered (with_actor w b) b (event.Fd fd (stream_ask.Append (bits_of b fd) bytes) (stream_reply_of s (stream_ask.Append (bits_of b fd) bytes)))
    (in_stream (λ x. Appends fd x bytes) s)
    (stream_world w b fd s (stream_ask.Append (bits_of b fd) bytes) (stream_reply_of s (stream_ask.Append (bits_of b fd) bytes)))
append_answered w b a fd bytes None named there = dead_answered w b fd None (stream_ask.Append (bits_of b fd) bytes)
append_answered w b a fd bytes (Some s) named there =
    live_answered w b fd s (stream_ask.Append (bits_of b fd) bytes) (λ x. Appends fd x bytes) s.live (append_checked w b a fd bytes s _ s.kind named there refl refl)

-- a close: by the bit that the stream's kind asks for
and_true : (t : Bool) → (t && true) ≡ t
and_true true = refl
and_true false = refl

closes_by : (k : StreamKind) (bits : FdBits) → bits_within (closing_bit k) bits ≡ may_close k bits
closes_by kind.Source bits = and_true bits.read
closes_by kind.Append bits = refl

bit_is : (k : StreamKind) → closing_bit k ≡ bit_to_close k
bit_is kind.Source = refl
bit_is kind.Append = refl

close_checked : (w : WorldState) (b a : ActorState) (fd : ℕ) (s : Stream) (t : Bool) → actor_named w.actors b.name ≡ Some a → stream_in w.cells fd ≡ Some s → may_close s.kind (bits_of b fd) ≡ t
    → IsChecked (with_actor w b) b (Closes fd s) (Some (event.Fd fd (stream_ask.Close (bits_of b fd)) (if t then reply.Closed else reply.Denied (closing_bit s.kind))))
    (stream_world w b fd (Some s) (stream_ask.Close (bits_of b fd)) (if t then reply.Closed else reply.Denied (closing_bit s.kind)))
unfolding takes
close_checked w b a fd s false named there held =
    checked_denied _ b (Closes fd s) _ _ (denial.Fd fd (closing_bit s.kind))
    (ap (λ u. if u then None else Some (denial.Fd fd (bit_to_close s.kind))) held ∙ ap (λ x. Some (denial.Fd fd x)) (sym (bit_is s.kind)))
    (λ e. let f = e.0 in absurd cc) (stayed w b _ _ (same_streams w fd (Some s) there) refl)
close_checked w b a fd s true named there held =
    checked_allowed _ b (Closes fd s) _ _ false (ap (λ u. if u then None else Some (denial.Fd fd (bit_to_close s.kind))) held) refl (λ e. refl, λ e. (refl, put_there w b (answers b 0) a named refl))
    (kept w (record w.cells { streams = slice_set w.cells.streams fd (stream_after (Some s) (stream_ask.Close (bits_of b fd)) reply.Closed) }) b _ refl refl)
    (λ z. absurd cc)

close_answered : (w : WorldState) (b a : ActorState) (fd : ℕ) (s : Option Stream) → actor_named w.actors b.name ≡ Some a → stream_in w.cells fd ≡ s
    → IsAnswered (with_actor w b) b (event.Fd fd (stream_ask.Close (bits_of b fd)) (stream_reply_of s (stream_ask.Close (bits_of b fd))))
    (in_stream (Closes fd) s)
    (stream_world w b fd s (stream_ask.Close (bits_of b fd)) (stream_reply_of s (stream_ask.Close (bits_of b fd))))
close_answered w b a fd None named there = dead_answered w b fd None (stream_ask.Close (bits_of b fd))
close_answered w b a fd (Some s) named there =
    let q = stream_ask.Close (bits_of b fd) in
    live_answered w b fd s q (Closes fd) s.live
    (subst (λ t. IsChecked (with_actor w b) b (Closes fd s) (Some (event.Fd fd q (if t then reply.Closed else reply.Denied (closing_bit s.kind)))) (stream_world w b fd (Some s) q (if t then reply.Closed else reply.Denied (closing_bit s.kind))))
    (sym (closes_by s.kind (bits_of b fd))) (close_checked w b a fd s _ named there refl))

abbrev Answers : WorldState → ActorState → ℕ → StreamAsk → Type 0
Answers w b fd q =
    IsAnswered (with_actor w b) b (event.Fd fd q (stream_reply_of (stream_in w.cells fd) q)) (stream_request fd q (stream_in w.cells fd)) (stream_world w b fd (stream_in w.cells fd) q (stream_reply_of (stream_in w.cells fd) q))

pub stream_answered : (w : WorldState) (b a : ActorState) (fd : ℕ) (q : StreamAsk) → actor_named w.actors b.name ≡ Some a → IsStreamRequest b fd q → Answers w b fd q
stream_answered w b a fd (stream_ask.Open k bytes) named own = absurd own
stream_answered w b a fd (stream_ask.Read bits n) named own = subst (λ x. Answers w b fd (stream_ask.Read x n)) (sym own.0) (read_answered w b a fd n (stream_in w.cells fd) named refl)
stream_answered w b a fd (stream_ask.Append bits bytes) named own = subst (λ x. Answers w b fd (stream_ask.Append x bytes)) (sym own.0) (append_answered w b a fd bytes (stream_in w.cells fd) named refl)
stream_answered w b a fd (stream_ask.Close bits) named own = subst (λ x. Answers w b fd (stream_ask.Close x)) (sym own.0) (close_answered w b a fd (stream_in w.cells fd) named refl)

-- ---- where its caller goes on

-- any reply but to an opening answers the call
abbrev AnswersCall : StreamReply → Type 0
AnswersCall reply.Opened = ⊥
AnswersCall r = Unit {0}

next_by : (i : Image) (b : ActorState) (fd : ℕ) (q : StreamAsk) (r : StreamReply) → AnswersCall r → IsNext b.hart (takes i b (event.Fd fd q r))
unfolding takes
next_by i b fd q reply.Opened k = absurd k
next_by i b fd q (reply.Given bytes) k = (λ e. refl, λ e. absurd cc)
next_by i b fd q reply.Appended k = (λ e. refl, λ e. absurd cc)
next_by i b fd q reply.Closed k = (λ e. refl, λ e. absurd cc)
next_by i b fd q reply.NoSuch k = (λ e. refl, λ e. absurd cc)
next_by i b fd q (reply.Denied wants) k = (λ e. refl, λ e. absurd cc)
next_by i b fd q reply.Bad k = (λ e. refl, λ e. absurd cc)

answers_call : (b : ActorState) (fd : ℕ) (q : StreamAsk) (s : Option Stream) → IsStreamRequest b fd q → AnswersCall (stream_reply_of s q)
answers_call b fd (stream_ask.Open k bytes) s own = absurd own
answers_call b fd (stream_ask.Read bits n) s own = read_cases AnswersCall s bits n tt tt tt (λ x e. tt)
answers_call b fd (stream_ask.Append bits bytes) s own = append_cases AnswersCall s bits bytes tt tt tt tt
answers_call b fd (stream_ask.Close bits) s own = close_cases AnswersCall s bits tt (λ k. tt) tt

pub stream_next : (i : Image) (b : ActorState) (fd : ℕ) (q : StreamAsk) (s : Option Stream) → IsStreamRequest b fd q → IsNext b.hart (takes i b (event.Fd fd q (stream_reply_of s q)))
stream_next i b fd q s own = next_by i b fd q (stream_reply_of s q) (answers_call b fd q s own)

-- ---- what it refuses: a descriptor that is not live, and a stream of the other kind

read_refused : (w : WorldState) (b : ActorState) (fd n code : ℕ) (s : Option Stream) → stream_in w.cells fd ≡ s → read_refusal_after b fd s ≡ Some code
    → stream_world w b fd s (stream_ask.Read (bits_of b fd) n) (stream_reply_of s (stream_ask.Read (bits_of b fd) n)) ≡ with_actor (with_actor w b) (refused b code)
unfolding takes
read_refused w b fd n code None there told =
    let same : 5 ≡ code = cc in
    subst (λ m. stream_world w b fd None (stream_ask.Read (bits_of b fd) n) reply.NoSuch ≡ with_actor (with_actor w b) (refused b m)) same (stayed w b _ _ (same_streams w fd None there) refl)
read_refused w b fd n code (Some s) there told = by_tests s.live (bits_of b fd).read s.kind told
  where
    by_tests : (v t : Bool) (k : StreamKind) → (if v then (if t && not (is_source k) then Some bad else None) else Some no_such) ≡ Some code
        → stream_world w b fd (Some s) (stream_ask.Read (bits_of b fd) n) (if v then (if t then read_reply k s n else reply.Denied read_bit) else reply.NoSuch) ≡ with_actor (with_actor w b) (refused b code)
    by_tests false t k h = let same : 5 ≡ code = cc in subst (λ m. stream_world w b fd (Some s) (stream_ask.Read (bits_of b fd) n) reply.NoSuch ≡ with_actor (with_actor w b) (refused b m)) same (stayed w b _ _ (same_streams w fd (Some s) there) refl)
    by_tests true false k h = absurd cc
    by_tests true true kind.Source h = absurd cc
    by_tests true true kind.Append h = let same : 6 ≡ code = cc in subst (λ m. stream_world w b fd (Some s) (stream_ask.Read (bits_of b fd) n) reply.Bad ≡ with_actor (with_actor w b) (refused b m)) same (stayed w b _ _ (same_streams w fd (Some s) there) refl)

append_refused : (w : WorldState) (b : ActorState) (fd code : ℕ) (bytes : List ℕ) (s : Option Stream) → stream_in w.cells fd ≡ s → append_refusal_after b fd s ≡ Some code
    → stream_world w b fd s (stream_ask.Append (bits_of b fd) bytes) (stream_reply_of s (stream_ask.Append (bits_of b fd) bytes)) ≡ with_actor (with_actor w b) (refused b code)
unfolding takes
append_refused w b fd code bytes None there told =
    let same : 5 ≡ code = cc in
    subst (λ n. stream_world w b fd None (stream_ask.Append (bits_of b fd) bytes) reply.NoSuch ≡ with_actor (with_actor w b) (refused b n)) same (stayed w b _ _ (same_streams w fd None there) refl)
append_refused w b fd code bytes (Some s) there told = by_tests s.live (bits_of b fd).append s.kind told
  where
    by_tests : (v t : Bool) (k : StreamKind) → (if v then (if t && not (not (is_source k)) then Some bad else None) else Some no_such) ≡ Some code
        → stream_world w b fd (Some s) (stream_ask.Append (bits_of b fd) bytes) (if v then (if t then append_reply k else reply.Denied append_bit) else reply.NoSuch) ≡ with_actor (with_actor w b) (refused b code)
    by_tests false t k h = let same : 5 ≡ code = cc in subst (λ n. stream_world w b fd (Some s) (stream_ask.Append (bits_of b fd) bytes) reply.NoSuch ≡ with_actor (with_actor w b) (refused b n)) same (stayed w b _ _ (same_streams w fd (Some s) there) refl)
    by_tests true false k h = absurd cc
    by_tests true true kind.Source h = let same : 6 ≡ code = cc in subst (λ n. stream_world w b fd (Some s) (stream_ask.Append (bits_of b fd) bytes) reply.Bad ≡ with_actor (with_actor w b) (refused b n)) same (stayed w b _ _ (same_streams w fd (Some s) there) refl)
    by_tests true true kind.Append h = absurd cc

close_refused : (w : WorldState) (b : ActorState) (fd code : ℕ) (s : Option Stream) → stream_in w.cells fd ≡ s → stream_close_refusal s ≡ Some code
    → stream_world w b fd s (stream_ask.Close (bits_of b fd)) (stream_reply_of s (stream_ask.Close (bits_of b fd))) ≡ with_actor (with_actor w b) (refused b code)
unfolding takes
close_refused w b fd code None there told =
    let same : 5 ≡ code = cc in
    subst (λ n. stream_world w b fd None (stream_ask.Close (bits_of b fd)) reply.NoSuch ≡ with_actor (with_actor w b) (refused b n)) same (stayed w b _ _ (same_streams w fd None there) refl)
close_refused w b fd code (Some s) there told = by_tests s.live told
  where
    by_tests : (v : Bool) → (if v then None else Some no_such) ≡ Some code
        → stream_world w b fd (Some s) (stream_ask.Close (bits_of b fd)) (if v then live_stream_reply s (stream_ask.Close (bits_of b fd)) else reply.NoSuch) ≡ with_actor (with_actor w b) (refused b code)
    by_tests false h = let same : 5 ≡ code = cc in subst (λ n. stream_world w b fd (Some s) (stream_ask.Close (bits_of b fd)) reply.NoSuch ≡ with_actor (with_actor w b) (refused b n)) same (stayed w b _ _ (same_streams w fd (Some s) there) refl)
    by_tests true h = absurd cc

abbrev Refuses : WorldState → ActorState → ℕ → StreamAsk → ℕ → Type 0
Refuses w b fd q code = stream_world w b fd (stream_in w.cells fd) q (stream_reply_of (stream_in w.cells fd) q) ≡ with_actor (with_actor w b) (refused b code)

pub stream_refused : (w : WorldState) (b : ActorState) (fd : ℕ) (q : StreamAsk) (code : ℕ) → IsStreamRequest b fd q → stream_refusal b fd q (stream_in w.cells fd) ≡ Some code → Refuses w b fd q code
stream_refused w b fd (stream_ask.Open k bytes) code own told = absurd own
stream_refused w b fd (stream_ask.Read bits n) code own told = subst (λ x. Refuses w b fd (stream_ask.Read x n) code) (sym own.0) (read_refused w b fd n code (stream_in w.cells fd) refl told)
stream_refused w b fd (stream_ask.Append bits bytes) code own told = subst (λ x. Refuses w b fd (stream_ask.Append x bytes) code) (sym own.0) (append_refused w b fd code bytes (stream_in w.cells fd) refl told)
stream_refused w b fd (stream_ask.Close bits) code own told = subst (λ x. Refuses w b fd (stream_ask.Close x) code) (sym own.0) (close_refused w b fd code (stream_in w.cells fd) refl told)

-- and one that has no code for it refuses nothing
read_passed : (b : ActorState) (fd n : ℕ) (s : Option Stream) → read_refusal_after b fd s ≡ None → stream_refuses (stream_reply_of s (stream_ask.Read (bits_of b fd) n)) ≡ false
read_passed b fd n None told = absurd cc
read_passed b fd n (Some s) told = by_tests s.live (bits_of b fd).read s.kind told
  where
    by_tests : (v t : Bool) (k : StreamKind) → (if v then (if t && not (is_source k) then Some bad else None) else Some no_such) ≡ None
        → stream_refuses (if v then (if t then read_reply k s n else reply.Denied read_bit) else reply.NoSuch) ≡ false
    by_tests false t k h = absurd cc
    by_tests true false k h = refl
    by_tests true true kind.Source h = refl
    by_tests true true kind.Append h = absurd cc

append_passed : (b : ActorState) (fd : ℕ) (bytes : List ℕ) (s : Option Stream) → append_refusal_after b fd s ≡ None → stream_refuses (stream_reply_of s (stream_ask.Append (bits_of b fd) bytes)) ≡ false
append_passed b fd bytes None told = absurd cc
append_passed b fd bytes (Some s) told = by_tests s.live (bits_of b fd).append s.kind told
  where
    by_tests : (v t : Bool) (k : StreamKind) → (if v then (if t && not (not (is_source k)) then Some bad else None) else Some no_such) ≡ None
        → stream_refuses (if v then (if t then append_reply k else reply.Denied append_bit) else reply.NoSuch) ≡ false
    by_tests false t k h = absurd cc
    by_tests true false k h = refl
    by_tests true true kind.Source h = absurd cc
    by_tests true true kind.Append h = refl

close_passed : (s : Option Stream) (bits : FdBits) → stream_close_refusal s ≡ None → stream_refuses (stream_reply_of s (stream_ask.Close bits)) ≡ false
close_passed None bits told = absurd cc
close_passed (Some s) bits told = by_tests s.live (bits_within (closing_bit s.kind) bits) told
  where
    by_tests : (v t : Bool) → (if v then None else Some no_such) ≡ None → stream_refuses (if v then (if t then reply.Closed else reply.Denied (closing_bit s.kind)) else reply.NoSuch) ≡ false
    by_tests false t h = absurd cc
    by_tests true false h = refl
    by_tests true true h = refl

abbrev Passes : Option Stream → StreamAsk → Type 0
Passes s q = stream_refuses (stream_reply_of s q) ≡ false

pub stream_passed : (b : ActorState) (fd : ℕ) (q : StreamAsk) (s : Option Stream) → IsStreamRequest b fd q → stream_refusal b fd q s ≡ None → stream_refuses (stream_reply_of s q) ≡ false
stream_passed b fd (stream_ask.Open k bytes) s own told = absurd own
stream_passed b fd (stream_ask.Read bits n) s own told = subst (λ x. Passes s (stream_ask.Read x n)) (sym own.0) (read_passed b fd n s told)
stream_passed b fd (stream_ask.Append bits bytes) s own told = subst (λ x. Passes s (stream_ask.Append x bytes)) (sym own.0) (append_passed b fd bytes s told)
stream_passed b fd (stream_ask.Close bits) s own told = close_passed s bits told
