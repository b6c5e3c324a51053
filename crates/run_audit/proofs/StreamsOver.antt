-- The stream of a descriptor as its history leaves it, by the entries of that history alone.
use Rattle.std.proofs.Common.{◌≡◌, ℕ, zero, suc, ◌+◌, ◌-◌, ◌<◌, ◌≤◌, Bool, true, false, List, [], ◌∷◌, ◌++◌, length, drop, get_or, refl, sym, ap, subst, ◌∙◌, arith, append_assoc}
use Rattle.std.proofs.lemmas.Bool.{eqb-true}
use Rattle.std.specs.Prelude.{Option, Some, None, ◌==◌, find, if◌then◌else◌}
use Rattle.wedge_base.specs.Images.{Image}
use Rattle.wedge_base.specs.declared.rights.StreamKind.{StreamKind}
use Rattle.wedge_base.specs.declared.rights.StreamKind.TheVariants as kind
use Rattle.wedge_base.specs.declared.outcome.StreamLine.{StreamLine}
use Rattle.wedge_events.specs.Streams.{Stream, new_stream, stream_after, stream_opening}
use Rattle.wedge_events.specs.declared.cells.StreamAsk.{StreamAsk}
use Rattle.wedge_events.specs.declared.cells.StreamAsk.TheVariants as ask
use Rattle.wedge_events.specs.declared.cells.StreamReply.{StreamReply}
use Rattle.wedge_events.specs.declared.cells.StreamReply.TheVariants as reply
use Rattle.wedge_events.specs.declared.events.CellName.TheVariants as cell
use Rattle.wedge_events.specs.declared.events.Event.TheVariants as event
use Rattle.journal_cell.specs.declared.entry.Entry.{Entry}
use Rattle.machine.specs.declared.opening.StreamLabel.{StreamLabel}
use Rattle.machine.specs.Cells.{Cells, opening_cells, stream_in, cells_after}
use Rattle.machine.specs.Outcomes.{with_kind, with_stream, streams_of}
use Rattle.run_laws.proofs.Opening.{cells_open}
use Rattle.run_laws.proofs.Settling.{opening_ready}
use Rattle.thread_laws.specs.Histories.{cells_after_entries}
use Rattle.thread_laws.specs.Joining.{stream_left, streams_from}
use Rattle.thread_laws.specs.Replaying.{logged_as, cell_in, same_cell, entries_kept_in, history_of}
use Rattle.thread_laws.specs.declared.gathered.CellHistory.{CellHistory}
use Rattle.thread_laws.specs.declared.gathered.CellHistory.TheVariants as history
use Rattle.thread_laws.proofs.Alike.{set_there, streams_long}
use Rattle.run_audit.specs.StreamsLeft.{stream_over, stream_entries, stream_histories, as_written}

-- ---- the history of a descriptor

listed_entries : (cells : List CellHistory) (fd : ℕ) → history_of cells (cell.Fd fd) ≡ logged_as (event.Fd fd) (stream_entries cells fd)
listed_entries [] fd = refl
listed_entries (history.Fd n es ∷ hs) fd = by_number (n == fd) refl (listed_entries hs fd)
  where
    by_number : (t : Bool) → (n == fd) ≡ t → history_of hs (cell.Fd fd) ≡ logged_as (event.Fd fd) (stream_entries hs fd)
        → entries_kept_in (if t then Some (history.Fd n es) else find (λ h. same_cell (cell_in h) (cell.Fd fd)) hs) ≡ logged_as (event.Fd fd) (if t then es else stream_entries hs fd)
    by_number true e others = ap (λ m. logged_as (event.Fd m) es) (eqb-true n fd e)
    by_number false e others = others
listed_entries (history.Slots es ∷ hs) fd = listed_entries hs fd
listed_entries (history.Slot s es ∷ hs) fd = listed_entries hs fd
listed_entries (history.Fds es ∷ hs) fd = listed_entries hs fd
listed_entries (history.Lives es ∷ hs) fd = listed_entries hs fd
listed_entries (history.Gate g es ∷ hs) fd = listed_entries hs fd

-- the histories of descriptors have them all
pub kept_entries : (cells : List CellHistory) (fd : ℕ) → stream_entries (stream_histories cells) fd ≡ stream_entries cells fd
kept_entries [] fd = refl
kept_entries (history.Fd n es ∷ hs) fd = ap (λ zs. if n == fd then es else zs) (kept_entries hs fd)
kept_entries (history.Slots es ∷ hs) fd = kept_entries hs fd
kept_entries (history.Slot s es ∷ hs) fd = kept_entries hs fd
kept_entries (history.Fds es ∷ hs) fd = kept_entries hs fd
kept_entries (history.Lives es ∷ hs) fd = kept_entries hs fd
kept_entries (history.Gate g es ∷ hs) fd = kept_entries hs fd

-- ---- one stream among all cells

replayed : (fd : ℕ) (c : Cells) (es : List (Entry StreamAsk StreamReply)) → fd < length c.streams → stream_in (cells_after_entries c (logged_as (event.Fd fd) es)) fd ≡ stream_over (stream_in c fd) es
replayed fd c [] inside = refl
replayed fd c (e ∷ es) inside =
    replayed fd (cells_after c (event.Fd fd e.ask e.reply)) es (subst (λ n. fd < n) (sym (streams_long c (event.Fd fd e.ask e.reply))) inside)
    ∙ ap (λ s. stream_over s es) (set_there c.streams fd (stream_after (stream_in c fd) e.ask e.reply) inside)

left_over : (i : Image) (cells : List CellHistory) (fd : ℕ) → fd < length (opening_cells i).streams → stream_left i cells fd ≡ stream_over (stream_opening i fd) (stream_entries cells fd)
left_over i cells fd inside =
    ap (λ es. stream_in (cells_after_entries (opening_cells i) es) fd) (listed_entries cells fd)
    ∙ (replayed fd (opening_cells i) (stream_entries cells fd) inside ∙ ap (λ s. stream_over s (stream_entries cells fd)) ((cells_open i).streams fd))

-- ---- the kind and the bytes alone

after_written : (s : Option Stream) (q : StreamAsk) (r : StreamReply) → as_written (stream_after s q r) ≡ as_written (stream_after (as_written s) q r)
after_written s (ask.Open k bytes) r = refl
after_written None (ask.Read bits count) (reply.Given bytes) = refl
after_written (Some s) (ask.Read bits count) (reply.Given bytes) = refl
after_written None (ask.Read bits count) r = refl
after_written (Some s) (ask.Read bits count) r = refl
after_written None (ask.Append bits bytes) reply.Appended = refl
after_written (Some s) (ask.Append bits bytes) reply.Appended = refl
after_written None (ask.Append bits bytes) r = refl
after_written (Some s) (ask.Append bits bytes) r = refl
after_written None (ask.Close bits) reply.Closed = refl
after_written (Some s) (ask.Close bits) reply.Closed = refl
after_written None (ask.Close bits) r = refl
after_written (Some s) (ask.Close bits) r = refl

same_after : (s t : Option Stream) (q : StreamAsk) (r : StreamReply) → as_written s ≡ as_written t → as_written (stream_after s q r) ≡ as_written (stream_after t q r)
same_after s t q r e = after_written s q r ∙ (ap (λ x. as_written (stream_after x q r)) e ∙ sym (after_written t q r))

pub same_over : (s t : Option Stream) (es : List (Entry StreamAsk StreamReply)) → as_written s ≡ as_written t → as_written (stream_over s es) ≡ as_written (stream_over t es)
same_over s t [] e = e
same_over s t (x ∷ es) e = same_over (stream_after s x.ask x.reply) (stream_after t x.ask x.reply) es (same_after s t x.ask x.reply e)

split_at : (es : List (Entry StreamAsk StreamReply)) (n : ℕ) (e : Entry StreamAsk StreamReply) → n < length es → e ≡ get_or es n e → drop n es ≡ e ∷ drop (n + 1) es
split_at es n e less is = let next : suc n ≡ n + 1 = omega arith in go es n less is ∙ ap (λ m. e ∷ drop m es) next
  where
    go : (es : List (Entry StreamAsk StreamReply)) (n : ℕ) → n < length es → e ≡ get_or es n e → drop n es ≡ e ∷ drop (suc n) es
    go [] n less is = absurd (omega (arith, less))
    go (x ∷ xs) zero less is = ap (λ z. z ∷ xs) (sym is)
    go (x ∷ xs) (suc n) less is = go xs n (omega (arith, less)) is

-- one entry more
pub over_more : (old new : Option Stream) (es : List (Entry StreamAsk StreamReply)) (n : ℕ) (e : Entry StreamAsk StreamReply) (all : Option Stream) → n < length es → e ≡ get_or es n e
    → as_written new ≡ as_written (stream_after old e.ask e.reply) → as_written (stream_over old (drop n es)) ≡ as_written all → as_written (stream_over new (drop (n + 1) es)) ≡ as_written all
over_more old new es n e all less is more so_far =
    same_over new (stream_after old e.ask e.reply) (drop (n + 1) es) more ∙ (ap (λ xs. as_written (stream_over old xs)) (sym (split_at es n e less is)) ∙ so_far)

-- ---- lines

kind_written : (i : Image) (labels : List StreamLabel) (n : ℕ) (s : Stream) (k : StreamKind) (ls : List StreamLine) → with_kind i labels n s k ls ≡ with_kind i labels n (new_stream s.kind s.bytes) k ls
kind_written i labels n s kind.Append ls = refl
kind_written i labels n s kind.Source ls = refl

line_written : (i : Image) (labels : List StreamLabel) (n : ℕ) (s : Option Stream) (ls : List StreamLine) → with_stream i labels n s ls ≡ with_stream i labels n (as_written s) ls
line_written i labels n None ls = refl
line_written i labels n (Some s) ls = kind_written i labels n s s.kind ls

before_kind : (i : Image) (labels : List StreamLabel) (n : ℕ) (s : Stream) (k : StreamKind) (ls : List StreamLine) → with_kind i labels n s k [] ++ ls ≡ with_kind i labels n s k ls
before_kind i labels n s kind.Append ls = refl
before_kind i labels n s kind.Source ls = refl

before_line : (i : Image) (labels : List StreamLabel) (n : ℕ) (s : Option Stream) (ls : List StreamLine) → with_stream i labels n s [] ++ ls ≡ with_stream i labels n s ls
before_line i labels n None ls = refl
before_line i labels n (Some s) ls = before_kind i labels n s s.kind ls

same_line : (i : Image) (labels : List StreamLabel) (n : ℕ) (s t : Option Stream) (ls : List StreamLine) → as_written s ≡ as_written t → with_stream i labels n s ls ≡ with_stream i labels n t ls
same_line i labels n s t ls e = line_written i labels n s ls ∙ (ap (λ x. with_stream i labels n x ls) e ∙ sym (line_written i labels n t ls))

-- one descriptor more
pub line_more : (i : Image) (labels : List StreamLabel) (cells : List CellHistory) (lines new all : List StreamLine) (n count : ℕ) (s : Option Stream) → n < count → count ≡ length (opening_cells i).streams
    → as_written s ≡ as_written (stream_over (stream_opening i n) (stream_entries cells n)) → new ≡ lines ++ with_stream i labels n s []
    → lines ++ streams_of i labels n (streams_from i cells (count - n) n) ≡ all → new ++ streams_of i labels (n + 1) (streams_from i cells (count - (n + 1)) (n + 1)) ≡ all
line_more i labels cells lines new all n count s less long left more so_far =
    let rest = streams_of i labels (n + 1) (streams_from i cells (count - (n + 1)) (n + 1)) in
    let next : suc (count - (n + 1)) ≡ count - n = omega (arith, less) in
    let own : as_written s ≡ as_written (stream_left i cells n) = left ∙ ap as_written (sym (left_over i cells n (subst (λ m. n < m) long less))) in
    ap (λ zs. zs ++ rest) more
    ∙ (append_assoc lines (with_stream i labels n s []) rest
    ∙ (ap (λ zs. lines ++ zs) (before_line i labels n s rest ∙ same_line i labels n s (stream_left i cells n) rest own)
    ∙ (ap (λ m. lines ++ streams_of i labels n (streams_from i cells m n)) next ∙ so_far)))

pub streams_count : (i : Image) → length i.fds ≤ 1024 → 1024 ≡ length (opening_cells i).streams
streams_count i few = sum (length i.fds) few ∙ sym (opening_ready i).cells.streams
  where
    sum : (n : ℕ) → n ≤ 1024 → 1024 ≡ n + (1024 - n)
    sum n h = omega (arith, h)
