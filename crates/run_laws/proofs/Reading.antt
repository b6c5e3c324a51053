-- A read writes the bytes that it was given into the buffer of its call.
use Rattle.std.proofs.Common.{◌≡◌, ℕ, zero, suc, ◌+◌, ◌-◌, ◌≤◌, Bool, true, false, true≢false, List, [], ◌∷◌, length, take, drop, refl, sym, ap, ◌∙◌, arith}
use Rattle.std.specs.Prelude.{Option, Some, is_some, ◌&&◌, ◌||◌, ◌==◌, nat_le, if◌then◌else◌}
use Rattle.std.proofs.lemmas.Bool.Decides.{nat_tests}
use Rattle.std.proofs.lemmas.List.{length-take}
use Rattle.std.proofs.Math.Seq.{drop-nil}
use Rattle.wedge_base.specs.Bytes.{overwrite}
use Rattle.wedge_base.specs.Memory.{lies_in, range_at, write_range, write_at}
use Rattle.wedge_events.specs.Streams.{Stream, stream_reply as stream_reply_of}
use Rattle.wedge_base.specs.Images.{Image}
use Rattle.wedge_base.specs.declared.image.MemoryRange.{MemoryRange}
use Rattle.wedge_base.specs.declared.rights.FdBits.{FdBits}
use Rattle.wedge_events.specs.declared.events.Event.TheVariants as event
use Rattle.wedge_events.specs.declared.cells.StreamAsk.{StreamAsk}
use Rattle.wedge_events.specs.declared.cells.StreamAsk.TheVariants as stream_ask
use Rattle.machine.specs.Actors.{ActorState}
use Rattle.machine.specs.Calls.{a1, a2}
use Rattle.machine.specs.Accesses.{fits_write}
use Rattle.run_laws.specs.Remembering.{ReadWrites, EventRemembers}
use Rattle.machine.specs.Take.{takes, has_read}
use Rattle.run_laws.proofs.StreamCalls.{read_cases}
use Rattle.run_laws.proofs.WritingRanges.{written-zero, written-suc, lies_is, written_at}

-- no bytes change nothing
written_none : (b : List ℕ) (o : ℕ) → overwrite b o [] ≡ b
written_none b zero = written-zero b []
written_none [] (suc o) = drop-nil (suc o + 0)
written_none (x ∷ b) (suc o) = written-suc x b o [] ∙ ap (λ z. x ∷ z) (written_none b o)

none_in : (r : MemoryRange) (rs : List MemoryRange) (address : ℕ) (t : Bool) → write_at rs address [] ≡ rs → (if t then write_range address [] r ∷ rs else r ∷ write_at rs address []) ≡ r ∷ rs
none_in r rs address true rest = ap (λ bytes. record r { bytes = bytes } ∷ rs) (written_none r.bytes (address - r.base))
none_in r rs address false rest = ap (λ z. r ∷ z) rest

write_none : (rs : List MemoryRange) (address : ℕ) → write_at rs address [] ≡ rs
write_none [] address = refl
write_none (r ∷ rs) address = none_in r rs address (lies_in address zero r) (write_none rs address)

-- where so many bytes lie in a range, fewer do
lies_less : (address m n : ℕ) (r : MemoryRange) → m ≤ n → lies_in address n r ≡ true → lies_in address m r ≡ true
lies_less address m n r less e = let l = lies_is address n r e in grind (arith, nat_tests, l.above, l.below, less)

abbrev IsFound : List MemoryRange → ℕ → ℕ → Type 0
IsFound rs address n = (r : MemoryRange) × (range_at rs address n ≡ Some r)

found_in : (y : MemoryRange) (ys : List MemoryRange) (address m n : ℕ) (t u : Bool) → m ≤ n → lies_in address m y ≡ t → lies_in address n y ≡ u → is_some (if u then Some y else range_at ys address n) ≡ true
    → (is_some (range_at ys address n) ≡ true → IsFound ys address m) → (r : MemoryRange) × ((if t then Some y else range_at ys address m) ≡ Some r)
found_in y ys address m n true u less p q e rest = (y, refl)
found_in y ys address m n false true less p q e rest = absurd (true≢false (sym (lies_less address m n y less q) ∙ p))
found_in y ys address m n false false less p q e rest = rest e

found_less : (rs : List MemoryRange) (address m n : ℕ) → m ≤ n → is_some (range_at rs address n) ≡ true → IsFound rs address m
found_less [] address m n less e = absurd (true≢false (sym e))
found_less (y ∷ ys) address m n less e = found_in y ys address m n (lies_in address m y) (lies_in address n y) less refl refl e (found_less ys address m n less)

-- a buffer that is not empty lies in a range
fits_in : (a : ActorState) (pointer n m : ℕ) → fits_write a pointer n ≡ true → suc m ≤ n → is_some (range_at a.memory.ranges pointer n) ≡ true
fits_in a pointer n m fits some = by_tests (nat_le n 256) (n == 0) refl fits
  where
    by_tests : (t u : Bool) → (n == 0) ≡ u → (t && (u || is_some (range_at a.memory.ranges pointer n))) ≡ true → is_some (range_at a.memory.ranges pointer n) ≡ true
    by_tests true false zero_is e = e
    by_tests true true zero_is e = absurd (grind (arith, nat_tests, zero_is, some))
    by_tests false u zero_is e = absurd (true≢false (sym e))

read_writes : (a : ActorState) (n : ℕ) (bytes : List ℕ) → fits_write a (a1 a) n ≡ true → length bytes ≤ n → ReadWrites a bytes (has_read a bytes)
read_writes a n [] fits less = ap (λ ranges. record a.memory { ranges = ranges }) (write_none a.memory.ranges (a1 a))
read_writes a n (x ∷ xs) fits less =
    let found = found_less a.memory.ranges (a1 a) (length (x ∷ xs)) n less (fits_in a (a1 a) n (length xs) fits less) in
    (written_at a.memory.ranges (a1 a) (x ∷ xs) found.0 found.1, refl)

-- what a stream replies to a read
pub read_remembers : (i : Image) (a : ActorState) (fd count : ℕ) (bits : FdBits) (s : Option Stream) → count ≡ a2 a → fits_write a (a1 a) (a2 a) ≡ true
    → EventRemembers a (event.Fd fd (stream_ask.Read bits count) (stream_reply_of s (stream_ask.Read bits count))) (takes i a (event.Fd fd (stream_ask.Read bits count) (stream_reply_of s (stream_ask.Read bits count))))
unfolding takes
read_remembers i a fd count bits s is fits =
    let q : StreamAsk = stream_ask.Read bits count in
    read_cases (λ r. EventRemembers a (event.Fd fd q r) (takes i a (event.Fd fd q r))) s bits count refl refl refl
    (λ x e.
    let less : length (take count (drop x.position x.bytes)) ≤ a2 a = omega (arith, length-take count (drop x.position x.bytes), is) in
    read_writes a (a2 a) (take count (drop x.position x.bytes)) fits less)
