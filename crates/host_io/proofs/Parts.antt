-- Bytes that are read or written part by part.
use Rattle.std.proofs.Common.{◌≡◌, ℕ, ◌+◌, ◌-◌, ◌≤◌, ◌<◌, List, ◌++◌, length, take, drop, Option, Some, None, refl, ap, sym, ◌∙◌, append_assoc, arith, length-drop}
use Rattle.std.proofs.Math.Seq.{take-add}
use Rattle.std.proofs.lemmas.List.{length-take, take-take, take-append-le, take_all}
use Rattle.std.proofs.lemmas.Bool.{cases_lt}
use Rattle.host_io.specs.Exposed.{grown_by}

-- what has taken the first bytes takes more of the rest
pub grown_by-take : (exposed : Option (List ℕ)) (bytes : List ℕ) (i n : ℕ) → grown_by (grown_by exposed (take i bytes)) (take n (drop i bytes)) ≡ grown_by exposed (take (i + n) bytes)
grown_by-take None bytes i n = refl
grown_by-take (Some w) bytes i n = ap Some (append_assoc w (take i bytes) (take n (drop i bytes)) ∙ ap (λ (rest : List ℕ). w ++ rest) (sym (take-add i n bytes)))

-- so many bytes that came are there
pub came : (buf exposed : List ℕ) (at n : ℕ) → n ≤ length buf → take n buf ≡ take n (drop at exposed) → n ≤ length exposed - at
came buf exposed at n short same = omega (arith, ap length same, length-take n buf, length-take n (drop at exposed), length-drop at exposed)

-- bytes that go on past a limit are more than the limit
pub past : (buf exposed : List ℕ) (at n limit : ℕ) → n ≤ length buf → take n buf ≡ take n (drop at exposed) → at ≤ limit → limit - at < n → limit < length exposed
past buf exposed at n limit short same low more = omega (arith, came buf exposed at n short same)

-- the first bytes are all, if no more are there
pub all_of : (bytes exposed : List ℕ) (n : ℕ) → bytes ≡ take n exposed → (n < length exposed → 0 < 0) → bytes ≡ exposed
all_of bytes exposed n first none = first ∙ take_all n exposed (grind (arith, cases_lt n (length exposed), none))

-- the first bytes, and those that came next
pub first_more : (bytes buf exposed : List ℕ) (at n : ℕ) → bytes ≡ take at exposed → take n buf ≡ take n (drop at exposed) → bytes ++ take n buf ≡ take (at + n) exposed
first_more bytes buf exposed at n first same = ap (λ (b : List ℕ). b ++ take n buf) first ∙ ap (λ (b : List ℕ). take at exposed ++ b) same ∙ sym (take-add at n exposed)

-- a slice from an index on
pub rest_from : (bytes : List ℕ) (i : ℕ) → take (length bytes - i) (drop i bytes) ≡ drop i bytes
rest_from bytes i = take_all (length bytes - i) (drop i bytes) (omega (arith, length-drop i bytes))

-- the front of a buffer in which the first bytes were put
pub front : (buf old : List ℕ) (n len : ℕ) → n ≤ length buf → n ≤ len → take n (take len (buf ++ old)) ≡ take n buf
front buf old n len short low = take-take n len (buf ++ old) low ∙ take-append-le n buf old short
