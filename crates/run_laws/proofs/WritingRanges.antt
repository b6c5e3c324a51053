-- A write into the first range in which its bytes lie: what is read there afterwards, and that each other byte
-- stays.
use Rattle.std.proofs.Common.{◌≡◌, ℕ, zero, suc, ◌+◌, ◌-◌, ◌/◌, ◌<◌, ◌≤◌, Bool, true, false, List, [], ◌∷◌, ◌++◌, length, take, drop, refl, ap, ◌∙◌, inl, inr, arith}
use Rattle.std.specs.Prelude.{Some, None, ◌⊎◌, ◌&&◌, option_map, slice_get, slice_range, nat_le, if◌then◌else◌}
use Rattle.std.proofs.lemmas.Bool.Decides.{nat_tests}
use Rattle.std.proofs.lemmas.List.{append_assoc, length-append, length-take, length-drop, take_at, drop_at}
use Rattle.wedge_base.specs.declared.image.MemoryRange.{MemoryRange}
use Rattle.wedge_base.specs.Bytes.{overwrite, bytes_of}
use Rattle.wedge_base.specs.Memory.{lies_in, range_at, read_range, write_range, write_at}
use Rattle.run_laws.specs.Remembering.{byte_at, byte_in, range_bytes_at, AreWritten}

-- so many bytes of a number are so many
pub length-bytes_of : (k n : ℕ) → length (bytes_of k n) ≡ k
length-bytes_of zero n = refl
length-bytes_of (suc k) n = ap suc (length-bytes_of k (n / 256))

-- ---- bytes written over others

pub length-written : (b : List ℕ) (o : ℕ) (new : List ℕ) → o + length new ≤ length b → length (overwrite b o new) ≡ length b
length-written b o new h =
    omega (arith, length-append (take o b ++ new) (drop (o + length new) b), length-append (take o b) new, length-take o b, length-drop (o + length new) b)

pub read-written : (b : List ℕ) (o n : ℕ) (new : List ℕ) → length new ≡ n → o + n ≤ length b → slice_range (overwrite b o new) o (o + n) ≡ new
read-written b o n new len h =
    let front : length (take o b) ≡ o = omega (arith, length-take o b) in
    let rest = drop (o + length new) b in
    let behind : drop o (overwrite b o new) ≡ new ++ rest = ap (drop o) (append_assoc (take o b) new rest) ∙ drop_at (take o b) (new ++ rest) o front in
    let size : length new ≡ o + n - o = omega (arith, len) in
    ap (take (o + n - o)) behind ∙ take_at new rest (o + n - o) size

-- the bytes behind those that are written
get_behind : (new b : List ℕ) (j : ℕ) → length new ≤ length b → length new ≤ j → slice_get (new ++ drop (length new) b) j ≡ slice_get b j
get_behind [] b j h k = refl
get_behind (y ∷ ys) [] j h k = absurd (omega arith)
get_behind (y ∷ ys) (x ∷ xs) zero h k = absurd (omega arith)
get_behind (y ∷ ys) (x ∷ xs) (suc j) h k = get_behind ys xs j (omega arith) (omega arith)

pub written-zero : (b new : List ℕ) → overwrite b zero new ≡ new ++ drop (length new) b
written-zero b new = let e : zero + length new ≡ length new = omega arith in ap (λ n. new ++ drop n b) e

pub written-suc : (x : ℕ) (b : List ℕ) (o : ℕ) (new : List ℕ) → overwrite (x ∷ b) (suc o) new ≡ x ∷ overwrite b o new
written-suc x b o new = let e : suc o + length new ≡ suc (o + length new) = omega arith in ap (λ n. (x ∷ (take o b ++ new)) ++ drop n (x ∷ b)) e

pub get-written : (b : List ℕ) (o : ℕ) (new : List ℕ) (j : ℕ) → o + length new ≤ length b → (j < o) ⊎ (o + length new ≤ j) → slice_get (overwrite b o new) j ≡ slice_get b j
get-written b zero new j h (inl lt) = absurd (omega arith)
get-written b zero new j h (inr le) = ap (λ z. slice_get z j) (written-zero b new) ∙ get_behind new b j (omega arith) (omega arith)
get-written [] (suc o) new j h k = absurd (omega arith)
get-written (x ∷ b) (suc o) new zero h k = ap (λ z. slice_get z zero) (written-suc x b o new)
get-written (x ∷ b) (suc o) new (suc j) h (inl lt) = ap (λ z. slice_get z (suc j)) (written-suc x b o new) ∙ get-written b o new j (omega arith) (inl (omega arith))
get-written (x ∷ b) (suc o) new (suc j) h (inr le) = ap (λ z. slice_get z (suc j)) (written-suc x b o new) ∙ get-written b o new j (omega arith) (inr (omega arith))

-- ---- one range

pub record LiesIn (address n : ℕ) (r : MemoryRange) : Type 0 where
  pub above : r.base ≤ address
  pub below : address + n ≤ r.base + length r.bytes

pub lies_is : (address n : ℕ) (r : MemoryRange) → lies_in address n r ≡ true → LiesIn address n r
lies_is address n r e = by_tests (nat_le r.base address) (nat_le (address + n) (r.base + length r.bytes)) refl refl e
  where
    by_tests : (t u : Bool) → nat_le r.base address ≡ t → nat_le (address + n) (r.base + length r.bytes) ≡ u → (t && u) ≡ true → LiesIn address n r
    by_tests true true p q e = record { above = grind (arith, nat_tests); below = grind (arith, nat_tests) }
    by_tests true false p q e = absurd cc
    by_tests false u p q e = absurd cc

inside : (address : ℕ) (new : List ℕ) (r : MemoryRange) → LiesIn address (length new) r → address - r.base + length new ≤ length r.bytes
inside address new r l = omega (arith, l.above, l.below)

still_lies : (address m : ℕ) (new : List ℕ) (r : MemoryRange) → LiesIn address (length new) r → lies_in address m (write_range address new r) ≡ lies_in address m r
still_lies address m new r l = ap (λ n. nat_le r.base address && nat_le (address + m) (r.base + n)) (length-written r.bytes (address - r.base) new (inside address new r l))

read_there : (address : ℕ) (new : List ℕ) (r : MemoryRange) → LiesIn address (length new) r → read_range (write_range address new r) address (length new) ≡ new
read_there address new r l = read-written r.bytes (address - r.base) (length new) new refl (inside address new r l)

byte_stays : (address x : ℕ) (new : List ℕ) (r : MemoryRange) → LiesIn address (length new) r → (x < address) ⊎ (address + length new ≤ x) → byte_at x (write_range address new r) ≡ byte_at x r
byte_stays address x new r l off = by_base (nat_le r.base x) refl off
  where
    by_base : (t : Bool) → nat_le r.base x ≡ t → (x < address) ⊎ (address + length new ≤ x)
        → (if t then slice_get (overwrite r.bytes (address - r.base) new) (x - r.base) else None) ≡ (if t then slice_get r.bytes (x - r.base) else None)
    by_base false e k = refl
    by_base true e (inl lt) = let from : r.base ≤ x = grind (arith, nat_tests) in get-written r.bytes (address - r.base) new (x - r.base) (inside address new r l) (inl (omega (arith, l.above)))
    by_base true e (inr le) = get-written r.bytes (address - r.base) new (x - r.base) (inside address new r l) (inr (omega (arith, l.above)))

-- ---- all ranges

read_or : (address : ℕ) (new : List ℕ) (y r : MemoryRange) (ys : List MemoryRange) (t : Bool) → lies_in address (length new) y ≡ t
    → (if t then Some y else range_at ys address (length new)) ≡ Some r
    → (range_at ys address (length new) ≡ Some r → range_bytes_at (write_at ys address new) address (length new) ≡ Some new)
    → range_bytes_at (if t then write_range address new y ∷ ys else y ∷ write_at ys address new) address (length new) ≡ Some new
read_or address new y r ys true lies there rest =
    let l = lies_is address (length new) y lies in
    ap (λ u. option_map (λ x. read_range x address (length new)) (if u then Some (write_range address new y) else range_at ys address (length new))) (still_lies address (length new) new y l ∙ lies)
    ∙ ap (λ z. Some z) (read_there address new y l)
read_or address new y r ys false lies there rest =
    ap (λ u. option_map (λ x. read_range x address (length new)) (if u then Some y else range_at (write_at ys address new) address (length new))) lies ∙ rest there

read_at : (rs : List MemoryRange) (address : ℕ) (new : List ℕ) (r : MemoryRange) → range_at rs address (length new) ≡ Some r → range_bytes_at (write_at rs address new) address (length new) ≡ Some new
read_at [] address new r there = absurd cc
read_at (y ∷ ys) address new r there = read_or address new y r ys (lies_in address (length new) y) refl there (read_at ys address new r)

stay_or : (address x k : ℕ) (new : List ℕ) (y : MemoryRange) (ys : List MemoryRange) (t : Bool) → lies_in address (length new) y ≡ t → (x < address) ⊎ (address + length new ≤ x)
    → ((j : ℕ) → byte_in (write_at ys address new) j x ≡ byte_in ys j x)
    → byte_in (if t then write_range address new y ∷ ys else y ∷ write_at ys address new) k x ≡ byte_in (y ∷ ys) k x
stay_or address x zero new y ys true lies off rest = byte_stays address x new y (lies_is address (length new) y lies) off
stay_or address x (suc k) new y ys true lies off rest = refl
stay_or address x zero new y ys false lies off rest = refl
stay_or address x (suc k) new y ys false lies off rest = rest k

others_stay : (rs : List MemoryRange) (address : ℕ) (new : List ℕ) (k x : ℕ) → (x < address) ⊎ (address + length new ≤ x) → byte_in (write_at rs address new) k x ≡ byte_in rs k x
others_stay [] address new k x off = refl
others_stay (y ∷ ys) address new k x off = stay_or address x k new y ys (lies_in address (length new) y) refl off (λ j. others_stay ys address new j x off)

-- bytes that are written where they lie in a range are read there, and each other byte stays
pub written_at : (rs : List MemoryRange) (address : ℕ) (new : List ℕ) (r : MemoryRange) → range_at rs address (length new) ≡ Some r → AreWritten rs (write_at rs address new) address new
written_at rs address new r there = record { read = read_at rs address new r there; others = others_stay rs address new }
