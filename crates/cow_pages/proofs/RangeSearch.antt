-- The first range in which bytes lie.
use Rattle.std.proofs.Common.{◌≡◌, ℕ, zero, suc, ◌<◌, true, false, List, [], ◌∷◌, length, get_or, set, Some, None, refl, sym, ap, subst, arith}
use Rattle.std.specs.Prelude.{Option, is_some}
use Rattle.wedge_base.specs.Memory.{lies_in, range_at, write_range, write_at}
use Rattle.wedge_base.specs.declared.image.MemoryRange.{MemoryRange}
use Rattle.cow_pages.specs.RangeIndex.{IsRangeIndex}

-- they lie in none of the ranges before an index
abbrev pub NoneBefore : List MemoryRange → ℕ → ℕ → ℕ → Type 0
NoneBefore rs address n i = (j : ℕ) (d : MemoryRange) → j < i → lies_in address n (get_or rs j d) ≡ false

later : (x : MemoryRange) (rs : List MemoryRange) (address n i : ℕ) → NoneBefore (x ∷ rs) address n (suc i) → NoneBefore rs address n i
later x rs address n i h j d lt = h (suc j) d (omega arith)

found_at : (rs : List MemoryRange) (address n i : ℕ) → i < length rs → NoneBefore rs address n i → ((d : MemoryRange) → lies_in address n (get_or rs i d) ≡ true) → (d : MemoryRange) → range_at rs address n ≡ Some (get_or rs i d)
found_at [] address n i lt before lies d = absurd (omega arith)
found_at (x ∷ rs) address n zero lt before lies d = let t : lies_in address n x ≡ true = lies d in rw t refl
found_at (x ∷ rs) address n (suc i) lt before lies d = let f : lies_in address n x ≡ false = before zero x (omega arith) in rw f (found_at rs address n i (omega arith) (later x rs address n i before) lies d)

written_at : (rs : List MemoryRange) (address i : ℕ) (new : List ℕ) → i < length rs → NoneBefore rs address (length new) i → ((d : MemoryRange) → lies_in address (length new) (get_or rs i d) ≡ true) → (d : MemoryRange) → write_at rs address new ≡ set rs i (write_range address new (get_or rs i d))
written_at [] address i new lt before lies d = absurd (omega arith)
written_at (x ∷ rs) address zero new lt before lies d = let t : lies_in address (length new) x ≡ true = lies d in rw t refl
written_at (x ∷ rs) address (suc i) new lt before lies d = let f : lies_in address (length new) x ≡ false = before zero x (omega arith) in rw f (ap (λ (ys : List MemoryRange). x ∷ ys) (written_at rs address i new (omega arith) (later x rs address (length new) i before) lies d))

none_at : (rs : List MemoryRange) (address n : ℕ) → NoneBefore rs address n (length rs) → range_at rs address n ≡ None
none_at [] address n before = refl
none_at (x ∷ rs) address n before = let f : lies_in address n x ≡ false = before zero x (omega arith) in rw f (none_at rs address n (later x rs address n (length rs) before))

unwritten_at : (rs : List MemoryRange) (address : ℕ) (new : List ℕ) → NoneBefore rs address (length new) (length rs) → write_at rs address new ≡ rs
unwritten_at [] address new before = refl
unwritten_at (x ∷ rs) address new before = let f : lies_in address (length new) x ≡ false = before zero x (omega arith) in rw f (ap (λ (ys : List MemoryRange). x ∷ ys) (unwritten_at rs address new (later x rs address (length new) (length rs) before)))

pub index_found : (rs : List MemoryRange) (address n i : ℕ) → i < length rs → NoneBefore rs address n i → ((d : MemoryRange) → lies_in address n (get_or rs i d) ≡ true) → IsRangeIndex rs address n (Some i)
index_found rs address n i lt before lies = record {
  within = lt;
  lies = lies;
  found = found_at rs address n i lt before lies;
  written = λ d new e. written_at rs address i new lt (subst (λ (k : ℕ). NoneBefore rs address k i) (sym e) before) (λ q. subst (λ (k : ℕ). lies_in address k (get_or rs i q) ≡ true) (sym e) (lies q)) d;
  some = ap (λ (o : Option MemoryRange). is_some o) (found_at rs address n i lt before lies (record { base = 0; bytes = [] }));
  missing = tt;
  unwritten = tt;
}

pub index_missing : (rs : List MemoryRange) (address n : ℕ) → NoneBefore rs address n (length rs) → IsRangeIndex rs address n None
index_missing rs address n before = record { within = tt; lies = tt; found = tt; written = tt; some = tt; missing = none_at rs address n before; unwritten = λ new e. unwritten_at rs address new (subst (λ (k : ℕ). NoneBefore rs address k (length rs)) (sym e) before) }
