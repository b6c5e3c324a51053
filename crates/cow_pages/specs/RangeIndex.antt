-- The index of the range in which bytes lie.
use Rattle.std.specs.Prelude.{ℕ, ◌<◌, ◌≡◌, List, length, slice_set, slice_index_or, Option, Some, None, IfSome, IfNone, IsTrue, is_some, true}
use Rattle.wedge_base.specs.Memory.{lies_in, range_at, write_range, write_at}
use Rattle.wedge_base.specs.declared.image.MemoryRange.{MemoryRange}

-- `r` is the index of the first range that holds `n` bytes at `address`, or none: `range_at` reads
-- there and `write_at` writes there.
pub record IsRangeIndex (rs : List MemoryRange) (address n : ℕ) (r : Option ℕ) : Type 0 where
  pub within : IfSome r (λ i. i < length rs)
  pub lies : IfSome r (λ i. (d : MemoryRange) → IsTrue (lies_in address n (slice_index_or rs i d)))
  pub found : IfSome r (λ i. (d : MemoryRange) → range_at rs address n ≡ Some (slice_index_or rs i d))
  pub written : IfSome r (λ i. (d : MemoryRange) (new : List ℕ) → length new ≡ n → write_at rs address new ≡ slice_set rs i (write_range address new (slice_index_or rs i d)))
  pub some : IfSome r (λ _. is_some (range_at rs address n) ≡ true)
  pub missing : IfNone r (range_at rs address n ≡ None)
  pub unwritten : IfNone r ((new : List ℕ) → length new ≡ n → write_at rs address new ≡ rs)
