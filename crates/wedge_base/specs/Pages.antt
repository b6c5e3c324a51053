-- Pages, and bytes as a list of them.
use Rattle.std.specs.Prelude.{ℕ, zero, suc, ◌+◌, ◌*◌, ◌/◌, List, [], ◌∷◌, ◌++◌, length, slice_range}
use Rattle.wedge_base.specs.Images.{page}

-- a page, and its index
pub record PageAt : Type 0 where
  pub place : ℕ
  pub bytes : List ℕ

-- the page of bytes at an index
abbrev pub page_of : List ℕ → ℕ → PageAt
page_of bytes k = record { place = k; bytes = slice_range bytes (k * page) (k * page + page) }

-- so many pages of bytes, the last one before an index
abbrev pub pages_before : List ℕ → ℕ → List PageAt
pages_before bytes zero = []
pages_before bytes (suc k) = pages_before bytes k ++ page_of bytes k ∷ []

-- all pages of bytes, in order
unfoldable pub pages_of : List ℕ → List PageAt
pages_of bytes = pages_before bytes (length bytes / page)
