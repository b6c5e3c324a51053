-- The form of a path, and the order of strings.
use Rattle.std.specs.Prelude.{ℕ, Bool, true, ◌&&◌, List, [], ◌∷◌, length, nat_le}
use Rattle.std.specs.Ordering.{nat_cmp, is_lt}
use Rattle.std.specs.Cmp.Lexicographic.{slice_cmp}
use Rattle.wedge_base.specs.Paths.{is_canonical}

-- a canonical path of 2 to 255 bytes, and so of at least one part
unfoldable pub is_entry_path : List ℕ → Bool
is_entry_path text = nat_le 2 (length text) && nat_le (length text) 255 && is_canonical text

-- a root directory is a canonical path of 1 to 255 bytes: it may also be `/` alone
unfoldable pub is_root : List ℕ → Bool
is_root text = nat_le 1 (length text) && nat_le (length text) 255 && is_canonical text

-- whether the first string is before the second, in byte order
unfoldable pub is_below : List ℕ → List ℕ → Bool
is_below a b = is_lt (slice_cmp nat_cmp a b)

-- whether each string is after the one before it, and the first after a given one
abbrev pub ascend_from : List ℕ → List (List ℕ) → Bool
ascend_from before [] = true
ascend_from before (t ∷ ts) = is_below before t && ascend_from t ts

-- strictly ascending strings, none of them empty
abbrev pub ascend : List (List ℕ) → Bool
ascend ts = ascend_from [] ts
