-- Files in the order of their paths.
use Rattle.std.specs.Prelude.{◌≡◌, ℕ, true, List, [], ◌∷◌}
use Rattle.std.specs.Ordering.{nat_cmp, is_lt}
use Rattle.std.specs.Cmp.Lexicographic.{slice_cmp}
use Rattle.wedge_base.specs.declared.image.FileEntry.{FileEntry}

-- each path is above the one before it in byte order, and the first above a text that is given
abbrev pub AreAscendingFrom : List ℕ → List FileEntry → Type 0
AreAscendingFrom before [] = Unit {0}
AreAscendingFrom before (f ∷ fs) = (is_lt (slice_cmp nat_cmp before f.path) ≡ true) × AreAscendingFrom f.path fs

-- the paths ascend strictly in byte order
abbrev pub AreAscending : List FileEntry → Type 0
AreAscending [] = Unit {0}
AreAscending (f ∷ fs) = AreAscendingFrom f.path fs
