-- Paths: their parts, and how one is resolved under a root.
use Rattle.std.specs.Prelude.{ℕ, ◌==◌, Bool, true, false, not, ◌&&◌, ◌||◌, List, [], ◌∷◌, ◌++◌, length, take, ◌-◌, filter, Option, Some, None, nat_lt, if◌then◌else◌}
use Rattle.std.specs.List.{list_all, slice_split}
use Rattle.wedge_base.specs.Names.{same}
use Rattle.wedge_base.specs.Texts.{is_printed}

-- the pieces between the slashes
abbrev pub pieces : List ℕ → List (List ℕ)
pieces path = slice_split (λ b. b == 47) path

-- the parts of a canonical path
abbrev pub parts_of : List ℕ → List (List ℕ)
parts_of path = filter (λ p. not (same p [])) (pieces path)

-- the string of parts, a slash before each
abbrev pub after_slashes : List (List ℕ) → List ℕ
after_slashes [] = []
after_slashes (p ∷ ps) = 47 ∷ p ++ after_slashes ps

abbrev pub text_of : List (List ℕ) → List ℕ
text_of [] = 47 ∷ []
text_of (p ∷ ps) = after_slashes (p ∷ ps)

-- the parts after walking the pieces: an empty one and `.` add none, `..` drops the last, if any,
-- and any other is added
abbrev pub resolve_parts : List (List ℕ) → List (List ℕ) → List (List ℕ)
resolve_parts kept [] = kept
resolve_parts kept (p ∷ ps) =
    if same p [] || same p (46 ∷ []) then resolve_parts kept ps
    else if same p (46 ∷ 46 ∷ []) then resolve_parts (take (length kept - 1) kept) ps
    else resolve_parts (kept ++ p ∷ []) ps

-- what a program passes as a path: 1 to 256 printed bytes, the first a slash
abbrev pub is_path : List ℕ → Bool
is_path [] = false
is_path (b ∷ bs) = (b == 47) && nat_lt (length bs) 256 && list_all is_printed bs

-- the path under a root that a string names, if it may be passed as a path
abbrev pub resolve : List ℕ → List ℕ → Option (List ℕ)
resolve root path = if is_path path then Some (text_of (parts_of root ++ resolve_parts [] (pieces path))) else None

-- whether the first list is a prefix of the second
abbrev pub is_front : List (List ℕ) → List (List ℕ) → Bool
is_front [] ys = true
is_front (x ∷ xs) [] = false
is_front (x ∷ xs) (y ∷ ys) = same x y && is_front xs ys

-- whether a path lies under a root
abbrev pub under : List ℕ → List ℕ → Bool
under root path = is_front (parts_of root) (parts_of path)

-- a part of a canonical path: not empty, not `.` and not `..`
abbrev pub is_part : List ℕ → Bool
is_part [] = false
is_part (c ∷ []) = not (c == 46)
is_part (c ∷ d ∷ []) = not (c == 46 && d == 46)
is_part (c ∷ d ∷ e ∷ rest) = true

-- a canonical path: a slash alone, or a slash and printed parts with a slash between each two
unfoldable pub is_canonical : List ℕ → Bool
is_canonical [] = false
is_canonical (c ∷ []) = c == 47
is_canonical (c ∷ d ∷ cs) = c == 47 && list_all is_printed (d ∷ cs) && list_all is_part (pieces (d ∷ cs))
