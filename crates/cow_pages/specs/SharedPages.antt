-- Bytes in pages that are shared.
use Rattle.std.specs.Prelude.{ℕ, ◌-◌, ◌+◌, List, [], ◌∷◌, ◌++◌, length, map, slice_range, ◌≡◌}
use Rattle.std.specs.Arc.{arc_value}
use Rattle.std.specs.declared.sync.Arc.{Arc}
use Rattle.std.specs.List.{concat}
use Rattle.wedge_base.specs.Bytes.{zeros}
use Rattle.wedge_base.specs.Images.{page}

-- each of the lists has that length
abbrev pub HaveLength : ℕ → List (List ℕ) → Type 0
HaveLength n [] = Unit {0}
HaveLength n (p ∷ ps) = (length p ≡ n) × HaveLength n ps

-- what shared pages hold, page by page
abbrev pub contents : {Z : Type 0} → List (Arc (List ℕ) Z) → List (List ℕ)
contents ps = map arc_value ps

-- and as one list of bytes
abbrev pub bytes_in : {Z : Type 0} → List (Arc (List ℕ) Z) → List ℕ
bytes_in ps = concat (contents ps)

-- content, and zeros up to a size
abbrev pub zero_padded : List ℕ → ℕ → List ℕ
zero_padded content size = content ++ zeros (size - length content)

-- the page of content from an offset on, with zeros past the content
abbrev pub page_from : List ℕ → ℕ → List ℕ
page_from content start = zero_padded (slice_range content start (start + page)) page
