-- The bytes of a list of pages.
use Rattle.std.specs.Prelude.{ℕ, List, map}
use Rattle.std.specs.List.{concat}
use Rattle.wedge_base.specs.Pages.{PageAt}

-- the bytes of the pages, one page after another
abbrev pub bytes_listed : List PageAt → List ℕ
bytes_listed list = concat (map (λ p. p.bytes) list)
