-- The items of a ghost list.
use Rattle.std.specs.Prelude.{List, [], ◌∷◌, ◌++◌}
use Rattle.journal_cell.specs.declared.ghost_list.Grown.{Grown, Empty, With'}

-- the items of a list that grew so, the oldest first
abbrev pub items_of : {T : Type 0} → Grown T → List T
items_of Empty = []
items_of (With' p before last) = items_of before ++ last.value ∷ []
