-- The merge of two lists.
use Rattle.std.specs.Prelude.{Bool, List, [], ◌∷◌, if◌then◌else◌}

module _ {X : Type 0} where
  -- an item before the rest of its list, merged with another list
  abbrev pub merged_at : (X → X → Bool) → X → (List X → List X) → List X → List X
  merged_at before x rest [] = x ∷ rest []
  merged_at before x rest (y ∷ ys) =
      if before y x then y ∷ merged_at before x rest ys else x ∷ rest (y ∷ ys)

  -- two lists merged: an item of the second comes first only where it comes before that of the first
  abbrev pub merged : (X → X → Bool) → List X → List X → List X
  merged before [] ys = ys
  merged before (x ∷ xs) ys = merged_at before x (merged before xs) ys
