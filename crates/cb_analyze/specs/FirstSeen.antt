-- Lists without repeats, in the order in which each element is first seen.
use Rattle.std.specs.Prelude.{◌≡◌, Bool, false, List, [], ◌∷◌, ◌++◌, nat_lt, if◌then◌else◌}
use Rattle.std.specs.List.{list_any, position_or_len}

module _ {X : Type 0} (same : X → X → Bool) where
  -- an element that is not there yet goes last
  abbrev pub with_element : List X → X → List X
  with_element seen x = if list_any (same x) seen then seen else seen ++ x ∷ []

  abbrev pub with_elements : List X → List X → List X
  with_elements seen [] = seen
  with_elements seen (x ∷ xs) = with_elements (with_element seen x) xs

  abbrev pub without_repeats : List X → List X
  without_repeats xs = with_elements [] xs

  -- no two are the same
  abbrev pub AreAllDifferent : List X → Type 0
  AreAllDifferent [] = Unit {0}
  AreAllDifferent (x ∷ xs) = (list_any (same x) xs ≡ false) × AreAllDifferent xs

-- the elements of a list, each once, in the order of their first occurrences
pub record IsFirstSeen {X : Type 0} (same : X → X → Bool) (xs ys : List X) : Type 0 where
  pub once : AreAllDifferent same ys
  pub members : (a : X) → list_any (same a) ys ≡ list_any (same a) xs
  -- the first of two in one list is the first of them in the other
  pub order : (a b : X)
      → nat_lt (position_or_len (same a) ys) (position_or_len (same b) ys)
      ≡ nat_lt (position_or_len (same a) xs) (position_or_len (same b) xs)
