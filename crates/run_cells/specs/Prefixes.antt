-- Lists that begin with others.
use Rattle.std.specs.Prelude.{◌≡◌, ◌++◌, List}

-- a list is a prefix of another
pub record IsPrefixOf {T : Type 0} (xs ys : List T) : Type 0 where
  pub rest : List T
  pub is : ys ≡ xs ++ rest
