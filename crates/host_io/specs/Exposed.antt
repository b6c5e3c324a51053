-- Bytes outside the program: some devices expose what they hold to contracts, others do not.
use Rattle.std.specs.Prelude.{◌≡◌, ℕ, List, ◌++◌, Option, Some, option_map}

-- a fact of the bytes that are exposed, if any are
abbrev pub WhereExposed : Option (List ℕ) → (List ℕ → Type 0) → Type 0
WhereExposed exposed P = (bytes : List ℕ) → exposed ≡ Some bytes → P bytes

-- what is exposed, with more bytes behind it; what is not exposed stays so
abbrev pub grown_by : Option (List ℕ) → List ℕ → Option (List ℕ)
grown_by exposed more = option_map (λ bytes. bytes ++ more) exposed
