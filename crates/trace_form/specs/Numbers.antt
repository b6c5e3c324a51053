-- Counts in decimal.
use Rattle.std.specs.Prelude.{ℕ, Bool, List}
use Rattle.std.specs.Fmt.{decimal}
use Rattle.std.specs.Str.{bytes_eq}

-- whether a text is the decimal form of this number
unfoldable pub is_decimal_of : ℕ → List ℕ → Bool
is_decimal_of n text = bytes_eq text (decimal n)
