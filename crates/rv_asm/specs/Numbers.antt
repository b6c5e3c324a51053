-- Integers, as they are written.
use Rattle.std.specs.Prelude.{ℕ, ◌^◌, ◌==◌, min, ℤ, pos, Bool, ◌&&◌, List, [], ◌∷◌, Option, Some, None, option_map, nat_lt, ◌-ℤ◌, if◌then◌else◌}
use Rattle.std.specs.List.{list_all}
use Rattle.std.specs.Char.{digit_value}
use Rattle.std.specs.Str.Parse.{digits_value}
use Rattle.wedge_base.specs.Texts.{is_name}

-- Larger literals count as this one. It is out of every range, so the code can hold each literal in
-- 64 bits.
abbrev pub past_all : ℕ
past_all = 2 ^ 33

abbrev pub is_digit : ℕ → ℕ → Bool
is_digit radix c = nat_lt (digit_value c) radix

-- the number that digits of a radix encode
unfoldable pub natural : ℕ → List ℕ → Option ℕ
natural radix [] = None
natural radix (d ∷ ds) =
    if list_all (is_digit radix) (d ∷ ds) then Some (min (digits_value radix (d ∷ ds)) past_all) else None

-- decimal digits without leading zeros
unfoldable pub decimal : List ℕ → Option ℕ
decimal [] = None
decimal (d ∷ []) = natural 10 (d ∷ [])
decimal (d ∷ e ∷ ds) = if d == 48 then None else natural 10 (d ∷ e ∷ ds)

-- decimal digits, or hexadecimal ones of either case after `0x`
unfoldable pub magnitude : List ℕ → Option ℕ
magnitude [] = None
magnitude (c ∷ []) = decimal (c ∷ [])
magnitude (c ∷ d ∷ ds) = if c == 48 && d == 120 then natural 16 ds else decimal (c ∷ d ∷ ds)

-- an integer: a magnitude, with or without a `-` before it
unfoldable pub literal : List ℕ → Option ℤ
literal [] = None
literal (c ∷ cs) =
    if c == 45 then option_map (λ n. pos 0 -ℤ pos n) (magnitude cs)
    else option_map pos (magnitude (c ∷ cs))

-- an operand where an integer is expected: a literal, or the name of an equate or of a label
pub data Number : Type 0 where
  Literal : ℤ → Number
  Named : List ℕ → Number

unfoldable pub parse_number : List ℕ → Option Number
parse_number text = if is_name text then Some (Named text) else option_map Literal (literal text)
