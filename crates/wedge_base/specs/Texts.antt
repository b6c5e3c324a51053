-- The form of a name, and printed bytes.
use Rattle.std.specs.Prelude.{ℕ, Bool, false, ◌==◌, ◌&&◌, ◌||◌, List, [], ◌∷◌, length, nat_le}
use Rattle.std.specs.List.{list_all}

abbrev pub is_letter : ℕ → Bool
is_letter c = (nat_le 65 c && nat_le c 90) || (nat_le 97 c && nat_le c 122)

-- a letter or `_`
abbrev pub starts_name : ℕ → Bool
starts_name c = is_letter c || c == 95

-- a letter, `_`, a digit or `.`
abbrev pub continues_name : ℕ → Bool
continues_name c = starts_name c || (nat_le 48 c && nat_le c 57) || c == 46

-- a name has 1 to 64 bytes
unfoldable pub is_name : List ℕ → Bool
is_name [] = false
is_name (c ∷ cs) = nat_le (length cs) 63 && starts_name c && list_all continues_name cs

-- a byte that ASCII prints, other than the space
abbrev pub is_printed : ℕ → Bool
is_printed c = nat_le 0x21 c && nat_le c 0x7e
