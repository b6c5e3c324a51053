-- The forms of paths and addresses in the items of a trace.
use Rattle.std.specs.Prelude.{ℕ, Bool, ◌==◌, ◌&&◌, ◌||◌, List, length, nat_le}
use Rattle.std.specs.List.{list_all}
use Rattle.wedge_base.specs.Paths.{is_canonical}

-- a file's path: a canonical path of at least one part and at most 255 bytes
unfoldable pub is_file_path : List ℕ → Bool
is_file_path text = nat_le 2 (length text) && nat_le (length text) 255 && is_canonical text

-- `0` to `9`, or `a` to `f`
abbrev pub is_hex_digit : ℕ → Bool
is_hex_digit c = (nat_le 48 c && nat_le c 57) || (nat_le 97 c && nat_le c 102)

-- an address: eight digits
unfoldable pub is_address : List ℕ → Bool
is_address text = length text == 8 && list_all is_hex_digit text
