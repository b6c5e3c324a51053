-- What the value of a key is read as.
use Rattle.std.specs.Prelude.{ℕ, ◌+◌, ◌-◌, ◌*◌, ◌%◌, ◌^◌, ◌==◌, ℤ, pos, negsuc, Bool, true, false, ◌&&◌, ◌||◌, List, [], ◌∷◌, length, codes, Option, Some, None, is_some, option_and_then, option_to_list, unwrap_or, ◌++◌, nat_le, nat_lt, if◌then◌else◌}
use Rattle.std.specs.List.{list_all}
use Rattle.std.specs.Str.{bytes_eq}
use Rattle.toml.specs.Data.{Data, Items, no_items, item, Members, get_member, as_str, as_integer, as_array, as_table}
use Rattle.wedge_base.specs.declared.rights.Right.{Right}
use Rattle.wedge_base.specs.declared.rights.Right.TheVariants as right
use Rattle.wedge_base.specs.declared.rights.FdBits.{FdBits}
use Rattle.wedge_base.specs.declared.rights.StreamKind.{StreamKind}
use Rattle.wedge_base.specs.declared.rights.StreamKind.TheVariants as stream
use Rattle.part_toml.specs.declared.keys.Kind.{Kind}
use Rattle.part_toml.specs.declared.keys.Kind.TheVariants as kind
use Rattle.part_toml.specs.declared.keys.Key.{Key}
use Rattle.part_toml.specs.Keys.{name_of}

-- ---- numbers and names

-- an integer that fits 32 bits
abbrev pub small : ℤ → Option ℕ
small (pos n) = if nat_lt n (2 ^ 32) then Some n else None
small (negsuc n) = None

abbrev pub u32_value : Data → Option ℕ
u32_value d = option_and_then small (as_integer d)

-- the right that a string names: "none" names that there is none
abbrev pub right_named : List ℕ → Option (Option Right)
right_named w =
    if bytes_eq w (codes "none") then Some None else
    if bytes_eq w (codes "Cow") then Some (Some right.Cow) else
    if bytes_eq w (codes "Read") then Some (Some right.Read) else
    if bytes_eq w (codes "ReadWrite") then Some (Some right.ReadWrite) else None

abbrev pub stream_named : List ℕ → Option StreamKind
stream_named w =
    if bytes_eq w (codes "source") then Some stream.Source else
    if bytes_eq w (codes "append") then Some stream.Append else None

abbrev pub fd_bits : Bool → Bool → FdBits
fd_bits r a = record { read = r; append = a }

abbrev pub bits_named : List ℕ → Option FdBits
bits_named w =
    if bytes_eq w (codes "none") then Some (fd_bits false false) else
    if bytes_eq w (codes "read") then Some (fd_bits true false) else
    if bytes_eq w (codes "append") then Some (fd_bits false true) else
    if bytes_eq w (codes "both") then Some (fd_bits true true) else None

-- ---- hexadecimal digits

abbrev pub is_decimal : ℕ → Bool
is_decimal c = nat_le 48 c && nat_le c 57

-- `a` to `f`
abbrev pub is_hex_letter : ℕ → Bool
is_hex_letter c = nat_le 97 c && nat_le c 102

abbrev pub is_lower_hex : ℕ → Bool
is_lower_hex c = is_decimal c || is_hex_letter c

-- pairs of digits
abbrev pub is_hex : List ℕ → Bool
is_hex text = length text % 2 == 0 && list_all is_lower_hex text

-- the value of a digit, and 0 of any other byte
abbrev pub digit : ℕ → ℕ
digit c = if is_decimal c then c - 48 else (if is_hex_letter c then c - 87 else 0)

-- the bytes that pairs of digits encode
abbrev pub hex_bytes : List ℕ → List ℕ
hex_bytes [] = []
hex_bytes (c ∷ []) = []
hex_bytes (c ∷ d ∷ rest) = (16 * digit c + digit d) ∷ hex_bytes rest

-- ---- the kinds of values

abbrev pub are_tables : Items → Bool
are_tables no_items = true
are_tables (item d ds) = is_some (as_table d) && are_tables ds

-- whether there is a value, and it passes a test
abbrev pub some_passes : {X : Type 0} → (X → Bool) → Option X → Bool
some_passes test None = false
some_passes test (Some x) = test x

-- whether a string is of a kind that is no number and no array
abbrev pub word_fits : Kind → List ℕ → Bool
word_fits kind.Hex w = is_hex w
word_fits kind.Right w = is_some (right_named w)
word_fits kind.Stream w = is_some (stream_named w)
word_fits kind.Bits w = is_some (bits_named w)
word_fits k w = true

abbrev pub value_fits : Kind → Data → Bool
value_fits kind.Number d = is_some (u32_value d)
value_fits kind.Tables d = some_passes are_tables (as_array d)
value_fits k d = some_passes (word_fits k) (as_str d)

-- ---- the value at a key of a table

abbrev pub value_at : Key → Members → Option Data
value_at k ms = get_member (name_of k) ms

abbrev pub has_key : Key → Members → Bool
has_key k ms = is_some (value_at k ms)

-- its number, or another where there is none
abbrev pub number_at_key : Key → ℕ → Members → ℕ
number_at_key k other ms = unwrap_or (option_and_then u32_value (value_at k ms)) other

-- its string, or no bytes where there is none
abbrev pub text_at : Key → Members → List ℕ
text_at k ms = unwrap_or (option_and_then as_str (value_at k ms)) []

abbrev pub tables_of : Items → List Members
tables_of no_items = []
tables_of (item d ds) = option_to_list (as_table d) ++ tables_of ds

abbrev pub tables_in : Option Items → List Members
tables_in None = []
tables_in (Some ds) = tables_of ds

-- its tables, or none
abbrev pub tables_at : Key → Members → List Members
tables_at k ms = tables_in (option_and_then as_array (value_at k ms))
