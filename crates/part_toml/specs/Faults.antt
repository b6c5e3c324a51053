-- What is wrong with the tables of a partition.
use Rattle.std.specs.Prelude.{ℕ, Bool, false, not, ◌&&◌, ◌||◌, List, [], ◌∷◌, ◌++◌, map, filter, fold, Option, Some, None, if◌then◌else◌}
use Rattle.std.specs.Option.{option_or}
use Rattle.std.specs.List.{list_any}
use Rattle.std.specs.Str.{bytes_eq}
use Rattle.toml.specs.Data.{Members, no_members, member}
use Rattle.image_form.specs.Forms.{is_below}
use Rattle.image_form.specs.declared.fault.Why.{Why as ImageWhy}
use Rattle.rv_asm.specs.declared.fault.Why.{Why as AsmWhy}
use Rattle.part_toml.specs.declared.keys.Part.{Part}
use Rattle.part_toml.specs.declared.keys.Part.TheVariants as part
use Rattle.part_toml.specs.declared.keys.Key.TheVariants as key
use Rattle.part_toml.specs.declared.keys.Field.{Field}
use Rattle.part_toml.specs.Keys.{name_of, part_fields, prefix}
use Rattle.part_toml.specs.Values.{value_at, has_key, some_passes, value_fits, tables_at}

-- why a partition is rejected
pub data Refusal : Type 0 where
  -- the text is no TOML document
  Toml : Refusal
  -- a key that is missing or unknown, or `hex` where content is given twice, or not at all in data
  Key : List ℕ → Refusal
  -- a value that its key can't have
  Kind : List ℕ → Refusal
  -- the assembler's: a line, and what is wrong with it
  Asm : ℕ → AsmWhy → Refusal
  -- the image's: an offset in the bytes that would be written, and what is wrong there
  Image : ℕ → ImageWhy → Refusal

-- ---- the least of names in byte order

abbrev pub lesser : Option (List ℕ) → List ℕ → Option (List ℕ)
lesser None n = Some n
lesser (Some m) n = if is_below n m then Some n else Some m

abbrev pub least : List (List ℕ) → Option (List ℕ)
least names = fold lesser None names

-- ---- the keys of a table

abbrev pub member_keys : Members → List (List ℕ)
member_keys no_members = []
member_keys (member k d ms) = k ∷ member_keys ms

abbrev pub is_missing : Members → Field → Bool
is_missing ms f = f.required && not (has_key f.key ms)

-- the names of the keys that must be there, and are not
abbrev pub missing : List Field → Members → List (List ℕ)
missing fs ms = map (λ f. name_of f.key) (filter (is_missing ms) fs)

abbrev pub is_field_name : List Field → List ℕ → Bool
is_field_name fs n = list_any (λ f. bytes_eq (name_of f.key) n) fs

-- the keys that are there, and that no table of its kind has
abbrev pub unknown : List Field → Members → List (List ℕ)
unknown fs ms = filter (λ n. not (is_field_name fs n)) (member_keys ms)

-- whether a table has not the keys of content that it may have: data have one of `text` and `hex`,
-- and the others at most one
abbrev pub is_content_wrong : Part → Bool → Bool → Bool
is_content_wrong part.Top text hex = false
is_content_wrong part.Joined text hex = false
is_content_wrong part.Data text hex = (text && hex) || (not text && not hex)
is_content_wrong p text hex = text && hex

abbrev pub content_fault : Part → Members → List (List ℕ)
content_fault p ms = if is_content_wrong p (has_key key.Text ms) (has_key key.Hex ms) then name_of key.Hex ∷ [] else []

abbrev pub first_key_fault : Part → Members → Option (List ℕ)
first_key_fault p ms = least (content_fault p ms ++ missing (part_fields p) ms ++ unknown (part_fields p) ms)

-- ---- the values of a table

abbrev pub is_wrong : Members → Field → Bool
is_wrong ms f = some_passes (λ d. not (value_fits f.kind d)) (value_at f.key ms)

abbrev pub first_kind_fault : Part → Members → Option (List ℕ)
first_kind_fault p ms = least (map (λ f. name_of f.key) (filter (is_wrong ms) (part_fields p)))

-- ---- tables

abbrev pub full_name : Part → List ℕ → List ℕ
full_name p n = prefix p ++ n

-- of a table its keys first, and then their values
abbrev pub named_fault : Part → Option (List ℕ) → Option (List ℕ) → Option Refusal
named_fault p (Some n) wrong = Some (Key (full_name p n))
named_fault p None (Some n) = Some (Kind (full_name p n))
named_fault p None None = None

unfoldable pub table_fault : Part → Members → Option Refusal
table_fault p ms = named_fault p (first_key_fault p ms) (first_kind_fault p ms)

-- of tables the first that is invalid
abbrev pub tables_fault : Part → List Members → Option Refusal
tables_fault p [] = None
tables_fault p (ms ∷ rest) = option_or (table_fault p ms) (tables_fault p rest)

-- the top table, of a kind, and then each array of tables
unfoldable pub document_fault : Part → Members → Option Refusal
document_fault top ms =
    option_or (table_fault top ms) (
    option_or (tables_fault part.Data (tables_at key.Data ms)) (
    option_or (tables_fault part.Tag (tables_at key.Tag ms)) (
    option_or (tables_fault part.Fd (tables_at key.Fd ms)) (
    tables_fault part.File (tables_at key.File ms)))))
