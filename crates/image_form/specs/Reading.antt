-- Reading bytes as an image: its fields from left to right, or the first fault.
use Rattle.std.specs.Prelude.{◌≡◌, ℕ, zero, suc, ◌+◌, ◌-◌, ◌*◌, ◌%◌, Bool, not, ◌&&◌, List, [], ◌∷◌, ◌++◌, length, take, drop, slice_get, Option, Some, None, Result, Ok, Err, nat_le, nat_lt, ◌==◌, if◌then◌else◌}
use Rattle.std.specs.List.{sum_by}
use Rattle.std.specs.Option.{option_map_or}
use Rattle.std.specs.Int.{w16, w32, from_le_bytes}
use Rattle.wedge_base.specs.Images.{Image, is_text_address, begins_at, page, most_pages}
use Rattle.wedge_base.specs.declared.image.Procedure.{Procedure}
use Rattle.wedge_base.specs.declared.image.MemoryRange.{MemoryRange}
use Rattle.wedge_base.specs.declared.image.TagEntry.{TagEntry}
use Rattle.wedge_base.specs.declared.image.FdEntry.{FdEntry}
use Rattle.wedge_base.specs.declared.image.FileEntry.{FileEntry}
use Rattle.wedge_base.specs.declared.rights.Right.{Right}
use Rattle.wedge_base.specs.declared.rights.Right.TheVariants as right
use Rattle.wedge_base.specs.declared.rights.FdBits.{FdBits}
use Rattle.wedge_base.specs.declared.rights.StreamKind.{StreamKind}
use Rattle.wedge_base.specs.declared.rights.StreamKind.TheVariants as kind
use Rattle.image_form.specs.declared.fault.Fault.{Fault}
use Rattle.image_form.specs.declared.fault.Why.{Why}
use Rattle.image_form.specs.declared.fault.Why.TheVariants.{Magic, Version, Truncated, Trailing, Order, Range, Overlap, Limit}
use Rattle.image_form.specs.declared.fault.ImageError.{ImageError}
use Rattle.image_form.specs.declared.fault.ImageError.TheVariants as error
use Rattle.image_form.specs.Encoding.{most_bytes, magic, version}
use Rattle.wedge_base.specs.Texts.{is_name}
use Rattle.image_form.specs.Forms.{is_entry_path, is_root, is_below}
use Rattle.wedge_base.specs.Maps.{is_among}
use Rattle.image_form.specs.Rules.{most_fuel, low_end, high_end, most_procedures, most_ranges, most_range_bytes, most_tags, most_declared_fds, most_files, addresses, range_end, is_off_text, may_hold}

-- ---- what reading gives

-- a value and the bytes after it, or the first fault
abbrev pub Read : Type 0 → Type 0
Read X = Result (X × List ℕ) Fault

-- a fault at an offset
abbrev pub refuse : {X : Type 0} → ℕ → Why → Result X Fault
refuse at why = Err (record { at = at; why = why })

-- one field after another
infixl 10 ◌>>=◌
abbrev pub ◌>>=◌ : {X Y : Type 0} → Read X → (X → List ℕ → Result Y Fault) → Result Y Fault
(Ok x) >>= next = next x.0 x.1
(Err e) >>= next = Err e

-- what follows, if a test is passed
abbrev pub demand : {Y : Type 0} → Bool → ℕ → Why → Result Y Fault → Result Y Fault
demand test at why next = if test then next else refuse at why

-- the offset of the unread bytes in a file of `total` bytes
abbrev pub place : ℕ → List ℕ → ℕ
place total rest = total - length rest

-- the fault of an answer is the one that reading gives, unless memory ran out
abbrev pub IsImageError : {Y : Type 0} → ImageError → Result Y Fault → Type 0
IsImageError error.NoMemory read = Unit {0}
IsImageError (error.Fault f) read = read ≡ Err f

-- What a function answered, seen by view, is what reading gives, unless memory ran out.
abbrev pub IsImageAnswer : {X Y : Type 0} → (X → Y) → Result X ImageError → Result Y Fault → Type 0
IsImageAnswer view (Ok x) read = read ≡ Ok (view x)
IsImageAnswer view (Err e) read = IsImageError e read

-- ---- fields

-- the next n bytes, or `truncated` at their offset
unfoldable pub bytes_at : ℕ → ℕ → List ℕ → Read (List ℕ)
bytes_at total n bytes = demand (nat_le n (length bytes)) (place total bytes) Truncated (Ok (take n bytes, drop n bytes))

unfoldable pub number_at : ℕ → List ℕ → Read ℕ
number_at total bytes = bytes_at total 4 bytes >>= λ front rest. Ok (from_le_bytes w32 front, rest)

unfoldable pub short_at : ℕ → List ℕ → Read ℕ
short_at total bytes = bytes_at total 2 bytes >>= λ front rest. Ok (from_le_bytes w16 front, rest)

-- a number that passes a test
unfoldable pub checked_at : (ℕ → Bool) → Why → ℕ → List ℕ → Read ℕ
checked_at test why total bytes = number_at total bytes >>= λ n rest. demand (test n) (place total bytes) why (Ok (n, rest))

-- a number that is at most a limit
abbrev pub limited_at : ℕ → ℕ → List ℕ → Read ℕ
limited_at most = checked_at (λ n. nat_le n most) Limit

unfoldable pub string_at : ℕ → List ℕ → Read (List ℕ)
string_at total bytes = short_at total bytes >>= λ n rest. bytes_at total n rest

-- a string of a form
unfoldable pub formed_at : (List ℕ → Bool) → ℕ → List ℕ → Read (List ℕ)
formed_at form total bytes = string_at total bytes >>= λ text rest. demand (form text) (place total bytes) Range (Ok (text, rest))

-- a string of a form that is above the one before it, in byte order
unfoldable pub key_at : (List ℕ → Bool) → List ℕ → ℕ → List ℕ → Read (List ℕ)
key_at form before total bytes = formed_at form total bytes >>= λ text rest. demand (is_below before text) (place total bytes) Order (Ok (text, rest))

-- bytes after a length that passes a test
unfoldable pub content_at : (ℕ → Bool) → ℕ → List ℕ → Read (List ℕ)
content_at test total bytes = checked_at test Range total bytes >>= λ n rest. bytes_at total n rest

-- ---- tables

-- n entries; how one is read depends on those before it
unfoldable pub entries_at : {X : Type 0} → (List X → List ℕ → Read X) → ℕ → List X → List ℕ → Read (List X)
entries_at entry zero front bytes = Ok ([], bytes)
entries_at entry (suc n) front bytes =
    entry front bytes >>= λ x rest.
    entries_at entry n (front ++ x ∷ []) rest >>= λ xs rest. Ok (x ∷ xs, rest)

-- entries after their count, which is at most a limit
unfoldable pub table_at : {X : Type 0} → ℕ → (List X → List ℕ → Read X) → ℕ → List ℕ → Read (List X)
table_at most entry total bytes = limited_at most total bytes >>= λ n rest. entries_at entry n [] rest

-- what the last entry has, or a given value where there is no entry
abbrev pub last_of : {X Y : Type 0} → (X → Y) → Y → List X → Y
last_of has none xs = option_map_or has (slice_get xs (length xs - 1)) none

-- ---- the text and its procedures

-- whether text or data may begin at an address
abbrev pub is_base : ℕ → Bool
is_base n = n % 4 == 0 && nat_le low_end n && nat_lt n high_end

abbrev pub is_word_count : ℕ → ℕ → Bool
is_word_count base n = nat_le 1 n && nat_le (base + 4 * n) high_end

unfoldable pub words_at : ℕ → ℕ → List ℕ → Read (List ℕ)
words_at base total bytes = checked_at (is_word_count base) Range total bytes >>= λ n rest. entries_at (λ front. number_at total) n [] rest

unfoldable pub address_at : ℕ → ℕ → List Procedure → ℕ → List ℕ → Read ℕ
address_at base count front total bytes =
    checked_at (is_text_address base count) Range total bytes >>= λ n rest.
    demand (not (is_among (addresses front) n)) (place total bytes) Overlap (Ok (n, rest))

unfoldable pub procedure_at : ℕ → ℕ → ℕ → List Procedure → List ℕ → Read Procedure
procedure_at base count total front bytes =
    key_at is_name (last_of (λ p. p.name) [] front) total bytes >>= λ name rest.
    address_at base count front total rest >>= λ address rest.
    Ok (record { name = name; address = address }, rest)

unfoldable pub procedures_at : ℕ → ℕ → ℕ → List ℕ → Read (List Procedure)
procedures_at base count total bytes =
    table_at most_procedures (procedure_at base count total) total bytes >>= λ ps rest.
    demand (begins_at ps base) (place total bytes) Range (Ok (ps, rest))

-- ---- data

abbrev pub is_range_length : ℕ → ℕ → Bool
is_range_length base n = n % 4 == 0 && nat_le 1 n && nat_le (base + n) high_end

-- the length of a range that begins at a base: its own rules first, then the sum of all lengths
unfoldable pub range_length_at : ℕ → List MemoryRange → ℕ → List ℕ → Read ℕ
range_length_at base front total bytes =
    checked_at (is_range_length base) Range total bytes >>= λ n rest.
    demand (nat_le (sum_by (λ r. length r.bytes) front + n) most_range_bytes) (place total bytes) Limit (Ok (n, rest))

unfoldable pub range_entry_at : ℕ → ℕ → ℕ → List MemoryRange → List ℕ → Read MemoryRange
range_entry_at base count total front bytes =
    checked_at is_base Range total bytes >>= λ start rest.
    range_length_at start front total rest >>= λ n rest.
    demand (nat_le (last_of range_end 0 front) start && is_off_text base count start n) (place total bytes) Overlap (
    bytes_at total n rest >>= λ content rest.
    Ok (record { base = start; bytes = content }, rest))

unfoldable pub ranges_at : ℕ → ℕ → ℕ → List ℕ → Read (List MemoryRange)
ranges_at base count total bytes = table_at most_ranges (range_entry_at base count total) total bytes

-- ---- tags, descriptors and files

abbrev pub right_from_code : ℕ → Option Right
right_from_code zero = None
right_from_code (suc zero) = Some right.Cow
right_from_code (suc (suc zero)) = Some right.Read
right_from_code (suc (suc (suc n))) = Some right.ReadWrite

unfoldable pub right_at : ℕ → List ℕ → Read (Option Right)
right_at total bytes = checked_at (λ n. nat_le n 3) Range total bytes >>= λ n rest. Ok (right_from_code n, rest)

abbrev pub is_page_count : ℕ → Bool
is_page_count n = nat_le 1 n && nat_le n most_pages

unfoldable pub tag_at : ℕ → List TagEntry → List ℕ → Read TagEntry
tag_at total front bytes =
    key_at is_name (last_of (λ t. t.name) [] front) total bytes >>= λ name rest.
    checked_at is_page_count Range total rest >>= λ pages rest.
    right_at total rest >>= λ right rest.
    content_at (λ n. nat_le n (pages * page)) total rest >>= λ content rest.
    Ok (record { name = name; pages = pages; right = right; content = content }, rest)

unfoldable pub tags_at : ℕ → List ℕ → Read (List TagEntry)
tags_at total bytes = table_at most_tags (tag_at total) total bytes

abbrev pub kind_from_code : ℕ → StreamKind
kind_from_code zero = kind.Source
kind_from_code (suc n) = kind.Append

unfoldable pub kind_at : ℕ → List ℕ → Read StreamKind
kind_at total bytes = checked_at (λ n. nat_le n 1) Range total bytes >>= λ n rest. Ok (kind_from_code n, rest)

abbrev pub bits_from_code : ℕ → FdBits
bits_from_code n = record { read = n % 2 == 1; append = nat_le 2 n }

unfoldable pub bits_at : ℕ → List ℕ → Read FdBits
bits_at total bytes = checked_at (λ n. nat_le n 3) Range total bytes >>= λ n rest. Ok (bits_from_code n, rest)

unfoldable pub fd_at : ℕ → List FdEntry → List ℕ → Read FdEntry
fd_at total front bytes =
    key_at is_name (last_of (λ f. f.name) [] front) total bytes >>= λ name rest.
    kind_at total rest >>= λ kind rest.
    bits_at total rest >>= λ bits rest.
    content_at (may_hold kind) total rest >>= λ content rest.
    Ok (record { name = name; kind = kind; bits = bits; content = content }, rest)

unfoldable pub fds_at : ℕ → List ℕ → Read (List FdEntry)
fds_at total bytes = table_at most_declared_fds (fd_at total) total bytes

unfoldable pub file_entry_at : ℕ → List FileEntry → List ℕ → Read FileEntry
file_entry_at total front bytes =
    key_at is_entry_path (last_of (λ f. f.path) [] front) total bytes >>= λ path rest.
    number_at total rest >>= λ owner rest.
    checked_at (λ n. nat_le n 15) Range total rest >>= λ mode rest.
    kind_at total rest >>= λ kind rest.
    content_at (may_hold kind) total rest >>= λ content rest.
    Ok (record { path = path; owner = owner; mode = mode; kind = kind; content = content }, rest)

unfoldable pub files_at : ℕ → List ℕ → Read (List FileEntry)
files_at total bytes = table_at most_files (file_entry_at total) total bytes

-- ---- the whole

-- the fuel, after the magic number and the version
unfoldable pub header_at : ℕ → List ℕ → Read ℕ
header_at total bytes =
    checked_at (λ n. n == magic) Magic total bytes >>= λ m rest.
    checked_at (λ n. n == version) Version total rest >>= λ v rest.
    limited_at most_fuel total rest

unfoldable pub image_at : ℕ → List ℕ → Read Image
image_at total bytes =
    header_at total bytes >>= λ fuel rest.
    checked_at is_base Range total rest >>= λ base rest.
    words_at base total rest >>= λ words rest.
    procedures_at base (length words) total rest >>= λ procedures rest.
    checked_at (begins_at procedures) Range total rest >>= λ entry rest.
    ranges_at base (length words) total rest >>= λ ranges rest.
    tags_at total rest >>= λ tags rest.
    fds_at total rest >>= λ fds rest.
    files_at total rest >>= λ files rest.
    number_at total rest >>= λ user rest.
    formed_at is_root total rest >>= λ root rest.
    Ok (
      record {
        fuel = fuel;
        base = base;
        words = words;
        procedures = procedures;
        entry = entry;
        ranges = ranges;
        tags = tags;
        fds = fds;
        files = files;
        user = user;
        root = root;
      },
      rest,
    )

-- what all the bytes encode, or their first fault
unfoldable pub reading : List ℕ → Result Image Fault
reading bytes =
    demand (nat_le (length bytes) most_bytes) most_bytes Limit (
    image_at (length bytes) bytes >>= λ image rest.
    demand (length rest == 0) (place (length bytes) rest) Trailing (Ok image))
