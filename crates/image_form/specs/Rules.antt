-- What an image is: the rules that its parts meet.
use Rattle.std.specs.Prelude.{◌≡◌, ℕ, ◌+◌, ◌*◌, ◌%◌, ◌^◌, ◌<◌, ◌≤◌, Bool, true, ◌==◌, ◌&&◌, ◌||◌, not, List, [], ◌∷◌, ◌++◌, length, map, IsTrue, nat_le}
use Rattle.std.specs.List.{AllByRecursion, sum_by}
use Rattle.wedge_base.specs.Images.{Image, begins_at, page, most_pages}
use Rattle.wedge_base.specs.Maps.{is_among}
use Rattle.wedge_base.specs.declared.image.Procedure.{Procedure}
use Rattle.wedge_base.specs.declared.image.MemoryRange.{MemoryRange}
use Rattle.wedge_base.specs.declared.image.TagEntry.{TagEntry}
use Rattle.wedge_base.specs.declared.image.FdEntry.{FdEntry}
use Rattle.wedge_base.specs.declared.image.FileEntry.{FileEntry}
use Rattle.wedge_base.specs.declared.rights.StreamKind.{StreamKind}
use Rattle.wedge_base.specs.declared.rights.StreamKind.TheVariants as kind
use Rattle.image_form.specs.Encoding.{encoding, most_bytes}
use Rattle.wedge_base.specs.Texts.{is_name}
use Rattle.image_form.specs.Forms.{is_entry_path, is_root, ascend}

-- ---- limits

abbrev pub most_fuel : ℕ
most_fuel = 16777216

-- text and data lie in [low_end, high_end)
abbrev pub low_end : ℕ
low_end = 0x10000

abbrev pub high_end : ℕ
high_end = 0x10000000

abbrev pub most_procedures : ℕ
most_procedures = 4096

abbrev pub most_ranges : ℕ
most_ranges = 16

-- the bytes of all data ranges together
abbrev pub most_range_bytes : ℕ
most_range_bytes = 0x100000

abbrev pub most_tags : ℕ
most_tags = 256

abbrev pub most_declared_fds : ℕ
most_declared_fds = 64

abbrev pub most_files : ℕ
most_files = 1024

-- ---- the text and its procedures

-- a text: its words, the first at the base
pub record IsText (base : ℕ) (words : List ℕ) : Type 0 where
  pub base_aligned : base % 4 ≡ 0
  pub base_low : low_end ≤ base
  pub base_high : base < high_end
  pub some_word : 1 ≤ length words
  pub end_high : base + 4 * length words ≤ high_end
  pub words_fit : AllByRecursion (λ w. w < 2 ^ 32) words

-- a procedure of a text that has so many words, the first at the base
pub record IsProcedure (base count : ℕ) (p : Procedure) : Type 0 where
  pub named : IsTrue (is_name p.name)
  pub aligned : p.address % 4 ≡ 0
  pub above : base ≤ p.address
  pub below : p.address < base + 4 * count

-- whether each number differs from those before it, and from those that are given
abbrev pub differ_from : List ℕ → List ℕ → Bool
differ_from before [] = true
differ_from before (n ∷ ns) = not (is_among before n) && differ_from (before ++ n ∷ []) ns

abbrev pub addresses : List Procedure → List ℕ
addresses ps = map (λ p. p.address) ps

pub record AreProcedures (base count : ℕ) (ps : List Procedure) : Type 0 where
  pub not_too_many : length ps ≤ most_procedures
  pub each : AllByRecursion (IsProcedure base count) ps
  pub names_ascend : IsTrue (ascend (map (λ p. p.name) ps))
  pub addresses_differ : IsTrue (differ_from [] (addresses ps))
  pub one_at_base : IsTrue (begins_at ps base)

-- ---- data

pub record IsRange (r : MemoryRange) : Type 0 where
  pub base_aligned : r.base % 4 ≡ 0
  pub base_low : low_end ≤ r.base
  pub length_aligned : length r.bytes % 4 ≡ 0
  pub some_byte : 1 ≤ length r.bytes
  pub end_high : r.base + length r.bytes ≤ high_end

abbrev pub range_end : MemoryRange → ℕ
range_end r = r.base + length r.bytes

-- whether n bytes at an address share none with the text, which has `count` words at `base`
abbrev pub is_off_text : ℕ → ℕ → ℕ → ℕ → Bool
is_off_text base count address n = nat_le (address + n) base || nat_le (base + 4 * count) address

-- whether each range begins no earlier than the one before it ends, the first no earlier than a
-- given end, and none shares a byte with the text
abbrev pub lie_apart : ℕ → ℕ → ℕ → List MemoryRange → Bool
lie_apart base count before [] = true
lie_apart base count before (r ∷ rs) =
    nat_le before r.base && is_off_text base count r.base (length r.bytes) && lie_apart base count (range_end r) rs

pub record AreRanges (base count : ℕ) (rs : List MemoryRange) : Type 0 where
  pub not_too_many : length rs ≤ most_ranges
  pub each : AllByRecursion IsRange rs
  pub bytes_in_all : sum_by (λ r. length r.bytes) rs ≤ most_range_bytes
  pub apart : IsTrue (lie_apart base count 0 rs)

-- ---- tags, descriptors and files

pub record IsTag (t : TagEntry) : Type 0 where
  pub named : IsTrue (is_name t.name)
  pub some_page : 1 ≤ t.pages
  pub not_too_many_pages : t.pages ≤ most_pages
  pub content_fits : length t.content ≤ t.pages * page

pub record AreTags (ts : List TagEntry) : Type 0 where
  pub not_too_many : length ts ≤ most_tags
  pub each : AllByRecursion IsTag ts
  pub names_ascend : IsTrue (ascend (map (λ t. t.name) ts))

-- an append stream begins with no bytes
abbrev pub may_hold : StreamKind → ℕ → Bool
may_hold kind.Source n = true
may_hold kind.Append n = n == 0

pub record IsFd (f : FdEntry) : Type 0 where
  pub named : IsTrue (is_name f.name)
  pub content_suits : IsTrue (may_hold f.kind (length f.content))
  pub length_fits : length f.content < 2 ^ 32

pub record AreFds (fs : List FdEntry) : Type 0 where
  pub not_too_many : length fs ≤ most_declared_fds
  pub each : AllByRecursion IsFd fs
  pub names_ascend : IsTrue (ascend (map (λ f. f.name) fs))

pub record IsFile (f : FileEntry) : Type 0 where
  pub canonical : IsTrue (is_entry_path f.path)
  pub owner_fits : f.owner < 2 ^ 32
  pub mode_fits : f.mode < 16
  pub content_suits : IsTrue (may_hold f.kind (length f.content))
  pub length_fits : length f.content < 2 ^ 32

pub record AreFiles (fs : List FileEntry) : Type 0 where
  pub not_too_many : length fs ≤ most_files
  pub each : AllByRecursion IsFile fs
  pub paths_ascend : IsTrue (ascend (map (λ f. f.path) fs))

-- ---- the whole

pub record IsImage (i : Image) : Type 0 where
  pub fuel_small : i.fuel ≤ most_fuel
  pub text : IsText i.base i.words
  pub procedures : AreProcedures i.base (length i.words) i.procedures
  pub entry_is_procedure : IsTrue (begins_at i.procedures i.entry)
  pub ranges : AreRanges i.base (length i.words) i.ranges
  pub tags : AreTags i.tags
  pub fds : AreFds i.fds
  pub files : AreFiles i.files
  pub user_fits : i.user < 2 ^ 32
  pub root_canonical : IsTrue (is_root i.root)
  pub small : length (encoding i) ≤ most_bytes

-- the bytes are the one encoding of the image, which meets every rule
pub record Encodes (i : Image) (bytes : List ℕ) : Type 0 where
  pub valid : IsImage i
  pub encoded : bytes ≡ encoding i
