-- The plain record of an image, and the layout of the address space.
use Rattle.std.specs.Prelude.{ℕ, zero, suc, ◌+◌, ◌-◌, ◌*◌, ◌/◌, ◌%◌, ◌^◌, ◌==◌, Bool, ◌&&◌, List, [], ◌∷◌, length, find, slice_get, slice_index, Option, Some, None, option_map, unwrap_or, nat_le, nat_lt, if◌then◌else◌}
use Rattle.std.specs.List.{list_any}
use Rattle.wedge_base.specs.declared.address.Place.{Place}
use Rattle.wedge_base.specs.declared.image.Procedure.{Procedure}
use Rattle.wedge_base.specs.declared.image.MemoryRange.{MemoryRange}
use Rattle.wedge_base.specs.declared.image.TagEntry.{TagEntry}
use Rattle.wedge_base.specs.declared.image.FdEntry.{FdEntry}
use Rattle.wedge_base.specs.declared.image.FileEntry.{FileEntry}

pub record Image : Type 0 where
  pub fuel : ℕ
  pub base : ℕ
  pub words : List ℕ
  pub procedures : List Procedure
  pub entry : ℕ
  pub ranges : List MemoryRange
  pub tags : List TagEntry
  pub fds : List FdEntry
  pub files : List FileEntry
  pub user : ℕ
  pub root : List ℕ

-- whether so many bytes from an address on lie in the text
abbrev pub in_text : Image → ℕ → ℕ → Bool
in_text i address n = nat_le i.base address && nat_le (address + n) (i.base + 4 * length i.words)

-- the word at an address, if the address is in the text
abbrev pub fetch : Image → ℕ → Option ℕ
fetch i pc = if in_text i pc 4 then slice_get i.words ((pc - i.base) / 4) else None

-- the byte of the text at an address: the words are little-endian
abbrev pub text_byte : Image → ℕ → ℕ
text_byte i address = slice_index i.words ((address - i.base) / 4) / 256 ^ ((address - i.base) % 4) % 256

-- so many bytes of the text, from an address on
abbrev pub read_text : Image → ℕ → ℕ → List ℕ
read_text i address zero = []
read_text i address (suc n) = text_byte i address ∷ read_text i (address + 1) n

-- whether an address is that of a word of a text, which has `count` words, the first at `base`
abbrev pub is_text_address : ℕ → ℕ → ℕ → Bool
is_text_address base count address =
    address % 4 == 0 && nat_le base address && nat_lt address (base + 4 * count)

-- whether one of the procedures begins at an address
abbrev pub begins_at : List Procedure → ℕ → Bool
begins_at ps address = list_any (λ p. p.address == address) ps

-- the name of the procedure at an address, or nothing
abbrev pub procedure_name : Image → ℕ → List ℕ
procedure_name i address = unwrap_or (option_map (λ p. p.name) (find (λ p. p.address == address) i.procedures)) []

-- where the private range (stack and heap) begins, and how many bytes it has
abbrev pub private_base : ℕ
private_base = 0x20000000

abbrev pub private_size : ℕ
private_size = 0x20000

-- how many slots there are, the bytes of a window, and those of a page
abbrev pub slots : ℕ
slots = 4096

abbrev pub window : ℕ
window = 0x10000

abbrev pub page : ℕ
page = 4096

-- the most pages of a tag
abbrev pub most_pages : ℕ
most_pages = 16

abbrev pub windows_base : ℕ
windows_base = 0x40000000

-- the slot in whose window an address lies, and the offset in it
abbrev pub slot_of : ℕ → Option Place
slot_of address =
    if nat_le windows_base address && nat_lt address (windows_base + slots * window)
    then Some (record { slot = (address - windows_base) / window; offset = (address - windows_base) % window })
    else None

-- the address of an offset in a slot's window
abbrev pub address_of : ℕ → ℕ → ℕ
address_of slot offset = windows_base + slot * window + offset
