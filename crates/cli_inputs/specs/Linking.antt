-- The bytes of the image that an ELF file and a partition are joined to, as a function of the bytes
-- of both.
use Rattle.std.specs.Prelude.{◌≡◌, ℕ, List, length, Result, Ok, Err, nat_lt, if◌then◌else◌}
use Rattle.std.specs.Str.{is_utf8}
use Rattle.wedge_base.specs.Images.{Image}
use Rattle.image_form.specs.Encoding.{encoding}
use Rattle.image_form.specs.Rules.{Encodes}
use Rattle.elf_in.specs.Program.{Program}
use Rattle.elf_in.specs.Reading.{elf_program}
use Rattle.elf_in.specs.Laws.{KeepsLoads}
use Rattle.elf_in.specs.declared.fault.Fault.{Fault as ElfFault}
use Rattle.part_toml.specs.Faults.{Refusal as Meant}
use Rattle.part_toml.specs.Joining.{partition_with, Joins}
use Rattle.cli_inputs.specs.declared.refusal.Refusal.{Refusal}
use Rattle.cli_inputs.specs.declared.refusal.Refusal.TheVariants as refusal
use Rattle.cli_inputs.specs.declared.refusal.PartRefusal.TheVariants as part
use Rattle.cli_inputs.specs.Refusals.{as_unjoined}
use Rattle.cli_inputs.specs.Loading.{most_partition}

-- the program of an ELF file
abbrev pub program_by : Result Program ElfFault → Result Program Refusal
program_by (Ok p) = Ok p
program_by (Err fault) = Err (refusal.Elf fault)

abbrev pub by_joining : Result Image Meant → Result Image Refusal
by_joining (Ok i) = Ok i
by_joining (Err r) = Err (as_unjoined r)

-- the image of a program and a partition: the partition's file is UTF-8, and not too long
unfoldable pub joined_of : Program → List ℕ → Result Image Refusal
joined_of program bytes =
    if nat_lt most_partition (length bytes) then Err (refusal.Partition part.Limit)
    else if is_utf8 bytes then by_joining (partition_with program bytes)
    else Err (refusal.Partition part.Toml)

abbrev pub encoding_by : Result Image Refusal → Result (List ℕ) Refusal
encoding_by (Ok i) = Ok (encoding i)
encoding_by (Err why) = Err why

abbrev pub link_with : Result Program Refusal → List ℕ → Result (List ℕ) Refusal
link_with (Ok program) bytes = encoding_by (joined_of program bytes)
link_with (Err why) bytes = Err why

-- the checks of the ELF file come first, then those of the partition, and then those of the image
abbrev pub link_text : List ℕ → List ℕ → Result (List ℕ) Refusal
link_text elf bytes = link_with (program_by (elf_program elf)) bytes

-- a partition that can't be joined to the program of an ELF file
pub record IsUnjoined (elf bytes : List ℕ) : Type 0 where
  pub program : Program
  pub accepted : elf_program elf ≡ Ok program
  pub why : Refusal
  pub rejected : joined_of program bytes ≡ Err why

-- bytes encode an image with the text, the data, the procedures and the entry of a program
pub record IsJoinedImage (program : Program) (bytes : List ℕ) : Type 0 where
  pub image : Image
  pub joins : Joins program image
  pub encoded : Encodes image bytes

-- and that program is the one of an ELF file: its text and data have the bytes of the file's loads
pub record IsLinkedImage (elf bytes : List ℕ) : Type 0 where
  pub program : Program
  pub accepted : elf_program elf ≡ Ok program
  pub keeps : KeepsLoads elf program
  pub joined : IsJoinedImage program bytes
