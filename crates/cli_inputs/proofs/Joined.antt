-- The image that a program and a partition are joined to, or why there is none.
use Rattle.std.proofs.Common.{◌≡◌, ℕ, ◌<◌, ◌≤◌, true, false, List, length, refl, ap}
use Rattle.std.specs.Prelude.{Some, None, Result, Ok, Err, nat_le, nat_lt}
use Rattle.std.specs.Str.{IsUtf8}
use Rattle.std.proofs.lemmas.Str.{is_utf8-from_IsUtf8}
use Rattle.std.proofs.lemmas.Bool.{lt-leb, le-ltb, lt-ltb}
use Rattle.wedge_base.specs.Images.{Image}
use Rattle.elf_in.specs.declared.fault.Fault.{Fault as ElfFault}
use Rattle.elf_in.specs.declared.fault.ElfError.{ElfError}
use Rattle.elf_in.specs.declared.fault.ElfError.TheVariants as elf_error
use Rattle.elf_in.specs.Checks.{identity_check}
use Rattle.elf_in.specs.Program.{Program}
use Rattle.elf_in.specs.Reading.{elf_program}
use Rattle.elf_in.specs.Steps.{IsElfError}
use Rattle.part_toml.specs.declared.fault.PartFault.{PartFault}
use Rattle.part_toml.specs.declared.fault.PartFault.TheVariants as fault
use Rattle.part_toml.specs.Faults.{Refusal as Meant}
use Rattle.part_toml.specs.Faults as meant
use Rattle.part_toml.specs.Joining.{partition_with}
use Rattle.part_toml.specs.Partition.{Reports, refusal_in}
use Rattle.cli_inputs.specs.declared.loading.FileKind.TheVariants as kind
use Rattle.cli_inputs.specs.declared.refusal.Refusal.TheVariants as refusal
use Rattle.cli_inputs.specs.declared.refusal.PartRefusal.TheVariants as part
use Rattle.cli_inputs.specs.Refusals.{as_unjoined, elf_refusal_of, joining_refusal_of}
use Rattle.cli_inputs.specs.Loading.{most_of, most_partition, long_elf}
use Rattle.cli_inputs.specs.Replaying.{IsRefusalIn}
use Rattle.cli_inputs.specs.Linking.{program_by, by_joining, joined_of}
use Rattle.cli_inputs.proofs.Partitions.{not_utf8}

-- ---- the ELF file

-- one of too many bytes is rejected
pub long_file : (bytes : List ℕ) → most_of kind.Elf < length bytes → elf_program bytes ≡ Err long_elf
unfolding elf_program identity_check
long_file bytes lt = let long : nat_le (length bytes) (most_of kind.Elf) ≡ false = lt-leb (length bytes) (most_of kind.Elf) lt in rw long refl

-- an error of the code is the fault that is meant
pub rejected_by : (m : Result Program ElfFault) (e : ElfError) → IsElfError e m → IsRefusalIn (program_by m) (elf_refusal_of e)
rejected_by m elf_error.NoMemory h = tt
rejected_by m (elf_error.Fault f) h = ap program_by h

-- ---- the partition

-- bytes that are no UTF-8 are no TOML document
pub joined_not_utf8 : (p : Program) (bytes : List ℕ) → length bytes ≤ most_partition → (IsUtf8 bytes → ⊥) → joined_of p bytes ≡ Err (refusal.Partition part.Toml)
unfolding joined_of
joined_not_utf8 p bytes le h =
    let short : nat_lt most_partition (length bytes) ≡ false = le-ltb most_partition (length bytes) le in
    rw (short, not_utf8 bytes _ refl h) refl

pub joined_utf8 : (p : Program) (bytes : List ℕ) → length bytes ≤ most_partition → IsUtf8 bytes → joined_of p bytes ≡ by_joining (partition_with p bytes)
unfolding joined_of
joined_utf8 p bytes le h =
    let short : nat_lt most_partition (length bytes) ≡ false = le-ltb most_partition (length bytes) le in
    rw (short, is_utf8-from_IsUtf8 bytes h) refl

pub joined_long : (p : Program) (bytes : List ℕ) → most_partition < length bytes → joined_of p bytes ≡ Err (refusal.Partition part.Limit)
unfolding joined_of
joined_long p bytes lt = let long : nat_lt most_partition (length bytes) ≡ true = lt-ltb most_partition (length bytes) lt in rw long refl

pub some_err : (m : Result Image Meant) (r : Meant) → refusal_in m ≡ Some r → by_joining m ≡ Err (as_unjoined r)
some_err (Ok i) r e = let f : None ≡ Some r = e in absurd cc
some_err (Err q) r e = let is : q ≡ r = let f : Some q ≡ Some r = e in cc in ap (λ x. Err (as_unjoined x)) is

-- a fault of the code is what is meant
pub unjoined_by : (m : Result Image Meant) (f : PartFault) → Reports f (refusal_in m) → IsRefusalIn (by_joining m) (joining_refusal_of f)
unjoined_by m fault.NoMemory h = tt
unjoined_by m fault.Toml h = some_err m meant.Toml h
unjoined_by m (fault.Key name) h = some_err m (meant.Key name) h
unjoined_by m (fault.Kind name) h = some_err m (meant.Kind name) h
unjoined_by m (fault.Asm line why) h = some_err m (meant.Asm line why) h
unjoined_by m (fault.Image at why) h = some_err m (meant.Image at why) h
