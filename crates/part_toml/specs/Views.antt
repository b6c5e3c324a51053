-- What the code's types stand for.
use Rattle.std.specs.Prelude.{◌≡◌}
use Rattle.toml.specs.Data.{Members}
use Rattle.rv_asm.specs.declared.fault.AsmError.{AsmError}
use Rattle.rv_asm.specs.declared.fault.AsmError.TheVariants as asm
use Rattle.image_form.specs.declared.fault.ImageError.{ImageError}
use Rattle.image_form.specs.declared.fault.ImageError.TheVariants as image
use Rattle.part_toml.specs.declared.entries.Entries.{Entries}
use Rattle.part_toml.specs.declared.fault.PartFault.{PartFault}
use Rattle.part_toml.specs.declared.fault.PartFault.TheVariants as fault
use Rattle.part_toml.specs.Parts.{declared_ranges, tags, fds, files}

-- the entries that the tables of a partition name
pub record AreEntries (e : Entries) (ms : Members) : Type 0 where
  pub ranges : e.ranges.items ≡ declared_ranges ms
  pub tags : e.tags.items ≡ tags ms
  pub fds : e.fds.items ≡ fds ms
  pub files : e.files.items ≡ files ms

-- the faults of the assembler and of an image, as faults of a partition
abbrev pub part_fault_of_asm : AsmError → PartFault
part_fault_of_asm asm.NoMemory = fault.NoMemory
part_fault_of_asm (asm.Fault f) = fault.Asm f.line f.why

abbrev pub part_fault_of_image : ImageError → PartFault
part_fault_of_image image.NoMemory = fault.NoMemory
part_fault_of_image (image.Fault f) = fault.Image f.at f.why
