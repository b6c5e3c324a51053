-- Refusals of images, of partitions and of ELF files.
use Rattle.elf_in.specs.declared.fault.ElfError.{ElfError}
use Rattle.elf_in.specs.declared.fault.ElfError.TheVariants as elf
use Rattle.image_form.specs.declared.fault.ImageError.{ImageError}
use Rattle.image_form.specs.declared.fault.ImageError.TheVariants as error
use Rattle.part_toml.specs.declared.fault.PartFault.{PartFault}
use Rattle.part_toml.specs.declared.fault.PartFault.TheVariants as fault
use Rattle.part_toml.specs.Faults as meant
use Rattle.part_toml.specs.Faults.{Refusal as Meant}
use Rattle.report_text.specs.declared.fault.ScheduleFault.{ScheduleFault}
use Rattle.report_text.specs.declared.fault.ScheduleFault.TheVariants as text
use Rattle.world_turns.specs.declared.error.ReplayFault.{ReplayFault}
use Rattle.world_turns.specs.declared.error.ReplayFault.TheVariants as replay
use Rattle.cli_inputs.specs.declared.refusal.ScheduleRefusal.TheVariants as schedule
use Rattle.cli_inputs.specs.declared.refusal.Refusal.{Refusal}
use Rattle.cli_inputs.specs.declared.refusal.Refusal.TheVariants as refusal
use Rattle.cli_inputs.specs.declared.refusal.PartRefusal.{PartRefusal}
use Rattle.cli_inputs.specs.declared.refusal.PartRefusal.TheVariants as part

-- the refusal of what reading answered
abbrev pub refusal_of : ImageError → Refusal
refusal_of error.NoMemory = refusal.NoMemory
refusal_of (error.Fault fault) = refusal.Image fault

abbrev pub part_refusal_of : PartFault → Refusal
part_refusal_of fault.NoMemory = refusal.NoMemory
part_refusal_of fault.Toml = refusal.Partition part.Toml
part_refusal_of (fault.Key name) = refusal.Partition (part.Key name)
part_refusal_of (fault.Kind name) = refusal.Partition (part.Kind name)
part_refusal_of (fault.Asm line why) = refusal.Partition (part.Asm line why)
part_refusal_of (fault.Image at why) = refusal.Partition (part.Image at why)

abbrev pub elf_refusal_of : ElfError → Refusal
elf_refusal_of elf.NoMemory = refusal.NoMemory
elf_refusal_of (elf.Fault fault) = refusal.Elf fault

-- the refusal of a partition that a program is joined to: what is wrong with the image of both is
-- the image's fault
abbrev pub joining_refusal_of : PartFault → Refusal
joining_refusal_of (fault.Image at why) = refusal.Image (record { at = at; why = why })
joining_refusal_of other = part_refusal_of other

-- the refusal of a text that is no schedule, and of a schedule that has no replay
abbrev pub form_refusal_of : ScheduleFault → Refusal
form_refusal_of text.NoMemory = refusal.NoMemory
form_refusal_of (text.Form at) = refusal.Schedule (schedule.Form at)

abbrev pub replay_refusal_of : ReplayFault → Refusal
replay_refusal_of replay.NoMemory = refusal.NoMemory
replay_refusal_of (replay.BadSchedule at why) = refusal.Schedule (schedule.Replay at why)

-- what is meant by a refused partition
abbrev pub as_refused : Meant → PartRefusal
as_refused meant.Toml = part.Toml
as_refused (meant.Key name) = part.Key name
as_refused (meant.Kind name) = part.Kind name
as_refused (meant.Asm line why) = part.Asm line why
as_refused (meant.Image at why) = part.Image at why

-- and by one that a program is joined to
abbrev pub as_unjoined : Meant → Refusal
as_unjoined (meant.Image at why) = refusal.Image (record { at = at; why = why })
as_unjoined other = refusal.Partition (as_refused other)
