-- From the bytes of a file to the image that is run, listed or written.
use Rattle.std.specs.Prelude.{◌≡◌, ℕ, ◌<◌, List, length, Option, Result, Ok, Err, nat_lt, if◌then◌else◌}
use Rattle.std.specs.Str.{is_utf8}
use Rattle.wedge_base.specs.Images.{Image}
use Rattle.host_io.specs.Exposed.{WhereExposed}
use Rattle.elf_in.specs.declared.fault.Fault.{Fault as ElfFault}
use Rattle.elf_in.specs.declared.fault.Why.TheVariants as elf_why
use Rattle.elf_in.specs.Checks.{most_elf_bytes as most_elf}
use Rattle.image_form.specs.declared.fault.Fault.{Fault}
use Rattle.image_form.specs.Reading.{reading}
use Rattle.image_form.specs.Encoding.{most_bytes}
use Rattle.image_form.specs.declared.fault.Why.TheVariants.{Limit}
use Rattle.part_toml.specs.Faults.{Refusal as Meant}
use Rattle.part_toml.specs.Partition.{partition}
use Rattle.trace_form.specs.declared.fault.TraceFault.{TraceFault}
use Rattle.trace_form.specs.declared.fault.Why.TheVariants as trace_why
use Rattle.cli_inputs.specs.declared.loading.FileKind.{FileKind}
use Rattle.cli_inputs.specs.declared.loading.FileKind.TheVariants as kind
use Rattle.cli_inputs.specs.declared.refusal.Refusal.{Refusal}
use Rattle.cli_inputs.specs.declared.refusal.Refusal.TheVariants as refusal
use Rattle.cli_inputs.specs.declared.refusal.PartRefusal.TheVariants as part
use Rattle.cli_inputs.specs.declared.refusal.ScheduleRefusal.TheVariants as schedule
use Rattle.cli_inputs.specs.Refusals.{as_refused}

-- ---- from bytes to an image

-- the image that bytes encode
abbrev pub image_by : Result Image Fault → Result Image Refusal
image_by (Ok i) = Ok i
image_by (Err fault) = Err (refusal.Image fault)

abbrev pub image_from_bytes : List ℕ → Result Image Refusal
image_from_bytes bytes = image_by (reading bytes)

-- the most bytes of a partition's file
abbrev pub most_partition : ℕ
most_partition = 4194304

abbrev pub by_partition : Result Image Meant → Result Image Refusal
by_partition (Ok i) = Ok i
by_partition (Err r) = Err (refusal.Partition (as_refused r))

-- the image of a partition: its file is UTF-8, and not too long
unfoldable pub built_of : List ℕ → Result Image Refusal
built_of bytes =
    if nat_lt most_partition (length bytes) then Err (refusal.Partition part.Limit)
    else if is_utf8 bytes then by_partition (partition bytes)
    else Err (refusal.Partition part.Toml)

-- what is meant is this refusal, unless memory ran out
abbrev pub IsRefusalOf : Result Image Refusal → Refusal → Type 0
IsRefusalOf meant refusal.NoMemory = Unit {0}
IsRefusalOf meant (refusal.Read file) = ⊥
IsRefusalOf meant (refusal.Image fault) = meant ≡ Err (refusal.Image fault)
IsRefusalOf meant (refusal.Partition p) = meant ≡ Err (refusal.Partition p)
IsRefusalOf meant (refusal.Schedule s) = ⊥
IsRefusalOf meant (refusal.Trace fault) = ⊥
IsRefusalOf meant (refusal.Elf fault) = ⊥
IsRefusalOf meant (refusal.NoSuchName item) = ⊥
IsRefusalOf meant (refusal.Violation v) = ⊥

-- ---- files

-- the most bytes of a schedule's file
abbrev pub most_schedule : ℕ
most_schedule = 67108864

-- the most bytes of a trace's file, and the fault of one that has more
abbrev pub most_trace : ℕ
most_trace = 67108864

abbrev pub long_trace : TraceFault
long_trace = record { at = 0; why = trace_why.Limit }

-- the fault of an ELF file that has more than the most bytes
abbrev pub long_elf : ElfFault
long_elf = record { at = most_elf; why = elf_why.Limit }

-- the most bytes of a file of a kind, and the refusal of one that has more
abbrev pub most_of : FileKind → ℕ
most_of kind.Image = most_bytes
most_of kind.Elf = most_elf
most_of kind.Partition = most_partition
most_of kind.Schedule = most_schedule
most_of kind.Trace = most_trace

abbrev pub too_long : FileKind → Refusal
too_long kind.Image = refusal.Image (record { at = most_bytes; why = Limit })
too_long kind.Elf = refusal.Elf long_elf
too_long kind.Partition = refusal.Partition part.Limit
too_long kind.Schedule = refusal.Schedule schedule.Limit
too_long kind.Trace = refusal.Trace long_trace

-- this file was not read: its count of failed reads rose
pub record IsReadFault (name : List ℕ) (before after : ℕ) (file : List ℕ) : Type 0 where
  pub named : file ≡ name
  pub rose : before < after

-- why the bytes of a partition's file could not be used, but for its length
abbrev pub IsPartitionUnread : List ℕ → ℕ → ℕ → Refusal → Type 0
IsPartitionUnread name before after refusal.NoMemory = Unit {0}
IsPartitionUnread name before after (refusal.Read file) = IsReadFault name before after file
IsPartitionUnread name before after other = ⊥

-- it is refused as too long
pub record IsTooLong (k : FileKind) (content : Option (List ℕ)) (why : Refusal) : Type 0 where
  pub is : why ≡ too_long k
  pub longer : WhereExposed content (λ bytes. most_of k < length bytes)

-- why the bytes of the file of a name could not be used
abbrev pub IsUnread : FileKind → List ℕ → Option (List ℕ) → ℕ → ℕ → Refusal → Type 0
IsUnread k name content before after refusal.NoMemory = Unit {0}
IsUnread k name content before after (refusal.Read file) = IsReadFault name before after file
IsUnread k name content before after (refusal.Image fault) = IsTooLong k content (refusal.Image fault)
IsUnread k name content before after (refusal.Partition p) = IsTooLong k content (refusal.Partition p)
IsUnread k name content before after (refusal.Schedule s) = IsTooLong k content (refusal.Schedule s)
IsUnread k name content before after (refusal.Trace fault) = IsTooLong k content (refusal.Trace fault)
IsUnread k name content before after (refusal.Elf fault) = IsTooLong k content (refusal.Elf fault)
IsUnread k name content before after (refusal.NoSuchName item) = ⊥
IsUnread k name content before after (refusal.Violation v) = ⊥

-- why the image of a file could not be used: out of memory, a read that failed, or bytes that are rejected so
abbrev pub IsRefusedBy : (List ℕ → Result Image Refusal) → List ℕ → Option (List ℕ) → ℕ → ℕ → Refusal → Type 0
IsRefusedBy meant name content before after refusal.NoMemory = Unit {0}
IsRefusedBy meant name content before after (refusal.Read file) = IsReadFault name before after file
IsRefusedBy meant name content before after (refusal.Image fault) = WhereExposed content (λ bytes. meant bytes ≡ Err (refusal.Image fault))
IsRefusedBy meant name content before after (refusal.Partition p) = WhereExposed content (λ bytes. meant bytes ≡ Err (refusal.Partition p))
IsRefusedBy meant name content before after (refusal.Schedule s) = ⊥
IsRefusedBy meant name content before after (refusal.Trace fault) = ⊥
IsRefusedBy meant name content before after (refusal.Elf fault) = ⊥
IsRefusedBy meant name content before after (refusal.NoSuchName item) = ⊥
IsRefusedBy meant name content before after (refusal.Violation v) = ⊥
