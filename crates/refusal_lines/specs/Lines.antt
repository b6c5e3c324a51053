-- The lines of refusals.
use Rattle.std.specs.Prelude.{ℕ, List, [], ◌∷◌, ◌++◌, codes}
use Rattle.std.specs.Fmt.{decimal}
use Rattle.elf_in.specs.declared.fault.Fault.{Fault as ElfFault}
use Rattle.elf_in.specs.Words as elf
use Rattle.image_form.specs.Words as image
use Rattle.rv_asm.specs.Words as asm
use Rattle.trace_form.specs.declared.fault.TraceFault.{TraceFault}
use Rattle.trace_form.specs.Fault as trace
use Rattle.sheet_enforce.specs.Texts.{enforced_text}
use Rattle.cli_inputs.specs.declared.refusal.PartRefusal.{PartRefusal}
use Rattle.cli_inputs.specs.declared.refusal.PartRefusal.TheVariants as part
use Rattle.world_turns.specs.declared.error.Why.{Why}
use Rattle.world_turns.specs.declared.error.Why.TheVariants as why
use Rattle.cli_inputs.specs.declared.refusal.ScheduleRefusal.{ScheduleRefusal}
use Rattle.cli_inputs.specs.declared.refusal.ScheduleRefusal.TheVariants as schedule
use Rattle.cli_inputs.specs.declared.refusal.Refusal.{Refusal}
use Rattle.cli_inputs.specs.declared.refusal.Refusal.TheVariants as refusal

-- a line of the program's own
abbrev pub line : List ℕ → List ℕ
line text = codes "wedge: " ++ text ++ 10 ∷ []

abbrev pub usage_line : List ℕ
usage_line = line (codes "usage")

abbrev pub write_fault_line : List ℕ
write_fault_line = line (codes "write fault")

abbrev pub refused_at : ℕ → List ℕ → List ℕ
refused_at place word = codes "image refused at " ++ decimal place ++ codes ": " ++ word

-- what is wrong with an ELF file, at an offset
abbrev pub elf_text : ElfFault → List ℕ
elf_text fault = codes "elf refused at " ++ decimal fault.at ++ codes ": " ++ elf.elf_why_word fault.why

-- what is wrong with a partition
abbrev pub part_text : PartRefusal → List ℕ
part_text part.Limit = codes "limit"
part_text part.Toml = codes "toml"
part_text (part.Key name) = codes "key " ++ name
part_text (part.Kind name) = codes "kind " ++ name
part_text (part.Asm line why) = codes "line " ++ decimal line ++ codes " " ++ asm.asm_why_word why
part_text (part.Image at why) = codes "image at " ++ decimal at ++ codes ": " ++ image.image_why_word why

-- what is wrong with a schedule, at a line
abbrev pub replay_why_word : Why → List ℕ
replay_why_word why.Unknown = codes "unknown"
replay_why_word why.Ended = codes "ended"
replay_why_word why.Waits = codes "waits"
replay_why_word why.Busy = codes "busy"
replay_why_word why.Short = codes "short"
replay_why_word why.Extra = codes "extra"

abbrev pub schedule_at : ℕ → List ℕ → List ℕ
schedule_at line word = codes "schedule refused at " ++ decimal line ++ codes ": " ++ word

abbrev pub schedule_text : ScheduleRefusal → List ℕ
schedule_text schedule.Limit = schedule_at 0 (codes "limit")
schedule_text (schedule.Form at) = schedule_at at (codes "form")
schedule_text (schedule.Replay at why) = schedule_at at (replay_why_word why)

-- what is wrong with a trace, at a line
abbrev pub trace_fault_text : TraceFault → List ℕ
trace_fault_text fault =
    codes "trace refused at " ++ decimal fault.at ++ codes ": " ++ trace.why_word fault.why

-- why a command is not done
abbrev pub refusal_text : Refusal → List ℕ
refusal_text refusal.NoMemory = codes "out of memory"
refusal_text (refusal.Read file) = codes "read fault: " ++ file
refusal_text (refusal.Image fault) = refused_at fault.at (image.image_why_word fault.why)
refusal_text (refusal.Partition p) = codes "partition refused: " ++ part_text p
refusal_text (refusal.Schedule s) = schedule_text s
refusal_text (refusal.Trace fault) = trace_fault_text fault
refusal_text (refusal.Elf fault) = elf_text fault
refusal_text (refusal.NoSuchName name) = codes "no such name: " ++ name
refusal_text (refusal.Violation v) = enforced_text v

abbrev pub status_of : Refusal → ℕ
status_of refusal.NoMemory = 6
status_of (refusal.Read file) = 4
status_of (refusal.Image fault) = 3
status_of (refusal.Partition p) = 3
status_of (refusal.Schedule s) = 8
status_of (refusal.Trace fault) = 8
status_of (refusal.Elf fault) = 10
status_of (refusal.NoSuchName name) = 9
status_of (refusal.Violation v) = 11
