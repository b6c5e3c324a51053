-- What the program answers to its arguments.
use Rattle.std.specs.Prelude.{◌≡◌, ℕ, ◌<◌, ◌⊎◌, List, Option, Some, None, Err, IsErr}
use Rattle.host_io.specs.Exposed.{WhereExposed}
use Rattle.cli_inputs.specs.declared.refusal.Refusal.{Refusal}
use Rattle.cli_inputs.specs.declared.refusal.Refusal.TheVariants as refusal
use Rattle.wedge_cli.specs.declared.status.Ended.{Ended}
use Rattle.wedge_cli.specs.declared.writing.KeptRun.{KeptRun}
use Rattle.wedge_cli.specs.declared.writing.Text.{Text}
use Rattle.wedge_cli.specs.Outside.{Device, Outside}
use Rattle.refusal_lines.specs.Lines.{line, usage_line, refusal_text, status_of}
use Rattle.cli_inputs.specs.declared.refusal.ScheduleRefusal.{ScheduleRefusal}
use Rattle.cli_inputs.specs.Loading.{image_from_bytes, built_of, IsRefusedBy}
use Rattle.trace_form.specs.declared.fault.TraceFault.{TraceFault}
use Rattle.cli_inputs.specs.Replaying.{report_made, trace_made}
use Rattle.cli_inputs.specs.Enforcing.{Check, emulated, enforced}
use Rattle.sheet_enforce.specs.declared.violations.Violation.{Violation}
use Rattle.elf_in.specs.declared.fault.Fault.{Fault as ElfFault}
use Rattle.cli_inputs.specs.Linking.{IsUnjoined}
use Rattle.cli_inputs.specs.Traces.{trace_fault, IsUnknownIn}
use Rattle.cli_inputs.specs.Words.{Asked, Run, Show, Build, Link, Replay, Log, Emulate, Enforce, Derive, Analyze, Gen}
use Rattle.command_texts.specs.Causes.{IsReplayAnswer, IsElfFault, IsCheckAnswer, IsTextRefused}
use Rattle.wedge_cli.specs.Ended.{IsCommandOutput, IsWritten, IsSaid, done_status}

-- why a command is not done, of the files and of their counts of failed reads before and after
abbrev pub IsRefused : Asked → (List ℕ → Option (List ℕ)) → (List ℕ → ℕ) → (List ℕ → ℕ) → Refusal → Type 0
IsRefused (Run image flag) files before after why = IsRefusedBy image_from_bytes image (files image) (before image) (after image) why
IsRefused (Gen workers) files before after why = why ≡ refusal.NoMemory
IsRefused other files before after why = IsTextRefused other files before after why

-- its image or its partition is rejected, or the two files of a link make no image
abbrev pub IsUnfit : Asked → (List ℕ → Option (List ℕ)) → Type 0
IsUnfit (Run image flag) files = WhereExposed (files image) (λ bytes. IsErr (image_from_bytes bytes))
IsUnfit (Show image) files = WhereExposed (files image) (λ bytes. IsErr (image_from_bytes bytes))
IsUnfit (Build part) files = WhereExposed (files part) (λ bytes. IsErr (built_of bytes))
IsUnfit (Link elf part) files = (bytes text : List ℕ) → files elf ≡ Some bytes → files part ≡ Some text → IsUnjoined bytes text
IsUnfit (Replay image schedule) files = WhereExposed (files image) (λ bytes. IsErr (image_from_bytes bytes))
IsUnfit (Log image schedule) files = WhereExposed (files image) (λ bytes. IsErr (image_from_bytes bytes))
IsUnfit (Emulate image schedule trace) files = WhereExposed (files image) (λ bytes. IsErr (image_from_bytes bytes))
IsUnfit (Enforce image schedule trace) files = WhereExposed (files image) (λ bytes. IsErr (image_from_bytes bytes))
IsUnfit (Derive trace) files = ⊥
IsUnfit (Analyze trace query name) files = ⊥
IsUnfit (Gen workers) files = ⊥

-- its trace is too long or malformed
abbrev pub IsTraceRejected : Option (List ℕ) → Type 0
IsTraceRejected content = (fault : TraceFault) × WhereExposed content (λ bytes. trace_fault bytes ≡ Some fault)

-- its schedule or its trace is rejected, as a check of both says
abbrev pub IsCheckRejected : Check → List ℕ → List ℕ → List ℕ → (List ℕ → Option (List ℕ)) → Type 0
IsCheckRejected check image schedule trace files =
    ((s : ScheduleRefusal) × IsCheckAnswer check image schedule trace files (Err (refusal.Schedule s)))
    ⊎ ((fault : TraceFault) × IsCheckAnswer check image schedule trace files (Err (refusal.Trace fault)))

-- its schedule or its trace is rejected
abbrev pub IsRejected : Asked → (List ℕ → Option (List ℕ)) → Type 0
IsRejected (Run image flag) files = ⊥
IsRejected (Show image) files = ⊥
IsRejected (Build part) files = ⊥
IsRejected (Link elf part) files = ⊥
IsRejected (Replay image schedule) files = (s : ScheduleRefusal) × IsReplayAnswer report_made image schedule files (Err (refusal.Schedule s))
IsRejected (Log image schedule) files = (s : ScheduleRefusal) × IsReplayAnswer trace_made image schedule files (Err (refusal.Schedule s))
IsRejected (Emulate image schedule trace) files = IsCheckRejected emulated image schedule trace files
IsRejected (Enforce image schedule trace) files = IsCheckRejected enforced image schedule trace files
IsRejected (Derive trace) files = IsTraceRejected (files trace)
IsRejected (Analyze trace query name) files = IsTraceRejected (files trace)
IsRejected (Gen workers) files = ⊥

-- no record of its trace has the name that it asks for
abbrev pub IsUnknown : Asked → (List ℕ → Option (List ℕ)) → Type 0
IsUnknown (Run image flag) files = ⊥
IsUnknown (Show image) files = ⊥
IsUnknown (Build part) files = ⊥
IsUnknown (Link elf part) files = ⊥
IsUnknown (Replay image schedule) files = ⊥
IsUnknown (Log image schedule) files = ⊥
IsUnknown (Emulate image schedule trace) files = ⊥
IsUnknown (Enforce image schedule trace) files = ⊥
IsUnknown (Derive trace) files = ⊥
IsUnknown (Analyze trace query name) files = WhereExposed (files trace) (IsUnknownIn query name)
IsUnknown (Gen workers) files = ⊥

-- its ELF file is rejected
abbrev pub IsElfRejected : Asked → (List ℕ → Option (List ℕ)) → Type 0
IsElfRejected (Link elf part) files = (fault : ElfFault) × IsElfFault (files elf) fault
IsElfRejected other files = ⊥

-- the sheets of its trace do not permit an access of its run
abbrev pub IsViolated : Asked → (List ℕ → Option (List ℕ)) → Type 0
IsViolated (Enforce image schedule trace) files =
    (v : Violation) × IsCheckAnswer enforced image schedule trace files (Err (refusal.Violation v))
IsViolated other files = ⊥

-- the count of failed reads of a file of it rose
abbrev pub IsUnreadable : Asked → (List ℕ → ℕ) → (List ℕ → ℕ) → Type 0
IsUnreadable (Run image flag) before after = before image < after image
IsUnreadable (Show image) before after = before image < after image
IsUnreadable (Build part) before after = before part < after part
IsUnreadable (Link elf part) before after = (before elf < after elf) ⊎ (before part < after part)
IsUnreadable (Replay image schedule) before after = (before image < after image) ⊎ (before schedule < after schedule)
IsUnreadable (Log image schedule) before after = (before image < after image) ⊎ (before schedule < after schedule)
IsUnreadable (Emulate image schedule trace) before after =
    (before image < after image) ⊎ (before schedule < after schedule) ⊎ (before trace < after trace)
IsUnreadable (Enforce image schedule trace) before after =
    (before image < after image) ⊎ (before schedule < after schedule) ⊎ (before trace < after trace)
IsUnreadable (Derive trace) before after = before trace < after trace
IsUnreadable (Analyze trace query name) before after = before trace < after trace
IsUnreadable (Gen workers) before after = ⊥

-- the line of a refusal is said, or that memory ran out for that line
abbrev pub SaysRefusal : Refusal → Ended → Device → Device → Type 0
SaysRefusal why ended before after =
    IsSaid (status_of why) (line (refusal_text why)) ended before after
    ⊎ IsSaid (status_of refusal.NoMemory) (line (refusal_text refusal.NoMemory)) ended before after

-- a command is refused: out is left alone, and err takes the line of the refusal
pub record IsRefusal (a : Asked) (ended : Ended) (before after : Outside) : Type 0 where
  pub why : Refusal
  pub cause : IsRefused a before.files before.reads after.reads why
  pub out : after.sinks.out ≡ before.sinks.out
  pub err : SaysRefusal why ended before.sinks.err after.sinks.err

-- a command is done: its texts are written
pub record IsCommandDone (a : Asked) (ended : Ended) (before after : Outside) : Type 0 where
  pub kept : KeptRun
  pub texts : List Text
  pub made : IsCommandOutput a before.files kept texts
  pub written : IsWritten (done_status kept.differs) kept texts ended before.sinks after.sinks

-- the arguments are no command: out is left alone, and err takes the line of that
pub record IsUsage (ended : Ended) (before after : Outside) : Type 0 where
  pub out : after.sinks.out ≡ before.sinks.out
  pub err : IsSaid 2 usage_line ended before.sinks.err after.sinks.err

-- of what the arguments ask, with what lies outside before and after
pub record IsCommandAnswer (asked : Option Asked) (ended : Ended) (before after : Outside) : Type 0 where
  pub usage : asked ≡ None → IsUsage ended before after
  pub command : (a : Asked) → asked ≡ Some a → IsRefusal a ended before after ⊎ IsCommandDone a ended before after
