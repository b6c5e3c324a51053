-- What is made of a replay whose accesses are checked by the sheets of a trace, as a function of the
-- bytes of an image's file, a schedule's and a trace's.
use Rattle.std.specs.Prelude.{◌≡◌, ◌≤◌, ◌<◌, ◌++◌, ℕ, List, [], ◌∷◌, length, get_or, Option, Some, None, Result, Ok, Err, nat_lt, if◌then◌else◌}
use Rattle.std.specs.List.{flat_map}
use Rattle.wedge_base.specs.Images.{Image}
use Rattle.report_text.specs.Schedules.{names_in}
use Rattle.world_turns.specs.Replay.{replay_of}
use Rattle.trace_form.specs.declared.fault.TraceFault.{TraceFault}
use Rattle.trace_form.specs.FirstFault.{first_fault}
use Rattle.trace_form.specs.Grammar.{TraceRecord}
use Rattle.trace_form.specs.Records.{records_of}
use Rattle.cb_analyze.specs.Sheets.{sheets_of}
use Rattle.cb_log.specs.Logs.{records_of as run_records}
use Rattle.cb_log.specs.Marks.{marks_of}
use Rattle.sheet_enforce.specs.Texts.{violation_line}
use Rattle.sheet_enforce.specs.Violations.{violations_of}
use Rattle.sheet_enforce.specs.declared.marks.Mark.{Mark}
use Rattle.sheet_enforce.specs.declared.violations.Violation.{Violation}
use Rattle.cli_inputs.specs.declared.loading.FileKind.TheVariants as kind
use Rattle.cli_inputs.specs.declared.refusal.Refusal.{Refusal}
use Rattle.cli_inputs.specs.declared.refusal.Refusal.TheVariants as refusal
use Rattle.cli_inputs.specs.Loading.{image_from_bytes, most_of, too_long}
use Rattle.cli_inputs.specs.Replaying.{schedule_by, text_made, report_made, replay_text, log_text}

-- the accesses with these marks and records that the sheets of a trace with those records do not permit
abbrev pub violations_in : List Mark → List TraceRecord → List TraceRecord → List Violation
violations_in marks own rs = violations_of marks own (sheets_of rs)

-- those of the run in which these actors take their turns
abbrev pub violations_by : Image → List (List ℕ) → List TraceRecord → List Violation
violations_by i names rs = violations_in (marks_of i names) (run_records i names) rs

-- what is made of these accesses and of the report of the run
abbrev pub Check : Type 0
Check = List Violation → List ℕ → Result (List ℕ) Refusal

-- `emulate`: the report, and then a line for each of them
abbrev pub emulated : Check
emulated vs report = Ok (report ++ flat_map violation_line vs)

-- `enforce`: the report, if there is none; else the first of them
abbrev pub enforced : Check
enforced [] report = Ok report
enforced (v ∷ vs) report = Err (refusal.Violation v)

-- of a run that has a report
abbrev pub text_checked : Check → List Violation → Result (List ℕ) Refusal → Result (List ℕ) Refusal
text_checked check vs (Ok report) = check vs report
text_checked check vs (Err why) = Err why

-- the run in which these actors take their turns, checked by the sheets of a trace with these records
abbrev pub run_checked :
    Check → Image → List (List ℕ) → List TraceRecord → Result (List ℕ) Refusal
run_checked check i names rs =
    text_checked check (violations_by i names rs)
    (text_made report_made i names (replay_of i names))

-- the records of a trace
abbrev pub trace_by : List ℕ → Option TraceFault → Result (List TraceRecord) Refusal
trace_by bytes None = Ok (records_of bytes)
trace_by bytes (Some fault) = Err (refusal.Trace fault)

-- of an image, a schedule and a trace that were read
abbrev pub text_of_three :
    Check → Result Image Refusal → Result (List (List ℕ)) Refusal → Result (List TraceRecord) Refusal
    → Result (List ℕ) Refusal
text_of_three check (Ok i) (Ok names) (Ok rs) = run_checked check i names rs
text_of_three check (Ok i) (Ok names) (Err why) = Err why
text_of_three check (Ok i) (Err why) rs = Err why
text_of_three check (Err why) names rs = Err why

-- the limits of the three files, the image's form, the schedule's, the trace's, and then the run
unfoldable pub text_of_check : Check → List ℕ → List ℕ → List ℕ → Result (List ℕ) Refusal
text_of_check check image names trace =
    if nat_lt (most_of kind.Image) (length image) then Err (too_long kind.Image)
    else if nat_lt (most_of kind.Schedule) (length names) then Err (too_long kind.Schedule)
    else if nat_lt (most_of kind.Trace) (length trace) then Err (too_long kind.Trace)
    else text_of_three check (image_from_bytes image) (schedule_by (names_in names))
    (trace_by trace (first_fault trace))

abbrev pub emulate_text : List ℕ → List ℕ → List ℕ → Result (List ℕ) Refusal
emulate_text image names trace = text_of_check emulated image names trace

abbrev pub enforce_text : List ℕ → List ℕ → List ℕ → Result (List ℕ) Refusal
enforce_text image names trace = text_of_check enforced image names trace

-- a trace is that of the run of an image, as bytes, by a schedule, and no longer than the file of a
-- trace may be
pub record IsOwnTrace (image names trace : List ℕ) : Type 0 where
  pub bytes : (index : ℕ) → get_or image index 0 < 256
  pub own : log_text image names ≡ Ok trace
  pub within : length trace ≤ most_of kind.Trace

-- it permits all of the run: what is emulated or enforced by it is what is replayed
abbrev pub OwnTracesPermit : Type 0
OwnTracesPermit = (image names trace : List ℕ) → IsOwnTrace image names trace
    → (emulate_text image names trace ≡ replay_text image names)
    × (enforce_text image names trace ≡ replay_text image names)

-- what is meant is this refusal, unless memory ran out
abbrev pub IsCheckRefusalIn : {X : Type 0} → Result X Refusal → Refusal → Type 0
IsCheckRefusalIn meant refusal.NoMemory = Unit {0}
IsCheckRefusalIn meant (refusal.Read file) = ⊥
IsCheckRefusalIn meant (refusal.Image fault) = meant ≡ Err (refusal.Image fault)
IsCheckRefusalIn meant (refusal.Partition p) = ⊥
IsCheckRefusalIn meant (refusal.Schedule s) = meant ≡ Err (refusal.Schedule s)
IsCheckRefusalIn meant (refusal.Trace fault) = meant ≡ Err (refusal.Trace fault)
IsCheckRefusalIn meant (refusal.Elf fault) = ⊥
IsCheckRefusalIn meant (refusal.NoSuchName item) = ⊥
IsCheckRefusalIn meant (refusal.Violation v) = ⊥

-- the same of `enforce`, which refuses a run with an access that is not permitted
abbrev pub IsEnforceRefusalIn : {X : Type 0} → Result X Refusal → Refusal → Type 0
IsEnforceRefusalIn meant (refusal.Violation v) = meant ≡ Err (refusal.Violation v)
IsEnforceRefusalIn meant other = IsCheckRefusalIn meant other
