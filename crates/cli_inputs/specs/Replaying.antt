-- What is made of a replay, its report or its trace, as a function of the bytes of an image's file and of a schedule's.
use Rattle.std.specs.Prelude.{◌≡◌, ℕ, List, length, Result, Ok, Err, nat_lt, if◌then◌else◌}
use Rattle.wedge_base.specs.Images.{Image}
use Rattle.report_text.specs.Reports.{report_of}
use Rattle.report_text.specs.Schedules.{names_in}
use Rattle.machine.specs.Worlds.{WorldState, initial_state}
use Rattle.machine.specs.Outcomes.{outcome_of}
use Rattle.world_turns.specs.declared.error.Why.{Why}
use Rattle.world_turns.specs.Replay.{replay_from}
use Rattle.cb_log.specs.Logs.{trace_of}
use Rattle.cli_inputs.specs.declared.loading.FileKind.TheVariants as kind
use Rattle.cli_inputs.specs.declared.refusal.Refusal.{Refusal}
use Rattle.cli_inputs.specs.declared.refusal.Refusal.TheVariants as refusal
use Rattle.cli_inputs.specs.declared.refusal.ScheduleRefusal.TheVariants as schedule
use Rattle.cli_inputs.specs.Loading.{image_from_bytes, most_of, too_long}

-- a text of an image, a schedule, and the state to which it leads
abbrev pub Making : Type 0
Making = Image → List (List ℕ) → WorldState → List ℕ

-- the report of the state, and the trace of the schedule
abbrev pub report_made : Making
report_made i names w = report_of (outcome_of w)

abbrev pub trace_made : Making
trace_made i names w = trace_of i names

-- the text of a schedule that was replayed
abbrev pub text_made : Making → Image → List (List ℕ) → Result WorldState (ℕ × Why) → Result (List ℕ) Refusal
text_made make i names (Ok w) = Ok (make i names w)
text_made make i names (Err fault) = Err (refusal.Schedule (schedule.Replay fault.0 fault.1))

-- the names of a schedule
abbrev pub schedule_by : Result (List (List ℕ)) ℕ → Result (List (List ℕ)) Refusal
schedule_by (Ok names) = Ok names
schedule_by (Err at) = Err (refusal.Schedule (schedule.Form at))

-- the text of an image and a schedule that were read
abbrev pub text_of_read : Making → Result Image Refusal → Result (List (List ℕ)) Refusal → Result (List ℕ) Refusal
text_of_read make (Ok i) (Ok names) = text_made make i names (replay_from (initial_state i) 1 names)
text_of_read make (Ok i) (Err why) = Err why
text_of_read make (Err why) names = Err why

-- the limits of both files, the image's form, the schedule's, and then the run
unfoldable pub text_of_replay : Making → List ℕ → List ℕ → Result (List ℕ) Refusal
text_of_replay make image names =
    if nat_lt (most_of kind.Image) (length image) then Err (too_long kind.Image)
    else if nat_lt (most_of kind.Schedule) (length names) then Err (too_long kind.Schedule)
    else text_of_read make (image_from_bytes image) (schedule_by (names_in names))

abbrev pub replay_text : List ℕ → List ℕ → Result (List ℕ) Refusal
replay_text image names = text_of_replay report_made image names

abbrev pub log_text : List ℕ → List ℕ → Result (List ℕ) Refusal
log_text image names = text_of_replay trace_made image names

-- what is meant is this refusal, unless memory ran out
abbrev pub IsRefusalIn : {X : Type 0} → Result X Refusal → Refusal → Type 0
IsRefusalIn meant refusal.NoMemory = Unit {0}
IsRefusalIn meant (refusal.Read file) = ⊥
IsRefusalIn meant (refusal.Image fault) = meant ≡ Err (refusal.Image fault)
IsRefusalIn meant (refusal.Partition p) = meant ≡ Err (refusal.Partition p)
IsRefusalIn meant (refusal.Schedule s) = meant ≡ Err (refusal.Schedule s)
IsRefusalIn meant (refusal.Trace fault) = ⊥
IsRefusalIn meant (refusal.Elf fault) = meant ≡ Err (refusal.Elf fault)
IsRefusalIn meant (refusal.NoSuchName item) = ⊥
IsRefusalIn meant (refusal.Violation v) = ⊥
