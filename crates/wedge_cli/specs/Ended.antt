-- What the program ends with.
use Rattle.std.specs.Prelude.{◌≡◌, ◌≤◌, ◌++◌, ℕ, ◌⊎◌, List, [], ◌∷◌, length, Option, Some, None, Result, Ok, Err}
use Rattle.wedge_base.specs.Images.{Image}
use Rattle.image_form.specs.Rules.{Encodes}
use Rattle.wedge_base.specs.declared.outcome.Outcome.{Outcome}
use Rattle.host_io.specs.Exposed.{WhereExposed}
use Rattle.run_laws.specs.CompleteRuns.{IsJournaledRun}
use Rattle.grant_cache.specs.declared.count.CacheLine.{CacheLine}
use Rattle.thread_laws.specs.LookUps.{AreCountsOf}
use Rattle.audited_run.specs.AuditedRuns.{IsOfThreads, IsDiffering, IsInSerialOrder, IsMadeSo, AreCachesOf}
use Rattle.audited_run.specs.Texts.{difference_text}
use Rattle.audited_run.specs.declared.run.Differs.{Differs}
use Rattle.report_text.specs.CacheTexts.{cache_lines}
use Rattle.report_text.specs.Reports.{report_of}
use Rattle.report_text.specs.Schedules.{actors_of, schedule_of, names_in}
use Rattle.report_text.specs.Summaries.{summary_of}
use Rattle.wedge_events.specs.declared.events.LogEntry.{LogEntry}
use Rattle.run_audit.specs.RunJournals.{RunEntries}
use Rattle.cli_inputs.specs.declared.loading.FileKind.TheVariants as kind
use Rattle.cli_inputs.specs.declared.words.RunFlag.{RunFlag}
use Rattle.cli_inputs.specs.declared.words.RunFlag.TheVariants.{Plain, Schedule, Stats}
use Rattle.wedge_cli.specs.declared.status.Ended.{Ended}
use Rattle.cli_inputs.specs.declared.refusal.Refusal.{Refusal}
use Rattle.wedge_cli.specs.declared.writing.KeptRun.{KeptRun}
use Rattle.wedge_cli.specs.declared.writing.SinkName.TheVariants as sink
use Rattle.wedge_cli.specs.declared.writing.SinkName.{SinkName}
use Rattle.wedge_cli.specs.declared.writing.Text.{Text}
use Rattle.wedge_cli.specs.Outside.{Device, Sinks, Takes, IsFailedWrite, Tried}
use Rattle.refusal_lines.specs.Lines.{line, write_fault_line, refusal_text, status_of}
use Rattle.cli_inputs.specs.Loading.{image_from_bytes, most_of}
use Rattle.cli_inputs.specs.Replaying.{replay_text}
use Rattle.cli_inputs.specs.Linking.{IsLinkedImage}
use Rattle.cli_inputs.specs.Words.{Asked, Run, Gen}
use Rattle.command_texts.specs.Answers.{IsTextOf}
use Rattle.workload.specs.Workload.{workload}

-- ---- what a command makes of its files

-- one text, on the output or on the error stream
abbrev pub on_out : List ℕ → List Text
on_out bytes = record { sink = sink.Out; bytes = bytes } ∷ []

abbrev pub on_err : List ℕ → List Text
on_err bytes = record { sink = sink.Err; bytes = bytes } ∷ []

-- a text on the output, and then one on the error stream
abbrev pub on_both : List ℕ → List ℕ → List Text
on_both out err = record { sink = sink.Out; bytes = out } ∷ record { sink = sink.Err; bytes = err } ∷ []

-- nothing was run
abbrev pub no_run : KeptRun
no_run = record { journal = None; differs = None }

-- the texts of a run with this journal, this outcome and these counts of its caches
abbrev pub run_texts : RunFlag → RunEntries → Outcome → List CacheLine → List Text
run_texts Plain journal outcome caches = on_out (report_of outcome)
run_texts Schedule journal outcome caches = on_both (schedule_of (actors_of journal.entries)) (report_of outcome)
run_texts Stats journal outcome caches = on_out (report_of outcome ++ cache_lines caches)

-- all entries of the journal are there for the texts that need them: for a schedule
abbrev pub IsEnoughFor : RunFlag → RunEntries → Type 0
IsEnoughFor Plain journal = Unit {0}
IsEnoughFor Schedule journal = journal.kept ≡ journal.entries
IsEnoughFor Stats journal = Unit {0}

-- a schedule that is written is read as the names of the journal's actors
abbrev pub IsScheduleReadAgain : RunFlag → List LogEntry → Type 0
IsScheduleReadAgain Plain entries = Unit {0}
IsScheduleReadAgain Schedule entries = names_in (schedule_of (actors_of entries)) ≡ Ok (actors_of entries)
IsScheduleReadAgain Stats entries = Unit {0}

-- where a run's logs and histories differ, a line says so behind its texts
abbrev pub differs_texts : Option Differs → List Text
differs_texts None = []
differs_texts (Some d) = on_err (line (difference_text d.disagree))

-- The journal is that of a complete run of the image, made on threads, or, where what these left differs,
-- once more on one; and the texts are of that run.
pub record IsReportOf (i : Image) (flag : RunFlag) (journal : RunEntries) (differs : Option Differs) (texts : List Text) : Type 0 where
  pub outcome : Outcome
  pub run : IsJournaledRun i journal.entries outcome
  pub made : IsMadeSo i differs journal.entries outcome
  pub caches : List CacheLine
  pub counted : AreCachesOf differs journal.entries outcome.actors caches
  pub are : texts ≡ run_texts flag journal outcome caches ++ differs_texts differs
  pub whole : IsEnoughFor flag journal
  pub again : IsScheduleReadAgain flag journal.entries

-- and it is kept
abbrev pub IsReportOfKept : Image → RunFlag → Option RunEntries → Option Differs → List Text → Type 0
IsReportOfKept i flag None differs texts = ⊥
IsReportOfKept i flag (Some journal) differs texts = IsReportOf i flag journal differs texts

abbrev pub IsReported : Image → RunFlag → KeptRun → List Text → Type 0
IsReported i flag kept texts = IsReportOfKept i flag kept.journal kept.differs texts

-- the line that sums up a run of a workload with this journal and this outcome
abbrev pub summary_line : ℕ → RunEntries → Outcome → List ℕ
summary_line workers journal outcome = summary_of workers outcome (length journal.entries)

-- The same of the image of a workload, with the line that sums the run up in place of the report.
pub record IsSummaryOf (i : Image) (workers : ℕ) (journal : RunEntries) (differs : Option Differs) (texts : List Text) : Type 0 where
  pub outcome : Outcome
  pub run : IsJournaledRun i journal.entries outcome
  pub made : IsMadeSo i differs journal.entries outcome
  pub are : texts ≡ on_out (summary_line workers journal outcome) ++ differs_texts differs

-- and it is kept
abbrev pub IsSummaryOfKept : Image → ℕ → Option RunEntries → Option Differs → List Text → Type 0
IsSummaryOfKept i workers None differs texts = ⊥
IsSummaryOfKept i workers (Some journal) differs texts = IsSummaryOf i workers journal differs texts

abbrev pub IsSummary : Image → ℕ → KeptRun → List Text → Type 0
IsSummary i workers kept texts = IsSummaryOfKept i workers kept.journal kept.differs texts

-- the workload of so many workers is run
abbrev pub IsSummed : ℕ → KeptRun → List Text → Type 0
IsSummed workers kept texts = IsSummary (workload workers) workers kept texts

-- a file is run as an image
pub record RunsImage (flag : RunFlag) (content : Option (List ℕ)) (kept : KeptRun) (texts : List Text) : Type 0 where
  pub image : Image
  pub encoded : WhereExposed content (λ bytes. Encodes image bytes)
  pub accepted : WhereExposed content (λ bytes. image_from_bytes bytes ≡ Ok image)
  pub reported : IsReported image flag kept texts

-- a command that runs nothing writes one text, on the output
pub record IsAnswered (IsText : List ℕ → Type 0) (kept : KeptRun) (texts : List Text) : Type 0 where
  pub text : List ℕ
  pub is : IsText text
  pub kept_is : kept ≡ no_run
  pub are : texts ≡ on_out text

-- the journal that a command keeps, and the texts that it writes
abbrev pub IsCommandOutput : Asked → (List ℕ → Option (List ℕ)) → KeptRun → List Text → Type 0
IsCommandOutput (Run image flag) files kept texts = RunsImage flag (files image) kept texts
IsCommandOutput (Gen workers) files kept texts = IsSummed workers kept texts
IsCommandOutput other files kept texts = IsAnswered (IsTextOf other files) kept texts

-- ---- how texts are written

-- the sink of a text takes it, and the other is left alone
abbrev pub TakesOn : SinkName → List ℕ → Sinks → Sinks → Type 0
TakesOn sink.Out bytes before after = Takes bytes before.out after.out × (after.err ≡ before.err)
TakesOn sink.Err bytes before after = Takes bytes before.err after.err × (after.out ≡ before.out)

abbrev pub TakesText : Text → Sinks → Sinks → Type 0
TakesText t before after = TakesOn t.sink t.bytes before after

-- it fails over the text: it has taken a prefix, and the other is left alone
abbrev pub FailsOn : SinkName → List ℕ → Sinks → Sinks → Type 0
FailsOn sink.Out bytes before after = IsFailedWrite bytes before.out after.out × (after.err ≡ before.err)
FailsOn sink.Err bytes before after = IsFailedWrite bytes before.err after.err × (after.out ≡ before.out)

abbrev pub FailsText : Text → Sinks → Sinks → Type 0
FailsText t before after = FailsOn t.sink t.bytes before after

-- one thing, and then another
pub record Then (first second : Sinks → Type 0) : Type 0 where
  pub between : Sinks
  pub one : first between
  pub other : second between

-- all texts are taken, in their order
abbrev pub AreTaken : List Text → Sinks → Sinks → Type 0
AreTaken [] before after = after ≡ before
AreTaken (t ∷ ts) before after = Then (TakesText t before) (λ between. AreTaken ts between after)

-- those before some text are taken, that one fails, and nothing further is written
abbrev pub OneFails : List Text → Sinks → Sinks → Type 0
OneFails [] before after = ⊥
OneFails (t ∷ ts) before after = FailsText t before after ⊎ Then (TakesText t before) (λ between. OneFails ts between after)

-- err is given the line of a write that failed, once
abbrev pub TellsFault : Sinks → Sinks → Type 0
TellsFault before after = Tried write_fault_line before.err after.err × (after.out ≡ before.out)

-- the status of what was done: 7 where the logs and histories of a run differ
abbrev pub done_status : Option Differs → ℕ
done_status None = 0
done_status (Some d) = 7

-- Texts are written, and the program ends with this status, the journal, and what differs; where one
-- fails, err is given the line of that, the status is 5, and it is not said what differs.
pub record IsWritten (status : ℕ) (kept : KeptRun) (texts : List Text) (ended : Ended) (before after : Sinks) : Type 0 where
  pub journal : ended.journal ≡ kept.journal
  pub cases : (AreTaken texts before after × (ended.status ≡ status) × (ended.differs ≡ kept.differs))
      ⊎ (Then (OneFails texts before) (λ between. TellsFault between after) × (ended.status ≡ 5) × (ended.differs ≡ None))

-- a line is written on err, whatever the output
abbrev pub IsSaid : ℕ → List ℕ → Ended → Device → Device → Type 0
IsSaid status text ended before after =
    (out : Device) → IsWritten status no_run (on_err text) ended (record { out = out; err = before }) (record { out = out; err = after })

-- ---- a run, and an answer

-- `run IMAGE` was done: the file's bytes encode an image, the journal is that of a complete run of
-- it on threads, out has grown by the report of its outcome, and err is as it was
pub record IsRunDone (bytes : List ℕ) (kept : Option RunEntries) (before after : Sinks) : Type 0 where
  pub image : Image
  pub encoded : Encodes image bytes
  pub journal : RunEntries
  pub kept_is : kept ≡ Some journal
  pub outcome : Outcome
  pub run : IsJournaledRun image journal.entries outcome
  pub threads : IsOfThreads image journal.entries outcome
  pub out : Takes (report_of outcome) before.out after.out
  pub err : after.err ≡ before.err

-- a schedule, if it is no longer than the file of one may be, replayed over the image gives this report
abbrev pub Replays : List ℕ → List ℕ → List ℕ → Type 0
Replays bytes schedule text = length schedule ≤ most_of kind.Schedule → replay_text bytes schedule ≡ Ok text

-- `run IMAGE --schedule` was done: besides, all entries of the journal are there, out has grown by the
-- schedule of the run, and err by the report; and that schedule replayed over the same image gives the same
-- report
pub record IsScheduleDone (bytes : List ℕ) (kept : Option RunEntries) (before after : Sinks) : Type 0 where
  pub image : Image
  pub encoded : Encodes image bytes
  pub journal : RunEntries
  pub kept_is : kept ≡ Some journal
  pub whole : journal.kept ≡ journal.entries
  pub outcome : Outcome
  pub run : IsJournaledRun image journal.entries outcome
  pub threads : IsOfThreads image journal.entries outcome
  pub schedule : List ℕ
  pub schedule_is : schedule ≡ schedule_of (actors_of journal.entries)
  pub out : Takes schedule before.out after.out
  pub err : Takes (report_of outcome) before.err after.err
  pub replays : Replays bytes schedule (report_of outcome)

-- `run IMAGE --stats` was done: out has grown by the report, and then by a line for each of its actors
-- with the counts of the actor's cache of rights, which are those for its entries in the journal
pub record IsStatsDone (bytes : List ℕ) (kept : Option RunEntries) (before after : Sinks) : Type 0 where
  pub image : Image
  pub encoded : Encodes image bytes
  pub journal : RunEntries
  pub kept_is : kept ≡ Some journal
  pub outcome : Outcome
  pub run : IsJournaledRun image journal.entries outcome
  pub threads : IsOfThreads image journal.entries outcome
  pub caches : List CacheLine
  pub counted : AreCountsOf journal.entries outcome.actors caches
  pub out : Takes (report_of outcome ++ cache_lines caches) before.out after.out
  pub err : after.err ≡ before.err

-- `run` ended with the status 7: what the threads left differs, and says so; the journal is that of a
-- complete run of the image on one thread, all of it there where the schedule was written, of which the
-- texts were written, with no counts of caches, and then the line of what differs; and that schedule
-- replayed gives its report
pub record IsMadeAgain (bytes : List ℕ) (flag : RunFlag) (ended : Ended) (before after : Sinks) : Type 0 where
  pub image : Image
  pub encoded : Encodes image bytes
  pub differs : Differs
  pub differs_is : ended.differs ≡ Some differs
  pub threads : IsDiffering image differs
  pub journal : RunEntries
  pub journal_is : ended.journal ≡ Some journal
  pub whole : IsEnoughFor flag journal
  pub outcome : Outcome
  pub run : IsJournaledRun image journal.entries outcome
  pub serial : IsInSerialOrder image journal.entries
  pub written : AreTaken (run_texts flag journal outcome [] ++ on_err (line (difference_text differs.disagree))) before after
  pub replays : flag ≡ Schedule → Replays bytes (schedule_of (actors_of journal.entries)) (report_of outcome)

-- `run` ended as the bytes of its file say: where they encode an image, the run was done, or made again;
-- else err has grown by the line of the refusal
abbrev pub IsRunEnd : Result Image Refusal → ℕ → Sinks → Sinks → Type 0
IsRunEnd (Ok i) status before after = (status ≡ 0) ⊎ (status ≡ 7)
IsRunEnd (Err why) status before after =
    (status ≡ status_of why) × Takes (line (refusal_text why)) before.err after.err × (after.out ≡ before.out)

-- a read or a write failed, or memory ran out
abbrev pub IsCutShort : ℕ → Type 0
IsCutShort status = (status ≡ 4) ⊎ (status ≡ 5) ⊎ (status ≡ 6)

-- `gen N` was done: the journal is that of a complete run of the workload of N workers on threads, out
-- has grown by the line that sums the run up, and err is as it was
pub record IsGenDone (workers : ℕ) (kept : Option RunEntries) (before after : Sinks) : Type 0 where
  pub journal : RunEntries
  pub kept_is : kept ≡ Some journal
  pub outcome : Outcome
  pub run : IsJournaledRun (workload workers) journal.entries outcome
  pub threads : IsOfThreads (workload workers) journal.entries outcome
  pub out : Takes (summary_line workers journal outcome) before.out after.out
  pub err : after.err ≡ before.err

-- `gen` ended with the status 7: what the threads left differs, and says so; the journal is that of a
-- complete run of the workload on one thread, of which the line was written, and then the line of what
-- differs
pub record IsGenMadeAgain (workers : ℕ) (ended : Ended) (before after : Sinks) : Type 0 where
  pub differs : Differs
  pub differs_is : ended.differs ≡ Some differs
  pub threads : IsDiffering (workload workers) differs
  pub journal : RunEntries
  pub journal_is : ended.journal ≡ Some journal
  pub outcome : Outcome
  pub run : IsJournaledRun (workload workers) journal.entries outcome
  pub serial : IsInSerialOrder (workload workers) journal.entries
  pub out : Takes (summary_line workers journal outcome) before.out after.out
  pub err : Takes (line (difference_text differs.disagree)) before.err after.err

-- `gen` was done, or made again; or a write failed, or memory ran out
abbrev pub IsGenEnd : ℕ → Type 0
IsGenEnd status = (status ≡ 0) ⊎ (status ≡ 7) ⊎ (status ≡ 5) ⊎ (status ≡ 6)

-- a command ended as the answer of its files' bytes says: out has grown by the text, or err by the
-- line of the refusal
abbrev pub IsAnswerEnd : Result (List ℕ) Refusal → ℕ → Sinks → Sinks → Type 0
IsAnswerEnd (Ok text) status before after = (status ≡ 0) × Takes text before.out after.out × (after.err ≡ before.err)
IsAnswerEnd (Err why) status before after =
    (status ≡ status_of why) × Takes (line (refusal_text why)) before.err after.err × (after.out ≡ before.out)

-- `link ELF PART` was done: out has grown by the encoding of an image with the text, the data and
-- the procedures of the ELF file, and err is as it was
pub record IsLinkDone (elf : List ℕ) (before after : Sinks) : Type 0 where
  pub bytes : List ℕ
  pub image : IsLinkedImage elf bytes
  pub out : Takes bytes before.out after.out
  pub err : after.err ≡ before.err

-- the program ended so with this status
pub record HasEnd (status : ℕ) (So : Ended → Type 0) : Type 0 where
  pub ended : Ended
  pub status_is : ended.status ≡ status
  pub is_so : So ended
