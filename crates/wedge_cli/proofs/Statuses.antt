-- Which cause each status has.
use Rattle.std.proofs.Common.{◌≡◌, ◌⊎◌, inl, inr, ℕ, ◌<◌, List, refl, sym, ap, subst, ◌∙◌, arith}
use Rattle.std.specs.Prelude.{Option, Some, None, Result, Ok, Err, IsErr, IsSome}
use Rattle.wedge_base.specs.Images.{Image}
use Rattle.wedge_cli.specs.declared.status.Ended.{Ended}
use Rattle.cli_inputs.specs.declared.refusal.Refusal.{Refusal}
use Rattle.cli_inputs.specs.declared.refusal.Refusal.TheVariants as refusal
use Rattle.audited_run.specs.declared.run.Differs.{Differs}
use Rattle.wedge_cli.specs.declared.writing.KeptRun.{KeptRun}
use Rattle.wedge_cli.specs.declared.writing.Text.{Text}
use Rattle.refusal_lines.specs.Lines.{line, usage_line, refusal_text, status_of}
use Rattle.cli_inputs.specs.Loading.{image_from_bytes, built_of}
use Rattle.cli_inputs.specs.declared.refusal.PartRefusal.{PartRefusal}
use Rattle.cli_inputs.specs.declared.refusal.ScheduleRefusal.{ScheduleRefusal}
use Rattle.image_form.specs.declared.fault.Fault.{Fault}
use Rattle.elf_in.specs.declared.fault.Fault.{Fault as ElfFault}
use Rattle.trace_form.specs.declared.fault.TraceFault.{TraceFault}
use Rattle.sheet_enforce.specs.declared.violations.Violation.{Violation}
use Rattle.cli_inputs.specs.Replaying.{Making, report_made, trace_made, text_of_replay, replay_text, log_text}
use Rattle.cli_inputs.specs.Linking.{link_text, IsLinkedImage}
use Rattle.cli_inputs.specs.Enforcing.{Check, emulated, enforced, text_of_check, emulate_text, enforce_text, IsOwnTrace}
use Rattle.cli_inputs.proofs.OwnTraces.{own_emulated, own_enforced}
use Rattle.cli_inputs.specs.Words.{Asked, Run, Show, Build, Link, Replay, Log, Emulate, Enforce, Derive, Analyze, Gen}
use Rattle.wedge_cli.specs.Outside.{Device, Sinks, Outside, Rises, Takes}
use Rattle.trace_form.specs.Records.{records_of}
use Rattle.cb_analyze.specs.Sheets.{sheets_of}
use Rattle.cb_analyze.specs.Texts.{sheets_text}
use Rattle.command_texts.specs.Answers.{IsPairAnswer, IsTripleAnswer, IsTraceAnswer}
use Rattle.command_texts.specs.Causes.{IsReplayRefused, IsCheckRefused, IsEnforceRefused, IsThreeFault}
use Rattle.wedge_cli.specs.Ended.{AreTaken, IsAnswered, on_out, IsWritten, IsSaid, IsLinkDone, IsCutShort, IsAnswerEnd, done_status, no_run}
use Rattle.cli_inputs.specs.declared.words.Query.{Query}
use Rattle.cli_inputs.specs.Traces.{derive_text, analyze_text, query_lines, answer_to, unless_fault, IsTraceRefused, IsQueryRefused}
use Rattle.wedge_cli.specs.Causes.{IsRefused, IsUnfit, IsRejected, IsElfRejected, IsUnknown, IsViolated, IsUnreadable, SaysRefusal, IsRefusal, IsCommandDone, IsUsage, IsCommandAnswer}
use Rattle.wedge_cli.proofs.Written.{Rise, written_status, said_status, said_nothing, took_out, took_err}
use Rattle.wedge_cli.proofs.Links.{unjoined, link_refusal}

-- what was done with a command: it was refused, or its texts were written
abbrev pub IsEither : Asked → Ended → Outside → Outside → Type 0
IsEither a ended before after = IsRefusal a ended before after ⊎ IsCommandDone a ended before after

-- the status of a refusal, of out of memory for its line, or of a fault
abbrev pub IsRefusalStatus : Refusal → ℕ → Device → Device → Type 0
IsRefusalStatus why status e f = (status ≡ status_of why) ⊎ (status ≡ 6) ⊎ ((status ≡ 5) × Rises e f)

pub refusal_status : (why : Refusal) (ended : Ended) (e f : Device) → SaysRefusal why ended e f → IsRefusalStatus why ended.status e f
refusal_status why ended e f (inl said) =
    elim (said_status (status_of why) (line (refusal_text why)) ended e f said) [ inl is ↦ inl is | inr fault ↦ inr (inr fault) ]
refusal_status why ended e f (inr said) =
    elim (said_status 6 (line (refusal_text refusal.NoMemory)) ended e f said) [ inl is ↦ inr (inl is) | inr fault ↦ inr (inr fault) ]

-- what is done has status 0 or 7
done_or_again : (d : Option Differs) → (done_status d ≡ 0) ⊎ (done_status d ≡ 7)
done_or_again None = inl refl
done_or_again (Some d) = inr refl

-- or 5 where a count of faults rose
pub status_of_done : (a : Asked) (ended : Ended) (before after : Outside) → IsCommandDone a ended before after
    → (ended.status ≡ 0) ⊎ (ended.status ≡ 7) ⊎ ((ended.status ≡ 5) × Rise before.sinks after.sinks)
status_of_done a ended before after d =
    elim (written_status (done_status d.kept.differs) d.kept d.texts ended before.sinks after.sinks d.written) [
      | inl is ↦ elim (done_or_again d.kept.differs) [ inl zero ↦ inl (is ∙ zero) | inr seven ↦ inr (inl (is ∙ seven)) ]
      | inr fault ↦ inr (inr fault)
    ]

-- a status other than 0, 5, 6 and 7 is that of a refusal, which has its cause
by_refusal : {P : Type 0} {n : ℕ} (a : Asked) (ended : Ended) (before after : Outside) → (0 ≡ n → ⊥) → (5 ≡ n → ⊥) → (6 ≡ n → ⊥) → (7 ≡ n → ⊥) → IsEither a ended before after → ended.status ≡ n
    → ((r : Refusal) → IsRefused a before.files before.reads after.reads r → status_of r ≡ n → P) → P
by_refusal a ended before after zero five six seven (inl r) is each =
    elim (refusal_status r.why ended before.sinks.err after.sinks.err r.err) [
      | inl status ↦ each r.why r.cause (sym status ∙ is)
      | inr (inl status) ↦ absurd (six (sym status ∙ is))
      | inr (inr fault) ↦ absurd (five (sym fault.0 ∙ is))
    ]
by_refusal a ended before after zero five six seven (inr d) is each =
    elim (status_of_done a ended before after d) [
      | inl status ↦ absurd (zero (sym status ∙ is))
      | inr (inl status) ↦ absurd (seven (sym status ∙ is))
      | inr (inr fault) ↦ absurd (five (sym fault.0 ∙ is))
    ]

-- whether a status is another one
abbrev Not : ℕ → ℕ → Type 0
Not status n = status ≡ n → ⊥

-- no refusal has the status 0, 2, 5 or 7
other_than : (r : Refusal) (n : ℕ) → (n ≡ 0) ⊎ (n ≡ 2) ⊎ (n ≡ 5) ⊎ (n ≡ 7) → Not (status_of r) n
other_than refusal.NoMemory n h e = absurd (omega arith)
other_than (refusal.Read file) n h e = absurd (omega arith)
other_than (refusal.Image fault) n h e = absurd (omega arith)
other_than (refusal.Partition p) n h e = absurd (omega arith)
other_than (refusal.Schedule s) n h e = absurd (omega arith)
other_than (refusal.Trace fault) n h e = absurd (omega arith)
other_than (refusal.Elf fault) n h e = absurd (omega arith)
other_than (refusal.NoSuchName item) n h e = absurd (omega arith)
other_than (refusal.Violation v) n h e = absurd (omega arith)

-- ---- which refusals have a status

of_3 : (r : Refusal) → status_of r ≡ 3 → ((f : Fault) × (r ≡ refusal.Image f)) ⊎ ((p : PartRefusal) × (r ≡ refusal.Partition p))
of_3 refusal.NoMemory e = absurd (omega arith)
of_3 (refusal.Read file) e = absurd (omega arith)
of_3 (refusal.Image fault) e = inl (fault, refl)
of_3 (refusal.Partition p) e = inr (p, refl)
of_3 (refusal.Schedule s) e = absurd (omega arith)
of_3 (refusal.Trace fault) e = absurd (omega arith)
of_3 (refusal.Elf fault) e = absurd (omega arith)
of_3 (refusal.NoSuchName item) e = absurd (omega arith)
of_3 (refusal.Violation v) e = absurd (omega arith)

of_4 : (r : Refusal) → status_of r ≡ 4 → (file : List ℕ) × (r ≡ refusal.Read file)
of_4 refusal.NoMemory e = absurd (omega arith)
of_4 (refusal.Read file) e = (file, refl)
of_4 (refusal.Image fault) e = absurd (omega arith)
of_4 (refusal.Partition p) e = absurd (omega arith)
of_4 (refusal.Schedule s) e = absurd (omega arith)
of_4 (refusal.Trace fault) e = absurd (omega arith)
of_4 (refusal.Elf fault) e = absurd (omega arith)
of_4 (refusal.NoSuchName item) e = absurd (omega arith)
of_4 (refusal.Violation v) e = absurd (omega arith)

of_8 : (r : Refusal) → status_of r ≡ 8 → ((s : ScheduleRefusal) × (r ≡ refusal.Schedule s)) ⊎ ((f : TraceFault) × (r ≡ refusal.Trace f))
of_8 refusal.NoMemory e = absurd (omega arith)
of_8 (refusal.Read file) e = absurd (omega arith)
of_8 (refusal.Image fault) e = absurd (omega arith)
of_8 (refusal.Partition p) e = absurd (omega arith)
of_8 (refusal.Schedule s) e = inl (s, refl)
of_8 (refusal.Trace fault) e = inr (fault, refl)
of_8 (refusal.Elf fault) e = absurd (omega arith)
of_8 (refusal.NoSuchName item) e = absurd (omega arith)
of_8 (refusal.Violation v) e = absurd (omega arith)

of_9 : (r : Refusal) → status_of r ≡ 9 → (name : List ℕ) × (r ≡ refusal.NoSuchName name)
of_9 refusal.NoMemory e = absurd (omega arith)
of_9 (refusal.Read file) e = absurd (omega arith)
of_9 (refusal.Image fault) e = absurd (omega arith)
of_9 (refusal.Partition p) e = absurd (omega arith)
of_9 (refusal.Schedule s) e = absurd (omega arith)
of_9 (refusal.Trace fault) e = absurd (omega arith)
of_9 (refusal.Elf fault) e = absurd (omega arith)
of_9 (refusal.NoSuchName item) e = (item, refl)
of_9 (refusal.Violation v) e = absurd (omega arith)

of_10 : (r : Refusal) → status_of r ≡ 10 → (f : ElfFault) × (r ≡ refusal.Elf f)
of_10 refusal.NoMemory e = absurd (omega arith)
of_10 (refusal.Read file) e = absurd (omega arith)
of_10 (refusal.Image fault) e = absurd (omega arith)
of_10 (refusal.Partition p) e = absurd (omega arith)
of_10 (refusal.Schedule s) e = absurd (omega arith)
of_10 (refusal.Trace fault) e = absurd (omega arith)
of_10 (refusal.Elf fault) e = (fault, refl)
of_10 (refusal.NoSuchName item) e = absurd (omega arith)
of_10 (refusal.Violation v) e = absurd (omega arith)

of_11 : (r : Refusal) → status_of r ≡ 11 → (v : Violation) × (r ≡ refusal.Violation v)
of_11 refusal.NoMemory e = absurd (omega arith)
of_11 (refusal.Read file) e = absurd (omega arith)
of_11 (refusal.Image fault) e = absurd (omega arith)
of_11 (refusal.Partition p) e = absurd (omega arith)
of_11 (refusal.Schedule s) e = absurd (omega arith)
of_11 (refusal.Trace fault) e = absurd (omega arith)
of_11 (refusal.Elf fault) e = absurd (omega arith)
of_11 (refusal.NoSuchName item) e = absurd (omega arith)
of_11 (refusal.Violation v) e = (v, refl)

-- ---- 3

is_err_of : (meant : Result Image Refusal) (r : Refusal) → meant ≡ Err r → IsErr meant
is_err_of (Ok i) r e = absurd cc
is_err_of (Err q) r e = refl

unfit_image : (a : Asked) (files : List ℕ → Option (List ℕ)) (before after : List ℕ → ℕ) (f : Fault)
    → IsRefused a files before after (refusal.Image f) → IsUnfit a files
unfit_image (Run image flag) files before after f h = λ bytes exposed. is_err_of (image_from_bytes bytes) (refusal.Image f) (h bytes exposed)
unfit_image (Show image) files before after f h = λ bytes exposed. is_err_of (image_from_bytes bytes) (refusal.Image f) (h bytes exposed)
unfit_image (Build part) files before after f h = λ bytes exposed. is_err_of (built_of bytes) (refusal.Image f) (h bytes exposed)
unfit_image (Link elf part) files before after f h = λ bytes text elf_is part_is. unjoined bytes text (refusal.Image f) (λ g e. cc) (h bytes text elf_is part_is)
unfit_image (Replay image schedule) files before after f h = λ bytes exposed. is_err_of (image_from_bytes bytes) (refusal.Image f) (h.1 bytes exposed)
unfit_image (Log image schedule) files before after f h = λ bytes exposed. is_err_of (image_from_bytes bytes) (refusal.Image f) (h.1 bytes exposed)
unfit_image (Emulate image schedule trace) files before after f h = λ bytes exposed. is_err_of (image_from_bytes bytes) (refusal.Image f) (h.1 bytes exposed)
unfit_image (Enforce image schedule trace) files before after f h = λ bytes exposed. is_err_of (image_from_bytes bytes) (refusal.Image f) (h.1 bytes exposed)
unfit_image (Derive trace) files before after f h = absurd h
unfit_image (Analyze trace query name) files before after f h = absurd h
unfit_image (Gen workers) files before after f h = absurd cc

unfit_partition : (a : Asked) (files : List ℕ → Option (List ℕ)) (before after : List ℕ → ℕ) (p : PartRefusal)
    → IsRefused a files before after (refusal.Partition p) → IsUnfit a files
unfit_partition (Run image flag) files before after p h = λ bytes exposed. is_err_of (image_from_bytes bytes) (refusal.Partition p) (h bytes exposed)
unfit_partition (Show image) files before after p h = λ bytes exposed. is_err_of (image_from_bytes bytes) (refusal.Partition p) (h bytes exposed)
unfit_partition (Build part) files before after p h = λ bytes exposed. is_err_of (built_of bytes) (refusal.Partition p) (h bytes exposed)
unfit_partition (Link elf part) files before after p h = λ bytes text elf_is part_is. unjoined bytes text (refusal.Partition p) (λ g e. cc) (h bytes text elf_is part_is)
unfit_partition (Replay image schedule) files before after p h = absurd h
unfit_partition (Log image schedule) files before after p h = absurd h
unfit_partition (Emulate image schedule trace) files before after p h = absurd h
unfit_partition (Enforce image schedule trace) files before after p h = absurd h
unfit_partition (Derive trace) files before after p h = absurd h
unfit_partition (Analyze trace query name) files before after p h = absurd h
unfit_partition (Gen workers) files before after p h = absurd cc

pub image_only : (a : Asked) (ended : Ended) (before after : Outside) → IsEither a ended before after → ended.status ≡ 3 → IsUnfit a before.files
image_only a ended before after either is =
    by_refusal a ended before after (λ e. omega (arith, e)) (λ e. omega (arith, e)) (λ e. omega (arith, e)) (λ e. omega (arith, e)) either is (λ r h e. elim (of_3 r e) [
      | inl i ↦ unfit_image a before.files before.reads after.reads i.0 (subst (IsRefused a before.files before.reads after.reads) i.1 h)
      | inr p ↦ unfit_partition a before.files before.reads after.reads p.0 (subst (IsRefused a before.files before.reads after.reads) p.1 h)
    ])

-- ---- 4

three_unread : (image schedule trace : List ℕ) (files : List ℕ → Option (List ℕ)) (before after : List ℕ → ℕ) (file : List ℕ)
    → IsThreeFault image schedule trace files before after file
    → (before image < after image) ⊎ (before schedule < after schedule) ⊎ (before trace < after trace)
three_unread image schedule trace files before after file (inl (inl h)) = inl h.rose
three_unread image schedule trace files before after file (inl (inr h)) = inr (inl h.0.rose)
three_unread image schedule trace files before after file (inr h) = inr (inr h.0.rose)

unread : (a : Asked) (files : List ℕ → Option (List ℕ)) (before after : List ℕ → ℕ) (file : List ℕ)
    → IsRefused a files before after (refusal.Read file) → IsUnreadable a before after
unread (Run image flag) files before after file h = h.rose
unread (Show image) files before after file h = h.rose
unread (Build part) files before after file h = h.rose
unread (Link elf part) files before after file h = elim h [ inl x ↦ inl x.rose | inr x ↦ inr x.0.rose ]
unread (Replay image schedule) files before after file h = elim h [ inl x ↦ inl x.rose | inr x ↦ inr x.0.rose ]
unread (Log image schedule) files before after file h = elim h [ inl x ↦ inl x.rose | inr x ↦ inr x.0.rose ]
unread (Emulate image schedule trace) files before after file h = three_unread image schedule trace files before after file h
unread (Enforce image schedule trace) files before after file h = three_unread image schedule trace files before after file h
unread (Derive trace) files before after file h = h.rose
unread (Analyze trace query name) files before after file h = h.rose
unread (Gen workers) files before after file h = absurd cc

pub read_only : (a : Asked) (ended : Ended) (before after : Outside) → IsEither a ended before after → ended.status ≡ 4 → IsUnreadable a before.reads after.reads
read_only a ended before after either is =
    by_refusal a ended before after (λ e. omega (arith, e)) (λ e. omega (arith, e)) (λ e. omega (arith, e)) (λ e. omega (arith, e)) either is (λ r h e.
    let x = of_4 r e in unread a before.files before.reads after.reads x.0 (subst (IsRefused a before.files before.reads after.reads) x.1 h))

-- ---- 8

rejected_schedule : (a : Asked) (files : List ℕ → Option (List ℕ)) (before after : List ℕ → ℕ) (s : ScheduleRefusal)
    → IsRefused a files before after (refusal.Schedule s) → IsRejected a files
rejected_schedule (Run image flag) files before after s h = absurd h
rejected_schedule (Show image) files before after s h = absurd h
rejected_schedule (Build part) files before after s h = absurd h
rejected_schedule (Link elf part) files before after s h = absurd h
rejected_schedule (Replay image schedule) files before after s h = (s, h)
rejected_schedule (Log image schedule) files before after s h = (s, h)
rejected_schedule (Emulate image schedule trace) files before after s h = inl (s, h)
rejected_schedule (Enforce image schedule trace) files before after s h = inl (s, h)
rejected_schedule (Derive trace) files before after s h = absurd h
rejected_schedule (Analyze trace query name) files before after s h = absurd h
rejected_schedule (Gen workers) files before after s h = absurd cc

rejected_trace : (a : Asked) (files : List ℕ → Option (List ℕ)) (before after : List ℕ → ℕ) (f : TraceFault)
    → IsRefused a files before after (refusal.Trace f) → IsRejected a files
rejected_trace (Run image flag) files before after f h = absurd h
rejected_trace (Show image) files before after f h = absurd h
rejected_trace (Build part) files before after f h = absurd h
rejected_trace (Link elf part) files before after f h = absurd h
rejected_trace (Replay image schedule) files before after f h = absurd h
rejected_trace (Log image schedule) files before after f h = absurd h
rejected_trace (Emulate image schedule trace) files before after f h = inr (f, h)
rejected_trace (Enforce image schedule trace) files before after f h = inr (f, h)
rejected_trace (Derive trace) files before after f h = (f, h)
rejected_trace (Analyze trace query name) files before after f h = (f, h)
rejected_trace (Gen workers) files before after f h = absurd cc

pub rejected_only : (a : Asked) (ended : Ended) (before after : Outside) → IsEither a ended before after → ended.status ≡ 8 → IsRejected a before.files
rejected_only a ended before after either is =
    by_refusal a ended before after (λ e. omega (arith, e)) (λ e. omega (arith, e)) (λ e. omega (arith, e)) (λ e. omega (arith, e)) either is (λ r h e. elim (of_8 r e) [
      | inl s ↦ rejected_schedule a before.files before.reads after.reads s.0 (subst (IsRefused a before.files before.reads after.reads) s.1 h)
      | inr t ↦ rejected_trace a before.files before.reads after.reads t.0 (subst (IsRefused a before.files before.reads after.reads) t.1 h)
    ])

-- ---- 9

unknown : (a : Asked) (files : List ℕ → Option (List ℕ)) (before after : List ℕ → ℕ) (item : List ℕ)
    → IsRefused a files before after (refusal.NoSuchName item) → IsUnknown a files
unknown (Run image flag) files before after item h = absurd h
unknown (Show image) files before after item h = absurd h
unknown (Build part) files before after item h = absurd h
unknown (Link elf part) files before after item h = absurd h
unknown (Replay image schedule) files before after item h = absurd h
unknown (Log image schedule) files before after item h = absurd h
unknown (Emulate image schedule trace) files before after item h = absurd h
unknown (Enforce image schedule trace) files before after item h = absurd h
unknown (Derive trace) files before after item h = absurd h
unknown (Analyze trace query name) files before after item h = h.1
unknown (Gen workers) files before after item h = absurd cc

pub name_only : (a : Asked) (ended : Ended) (before after : Outside) → IsEither a ended before after → ended.status ≡ 9 → IsUnknown a before.files
name_only a ended before after either is =
    by_refusal a ended before after (λ e. omega (arith, e)) (λ e. omega (arith, e)) (λ e. omega (arith, e)) (λ e. omega (arith, e)) either is (λ r h e.
    let x = of_9 r e in unknown a before.files before.reads after.reads x.0 (subst (IsRefused a before.files before.reads after.reads) x.1 h))

-- ---- 10

elf_rejected : (a : Asked) (files : List ℕ → Option (List ℕ)) (before after : List ℕ → ℕ) (f : ElfFault)
    → IsRefused a files before after (refusal.Elf f) → IsElfRejected a files
elf_rejected (Run image flag) files before after f h = absurd h
elf_rejected (Show image) files before after f h = absurd h
elf_rejected (Build part) files before after f h = absurd h
elf_rejected (Link elf part) files before after f h = (f, h.1)
elf_rejected (Replay image schedule) files before after f h = absurd h
elf_rejected (Log image schedule) files before after f h = absurd h
elf_rejected (Emulate image schedule trace) files before after f h = absurd h
elf_rejected (Enforce image schedule trace) files before after f h = absurd h
elf_rejected (Derive trace) files before after f h = absurd h
elf_rejected (Analyze trace query name) files before after f h = absurd h
elf_rejected (Gen workers) files before after f h = absurd cc

pub elf_only : (a : Asked) (ended : Ended) (before after : Outside) → IsEither a ended before after → ended.status ≡ 10 → IsElfRejected a before.files
elf_only a ended before after either is =
    by_refusal a ended before after (λ e. omega (arith, e)) (λ e. omega (arith, e)) (λ e. omega (arith, e)) (λ e. omega (arith, e)) either is (λ r h e.
    let x = of_10 r e in elf_rejected a before.files before.reads after.reads x.0 (subst (IsRefused a before.files before.reads after.reads) x.1 h))

-- ---- 11

violated : (a : Asked) (files : List ℕ → Option (List ℕ)) (before after : List ℕ → ℕ) (v : Violation)
    → IsRefused a files before after (refusal.Violation v) → IsViolated a files
violated (Run image flag) files before after v h = absurd h
violated (Show image) files before after v h = absurd h
violated (Build part) files before after v h = absurd h
violated (Link elf part) files before after v h = absurd h
violated (Replay image schedule) files before after v h = absurd h
violated (Log image schedule) files before after v h = absurd h
violated (Emulate image schedule trace) files before after v h = absurd h
violated (Enforce image schedule trace) files before after v h = (v, h)
violated (Derive trace) files before after v h = absurd h
violated (Analyze trace query name) files before after v h = absurd h
violated (Gen workers) files before after v h = absurd cc

pub enforced_only : (a : Asked) (ended : Ended) (before after : Outside) → IsEither a ended before after → ended.status ≡ 11 → IsViolated a before.files
enforced_only a ended before after either is =
    by_refusal a ended before after (λ e. omega (arith, e)) (λ e. omega (arith, e)) (λ e. omega (arith, e)) (λ e. omega (arith, e)) either is (λ r h e.
    let x = of_11 r e in violated a before.files before.reads after.reads x.0 (subst (IsRefused a before.files before.reads after.reads) x.1 h))

-- ---- 2

not_2 : (a : Asked) (ended : Ended) (before after : Outside) → IsEither a ended before after → Not ended.status 2
not_2 a ended before after (inl r) is =
    elim (refusal_status r.why ended before.sinks.err after.sinks.err r.err) [
      | inl status ↦ other_than r.why 2 (inr (inl refl)) (sym status ∙ is)
      | inr (inl status) ↦ absurd (omega (arith, status, is))
      | inr (inr fault) ↦ absurd (omega (arith, fault.0, is))
    ]
not_2 a ended before after (inr d) is =
    elim (status_of_done a ended before after d) [
      | inl status ↦ absurd (omega (arith, status, is))
      | inr (inl status) ↦ absurd (omega (arith, status, is))
      | inr (inr fault) ↦ absurd (omega (arith, fault.0, is))
    ]

none_unless : (asked : Option Asked) → ((a : Asked) → asked ≡ Some a → ⊥) → asked ≡ None
none_unless None h = refl
none_unless (Some a) h = absurd (h a refl)

pub usage_only : (asked : Option Asked) (ended : Ended) (before after : Outside) → IsCommandAnswer asked ended before after → ended.status ≡ 2 → asked ≡ None
usage_only asked ended before after w is = none_unless asked (λ a h. not_2 a ended before after (w.command a h) is)

-- arguments that are no command
pub usage_answer : (asked : Option Asked) (ended : Ended) (before after : Outside) → asked ≡ None → IsUsage ended before after → IsCommandAnswer asked ended before after
usage_answer asked ended before after none said = record { usage = λ same. said; command = λ a some. absurd cc }

-- ---- 5

rises_by : (a : Asked) (ended : Ended) (before after : Outside) → IsEither a ended before after → ended.status ≡ 5 → Rise before.sinks after.sinks
rises_by a ended before after (inl r) is =
    elim (refusal_status r.why ended before.sinks.err after.sinks.err r.err) [
      | inl status ↦ absurd (other_than r.why 5 (inr (inr (inl refl))) (sym status ∙ is))
      | inr (inl status) ↦ absurd (omega (arith, status, is))
      | inr (inr fault) ↦ inr fault.1
    ]
rises_by a ended before after (inr d) is =
    elim (status_of_done a ended before after d) [
      | inl status ↦ absurd (omega (arith, status, is))
      | inr (inl status) ↦ absurd (omega (arith, status, is))
      | inr (inr fault) ↦ fault.1
    ]

pub write_only : (asked : Option Asked) (ended : Ended) (before after : Outside) → IsCommandAnswer asked ended before after → ended.status ≡ 5 → Rise before.sinks after.sinks
write_only None ended before after w is =
    elim (said_status 2 usage_line ended before.sinks.err after.sinks.err (w.usage refl).err) [
      | inl status ↦ absurd (omega (arith, status, is))
      | inr fault ↦ inr fault.1
    ]
write_only (Some a) ended before after w is = rises_by a ended before after (w.command a refl) is

-- ---- 6

-- what is done has another status
done_not_6 : (a : Asked) (ended : Ended) (before after : Outside) → IsCommandDone a ended before after → Not ended.status 6
done_not_6 a ended before after d is =
    elim (status_of_done a ended before after d) [
      | inl status ↦ absurd (omega (arith, status, is))
      | inr (inl status) ↦ absurd (omega (arith, status, is))
      | inr (inr fault) ↦ absurd (omega (arith, fault.0, is))
    ]

pub unwritten : (asked : Option Asked) (ended : Ended) (before after : Outside) → IsCommandAnswer asked ended before after → ended.status ≡ 6 → after.sinks.out ≡ before.sinks.out
unwritten None ended before after w is = (w.usage refl).out
unwritten (Some a) ended before after w is =
    elim (w.command a refl) [
      | inl r ↦ r.out
      | inr d ↦ absurd (done_not_6 a ended before after d is)
    ]

-- ---- 7

said_not_7 : (status : ℕ) (text : List ℕ) (ended : Ended) (e f : Device) → IsSaid status text ended e f → Not status 7 → Not ended.status 7
said_not_7 status text ended e f said other is =
    elim (said_status status text ended e f said) [ inl same ↦ other (sym same ∙ is) | inr fault ↦ absurd (omega (arith, fault.0, is)) ]

pub refused_not_7 : (a : Asked) (ended : Ended) (before after : Outside) → IsRefusal a ended before after → Not ended.status 7
refused_not_7 a ended before after r is =
    elim r.err [
      | inl said ↦ said_not_7 (status_of r.why) (line (refusal_text r.why)) ended before.sinks.err after.sinks.err said (other_than r.why 7 (inr (inr (inr refl)))) is
      | inr said ↦ said_not_7 6 (line (refusal_text refusal.NoMemory)) ended before.sinks.err after.sinks.err said (λ e. omega (arith, e)) is
    ]

is_some_by : (d : Option Differs) → done_status d ≡ 7 → IsSome d
is_some_by None is = absurd (omega (arith, is))
is_some_by (Some d) is = refl

seven_by : (d : Option Differs) → IsSome d → done_status d ≡ 7
seven_by None is = absurd cc
seven_by (Some d) is = refl

none_differs : (d : Option Differs) → d ≡ None → IsSome d → ⊥
none_differs None e is = absurd cc
none_differs (Some d) e is = absurd cc

done_differs : (a : Asked) (ended : Ended) (before after : Outside) → IsCommandDone a ended before after → ended.status ≡ 7 → IsSome ended.differs
done_differs a ended before after d is =
    elim d.written.cases [
      | inl done ↦ subst (λ x. IsSome x) (sym done.2) (is_some_by d.kept.differs (sym done.1 ∙ is))
      | inr fault ↦ absurd (omega (arith, fault.1, is))
    ]

pub differs_only : (asked : Option Asked) (ended : Ended) (before after : Outside) → IsCommandAnswer asked ended before after → ended.status ≡ 7 → IsSome ended.differs
differs_only None ended before after w is = absurd (said_not_7 2 usage_line ended before.sinks.err after.sinks.err (w.usage refl).err (λ e. omega (arith, e)) is)
differs_only (Some a) ended before after w is =
    elim (w.command a refl) [
      | inl r ↦ absurd (refused_not_7 a ended before after r is)
      | inr d ↦ done_differs a ended before after d is
    ]

refused_nothing : (a : Asked) (ended : Ended) (before after : Outside) → IsRefusal a ended before after → ended.differs ≡ None
refused_nothing a ended before after r =
    elim r.err [
      | inl said ↦ said_nothing (status_of r.why) (line (refusal_text r.why)) ended before.sinks.err after.sinks.err said
      | inr said ↦ said_nothing 6 (line (refusal_text refusal.NoMemory)) ended before.sinks.err after.sinks.err said
    ]

differs_done : (a : Asked) (ended : Ended) (before after : Outside) → IsCommandDone a ended before after → IsSome ended.differs → ended.status ≡ 7
differs_done a ended before after d some =
    elim d.written.cases [
      | inl done ↦ done.1 ∙ seven_by d.kept.differs (subst (λ x. IsSome x) done.2 some)
      | inr fault ↦ absurd (none_differs ended.differs fault.2 some)
    ]

pub differs_7 : (asked : Option Asked) (ended : Ended) (before after : Outside) → IsCommandAnswer asked ended before after → IsSome ended.differs → ended.status ≡ 7
differs_7 None ended before after w some = absurd (none_differs ended.differs (said_nothing 2 usage_line ended before.sinks.err after.sinks.err (w.usage refl).err) some)
differs_7 (Some a) ended before after w some =
    elim (w.command a refl) [
      | inl r ↦ absurd (none_differs ended.differs (refused_nothing a ended before after r) some)
      | inr d ↦ differs_done a ended before after d some
    ]

-- a command that is refused has another status
pub refused_not_0 : (a : Asked) (ended : Ended) (before after : Outside) → IsRefusal a ended before after → ended.status ≡ 0 → ⊥
refused_not_0 a ended before after r is =
    elim (refusal_status r.why ended before.sinks.err after.sinks.err r.err) [
      | inl status ↦ other_than r.why 0 (inl refl) (sym status ∙ is)
      | inr (inl status) ↦ absurd (omega (arith, status, is))
      | inr (inr fault) ↦ absurd (omega (arith, fault.0, is))
    ]

-- ---- a replay

-- the answer of both files is this refusal, or memory ran out, or a read failed
replay_refusal : (make : Making) (image schedule bytes names : List ℕ) (files : List ℕ → Option (List ℕ)) (before after : List ℕ → ℕ) (r : Refusal)
    → IsReplayRefused make image schedule files before after r → files image ≡ Some bytes → files schedule ≡ Some names
    → IsCutShort (status_of r) ⊎ (text_of_replay make bytes names ≡ Err r)
replay_refusal make image schedule bytes names files before after refusal.NoMemory h image_is schedule_is = inl (inr (inr refl))
replay_refusal make image schedule bytes names files before after (refusal.Read file) h image_is schedule_is = inl (inl refl)
replay_refusal make image schedule bytes names files before after (refusal.Image fault) h image_is schedule_is = inr (h.0 bytes names image_is schedule_is)
replay_refusal make image schedule bytes names files before after (refusal.Partition p) h image_is schedule_is = absurd h
replay_refusal make image schedule bytes names files before after (refusal.Schedule s) h image_is schedule_is = inr (h bytes names image_is schedule_is)
replay_refusal make image schedule bytes names files before after (refusal.Trace fault) h image_is schedule_is = absurd h
replay_refusal make image schedule bytes names files before after (refusal.Elf fault) h image_is schedule_is = absurd h
replay_refusal make image schedule bytes names files before after (refusal.NoSuchName item) h image_is schedule_is = absurd h
replay_refusal make image schedule bytes names files before after (refusal.Violation v) h image_is schedule_is = absurd h

-- a line that was said with its status, or the status of a write that failed
said_line : (status : ℕ) (text : List ℕ) (ended : Ended) (e f : Device) → IsSaid status text ended e f
    → ((ended.status ≡ status) × Takes text e f) ⊎ (ended.status ≡ 5)
said_line status text ended e f said =
    elim (said e).cases [
      | inl done ↦ inl (done.1, took_err text (record { out = e; err = e }) (record { out = e; err = f }) done.0)
      | inr fault ↦ inr fault.1
    ]

-- ---- commands that write an answer

-- a command that is refused has the status and the line of that, unless it was cut short
abbrev pub IsRefusalEnd : Refusal → ℕ → Sinks → Sinks → Type 0
IsRefusalEnd why status before after = (status ≡ status_of why) × Takes (line (refusal_text why)) before.err after.err × (after.out ≡ before.out)

pub refused_end : (P : Type 0) (a : Asked) (ended : Ended) (before after : Outside) (r : IsRefusal a ended before after)
    → IsCutShort (status_of r.why) ⊎ (IsRefusalEnd r.why ended.status before.sinks after.sinks → P) → IsCutShort ended.status ⊎ P
refused_end P a ended before after r because =
    elim r.err [
      | inl said ↦ elim (said_line (status_of r.why) (line (refusal_text r.why)) ended before.sinks.err after.sinks.err said) [
        | inl done ↦ elim because [
          | inl short ↦ inl (subst IsCutShort (sym done.0) short)
          | inr answer ↦ inr (answer (done.0, done.1, r.out))
        ]
        | inr fault ↦ inl (inr (inl fault))
      ]
      | inr said ↦ elim (said_line 6 (line (refusal_text refusal.NoMemory)) ended before.sinks.err after.sinks.err said) [
        | inl done ↦ inl (inr (inr done.0))
        | inr fault ↦ inl (inr (inl fault))
      ]
    ]

-- and ended as its answer says, if the answer is that refusal
answer_refused : (meant : Result (List ℕ) Refusal) (a : Asked) (ended : Ended) (before after : Outside) (r : IsRefusal a ended before after)
    → IsCutShort (status_of r.why) ⊎ (meant ≡ Err r.why) → IsCutShort ended.status ⊎ IsAnswerEnd meant ended.status before.sinks after.sinks
answer_refused meant a ended before after r because =
    refused_end (IsAnswerEnd meant ended.status before.sinks after.sinks) a ended before after r
    (elim because [ inl short ↦ inl short | inr answer ↦ inr (λ end. subst (λ m. IsAnswerEnd m ended.status before.sinks after.sinks) (sym answer) end) ])

-- where nothing was run, nothing differs
ran_nothing : (kept : KeptRun) → kept ≡ no_run → done_status kept.differs ≡ 0
ran_nothing kept is = ap (λ (k : KeptRun). done_status k.differs) is

-- and one that is done, if its text is the answer
answer_done : (meaning : List ℕ → Result (List ℕ) Refusal) (content : Option (List ℕ)) (bytes : List ℕ) (kept : KeptRun) (texts : List Text) (ended : Ended) (s u : Sinks)
    → IsAnswered (IsTraceAnswer meaning content) kept texts → content ≡ Some bytes → IsWritten (done_status kept.differs) kept texts ended s u
    → IsCutShort ended.status ⊎ IsAnswerEnd (meaning bytes) ended.status s u
answer_done meaning content bytes kept texts ended s u made exposed written =
    let same : meaning bytes ≡ Ok made.text = ap meaning (sym (made.is.bytes_are bytes exposed)) ∙ made.is.meant in
    elim written.cases [
      | inl done ↦
          let took : Takes made.text s.out u.out × (u.err ≡ s.err) = took_out made.text s u (subst (λ ts. AreTaken ts s u) made.are done.0) in
          inr (subst (λ m. IsAnswerEnd m ended.status s u) (sym same) (done.1 ∙ ran_nothing kept made.kept_is, took.0, took.1))
      | inr fault ↦ inl (inr (inl fault.1))
    ]

-- the same of an answer of two files
pair_done : (meaning : List ℕ → List ℕ → Result (List ℕ) Refusal) (one other : Option (List ℕ)) (first second : List ℕ) (kept : KeptRun) (texts : List Text) (ended : Ended) (s u : Sinks)
    (text : List ℕ) → IsPairAnswer meaning one other text → kept ≡ no_run → texts ≡ on_out text → one ≡ Some first → other ≡ Some second → IsWritten (done_status kept.differs) kept texts ended s u
    → IsCutShort ended.status ⊎ IsAnswerEnd (meaning first second) ended.status s u
pair_done meaning one other first second kept texts ended s u text answer none are one_is other_is written =
    let same : meaning first second ≡ Ok text =
    ap (λ b. meaning b second) (sym (answer.first_is first one_is)) ∙ ap (λ n. meaning answer.first n) (sym (answer.second_is second other_is)) ∙ answer.meant in
    elim written.cases [
      | inl done ↦
          let took : Takes text s.out u.out × (u.err ≡ s.err) = took_out text s u (subst (λ ts. AreTaken ts s u) are done.0) in
          inr (subst (λ m. IsAnswerEnd m ended.status s u) (sym same) (done.1 ∙ ran_nothing kept none, took.0, took.1))
      | inr fault ↦ inl (inr (inl fault.1))
    ]

pub replay_done : (image schedule bytes names : List ℕ) (ended : Ended) (before after : Outside) → IsEither (Replay image schedule) ended before after
    → before.files image ≡ Some bytes → before.files schedule ≡ Some names
    → IsCutShort ended.status ⊎ IsAnswerEnd (replay_text bytes names) ended.status before.sinks after.sinks
replay_done image schedule bytes names ended before after (inl r) image_is schedule_is =
    answer_refused (replay_text bytes names) (Replay image schedule) ended before after r
    (replay_refusal report_made image schedule bytes names before.files before.reads after.reads r.why r.cause image_is schedule_is)
replay_done image schedule bytes names ended before after (inr d) image_is schedule_is =
    pair_done replay_text (before.files image) (before.files schedule) bytes names d.kept d.texts ended before.sinks after.sinks d.made.text d.made.is d.made.kept_is d.made.are image_is schedule_is d.written

-- ---- a log

pub log_done : (image schedule bytes names : List ℕ) (ended : Ended) (before after : Outside) → IsEither (Log image schedule) ended before after
    → before.files image ≡ Some bytes → before.files schedule ≡ Some names
    → IsCutShort ended.status ⊎ IsAnswerEnd (log_text bytes names) ended.status before.sinks after.sinks
log_done image schedule bytes names ended before after (inl r) image_is schedule_is =
    answer_refused (log_text bytes names) (Log image schedule) ended before after r
    (replay_refusal trace_made image schedule bytes names before.files before.reads after.reads r.why r.cause image_is schedule_is)
log_done image schedule bytes names ended before after (inr d) image_is schedule_is =
    pair_done log_text (before.files image) (before.files schedule) bytes names d.kept d.texts ended before.sinks after.sinks d.made.text d.made.is d.made.kept_is d.made.are image_is schedule_is d.written

-- ---- checks

-- the answer of the three files is this refusal, or memory ran out, or a read failed
check_refusal : (check : Check) (image schedule trace bytes names records : List ℕ) (files : List ℕ → Option (List ℕ)) (before after : List ℕ → ℕ) (r : Refusal)
    → IsCheckRefused check image schedule trace files before after r → files image ≡ Some bytes → files schedule ≡ Some names → files trace ≡ Some records
    → IsCutShort (status_of r) ⊎ (text_of_check check bytes names records ≡ Err r)
check_refusal check image schedule trace bytes names records files before after refusal.NoMemory h image_is schedule_is trace_is = inl (inr (inr refl))
check_refusal check image schedule trace bytes names records files before after (refusal.Read file) h image_is schedule_is trace_is = inl (inl refl)
check_refusal check image schedule trace bytes names records files before after (refusal.Image fault) h image_is schedule_is trace_is = inr (h.0 bytes names records image_is schedule_is trace_is)
check_refusal check image schedule trace bytes names records files before after (refusal.Partition p) h image_is schedule_is trace_is = absurd h
check_refusal check image schedule trace bytes names records files before after (refusal.Schedule s) h image_is schedule_is trace_is = inr (h bytes names records image_is schedule_is trace_is)
check_refusal check image schedule trace bytes names records files before after (refusal.Trace fault) h image_is schedule_is trace_is = inr (h bytes names records image_is schedule_is trace_is)
check_refusal check image schedule trace bytes names records files before after (refusal.Elf fault) h image_is schedule_is trace_is = absurd h
check_refusal check image schedule trace bytes names records files before after (refusal.NoSuchName item) h image_is schedule_is trace_is = absurd h
check_refusal check image schedule trace bytes names records files before after (refusal.Violation v) h image_is schedule_is trace_is = absurd h

enforce_refusal : (image schedule trace bytes names records : List ℕ) (files : List ℕ → Option (List ℕ)) (before after : List ℕ → ℕ) (r : Refusal)
    → IsEnforceRefused image schedule trace files before after r → files image ≡ Some bytes → files schedule ≡ Some names → files trace ≡ Some records
    → IsCutShort (status_of r) ⊎ (enforce_text bytes names records ≡ Err r)
enforce_refusal image schedule trace bytes names records files before after refusal.NoMemory h image_is schedule_is trace_is = check_refusal enforced image schedule trace bytes names records files before after refusal.NoMemory h image_is schedule_is trace_is
enforce_refusal image schedule trace bytes names records files before after (refusal.Read file) h image_is schedule_is trace_is = check_refusal enforced image schedule trace bytes names records files before after (refusal.Read file) h image_is schedule_is trace_is
enforce_refusal image schedule trace bytes names records files before after (refusal.Image fault) h image_is schedule_is trace_is = check_refusal enforced image schedule trace bytes names records files before after (refusal.Image fault) h image_is schedule_is trace_is
enforce_refusal image schedule trace bytes names records files before after (refusal.Partition p) h image_is schedule_is trace_is = check_refusal enforced image schedule trace bytes names records files before after (refusal.Partition p) h image_is schedule_is trace_is
enforce_refusal image schedule trace bytes names records files before after (refusal.Schedule s) h image_is schedule_is trace_is = check_refusal enforced image schedule trace bytes names records files before after (refusal.Schedule s) h image_is schedule_is trace_is
enforce_refusal image schedule trace bytes names records files before after (refusal.Trace fault) h image_is schedule_is trace_is = check_refusal enforced image schedule trace bytes names records files before after (refusal.Trace fault) h image_is schedule_is trace_is
enforce_refusal image schedule trace bytes names records files before after (refusal.Elf fault) h image_is schedule_is trace_is = check_refusal enforced image schedule trace bytes names records files before after (refusal.Elf fault) h image_is schedule_is trace_is
enforce_refusal image schedule trace bytes names records files before after (refusal.NoSuchName item) h image_is schedule_is trace_is = check_refusal enforced image schedule trace bytes names records files before after (refusal.NoSuchName item) h image_is schedule_is trace_is
enforce_refusal image schedule trace bytes names records files before after (refusal.Violation v) h image_is schedule_is trace_is = inr (h bytes names records image_is schedule_is trace_is)

-- one that is done, if its text is the answer of three files
triple_done : (meaning : List ℕ → List ℕ → List ℕ → Result (List ℕ) Refusal) (one other third : Option (List ℕ)) (first second last : List ℕ) (kept : KeptRun) (texts : List Text) (ended : Ended) (s u : Sinks)
    → IsAnswered (IsTripleAnswer meaning one other third) kept texts → one ≡ Some first → other ≡ Some second → third ≡ Some last → IsWritten (done_status kept.differs) kept texts ended s u
    → IsCutShort ended.status ⊎ IsAnswerEnd (meaning first second last) ended.status s u
triple_done meaning one other third first second last kept texts ended s u made one_is other_is third_is written =
    let same : meaning first second last ≡ Ok made.text =
    ap (λ b. meaning b second last) (sym (made.is.first_is first one_is)) ∙ ap (λ n. meaning made.is.first n last) (sym (made.is.second_is second other_is))
    ∙ ap (λ n. meaning made.is.first made.is.second n) (sym (made.is.last_is last third_is)) ∙ made.is.meant in
    elim written.cases [
      | inl done ↦
          let took : Takes made.text s.out u.out × (u.err ≡ s.err) = took_out made.text s u (subst (λ ts. AreTaken ts s u) made.are done.0) in
          inr (subst (λ m. IsAnswerEnd m ended.status s u) (sym same) (done.1 ∙ ran_nothing kept made.kept_is, took.0, took.1))
      | inr fault ↦ inl (inr (inl fault.1))
    ]

pub emulate_done : (image schedule trace bytes names records : List ℕ) (ended : Ended) (before after : Outside) → IsEither (Emulate image schedule trace) ended before after
    → before.files image ≡ Some bytes → before.files schedule ≡ Some names → before.files trace ≡ Some records
    → IsCutShort ended.status ⊎ IsAnswerEnd (emulate_text bytes names records) ended.status before.sinks after.sinks
emulate_done image schedule trace bytes names records ended before after (inl r) image_is schedule_is trace_is =
    answer_refused (emulate_text bytes names records) (Emulate image schedule trace) ended before after r
    (check_refusal emulated image schedule trace bytes names records before.files before.reads after.reads r.why r.cause image_is schedule_is trace_is)
emulate_done image schedule trace bytes names records ended before after (inr d) image_is schedule_is trace_is =
    triple_done emulate_text (before.files image) (before.files schedule) (before.files trace) bytes names records d.kept d.texts ended before.sinks after.sinks d.made image_is schedule_is trace_is d.written

pub enforce_done : (image schedule trace bytes names records : List ℕ) (ended : Ended) (before after : Outside) → IsEither (Enforce image schedule trace) ended before after
    → before.files image ≡ Some bytes → before.files schedule ≡ Some names → before.files trace ≡ Some records
    → IsCutShort ended.status ⊎ IsAnswerEnd (enforce_text bytes names records) ended.status before.sinks after.sinks
enforce_done image schedule trace bytes names records ended before after (inl r) image_is schedule_is trace_is =
    answer_refused (enforce_text bytes names records) (Enforce image schedule trace) ended before after r
    (enforce_refusal image schedule trace bytes names records before.files before.reads after.reads r.why r.cause image_is schedule_is trace_is)
enforce_done image schedule trace bytes names records ended before after (inr d) image_is schedule_is trace_is =
    triple_done enforce_text (before.files image) (before.files schedule) (before.files trace) bytes names records d.kept d.texts ended before.sinks after.sinks d.made image_is schedule_is trace_is d.written

-- by the run's own trace
module _ (image schedule trace bytes names records : List ℕ) (ended : Ended) (before after : Outside) where
  pub own_emulate_done : IsEither (Emulate image schedule trace) ended before after
      → before.files image ≡ Some bytes → before.files schedule ≡ Some names → before.files trace ≡ Some records → IsOwnTrace bytes names records
      → IsCutShort ended.status ⊎ IsAnswerEnd (replay_text bytes names) ended.status before.sinks after.sinks
  own_emulate_done either image_is schedule_is trace_is own =
      subst (λ m. IsCutShort ended.status ⊎ IsAnswerEnd m ended.status before.sinks after.sinks) (own_emulated bytes names records own)
      (emulate_done image schedule trace bytes names records ended before after either image_is schedule_is trace_is)

  pub own_enforce_done : IsEither (Enforce image schedule trace) ended before after
      → before.files image ≡ Some bytes → before.files schedule ≡ Some names → before.files trace ≡ Some records → IsOwnTrace bytes names records
      → IsCutShort ended.status ⊎ IsAnswerEnd (replay_text bytes names) ended.status before.sinks after.sinks
  own_enforce_done either image_is schedule_is trace_is own =
      subst (λ m. IsCutShort ended.status ⊎ IsAnswerEnd m ended.status before.sinks after.sinks) (own_enforced bytes names records own)
      (enforce_done image schedule trace bytes names records ended before after either image_is schedule_is trace_is)

-- ---- a link

pub link_answered : (elf part bytes text : List ℕ) (ended : Ended) (before after : Outside) → IsEither (Link elf part) ended before after
    → before.files elf ≡ Some bytes → before.files part ≡ Some text
    → IsCutShort ended.status ⊎ IsAnswerEnd (link_text bytes text) ended.status before.sinks after.sinks
link_answered elf part bytes text ended before after (inl r) elf_is part_is =
    answer_refused (link_text bytes text) (Link elf part) ended before after r
    (link_refusal elf part before.files before.reads after.reads bytes text r.why r.cause elf_is part_is)
link_answered elf part bytes text ended before after (inr d) elf_is part_is =
    pair_done link_text (before.files elf) (before.files part) bytes text d.kept d.texts ended before.sinks after.sinks d.made.text d.made.is.answer d.made.kept_is d.made.are elf_is part_is d.written

linked_0 : (elf part bytes : List ℕ) (ended : Ended) (before after : Outside) → IsCommandDone (Link elf part) ended before after
    → before.files elf ≡ Some bytes → ended.status ≡ 0 → IsLinkDone bytes before.sinks after.sinks
linked_0 elf part bytes ended before after d elf_is is =
    let made = d.made in
    elim d.written.cases [
      | inl done ↦
          let took : Takes made.text before.sinks.out after.sinks.out × (after.sinks.err ≡ before.sinks.err) =
          took_out made.text before.sinks after.sinks (subst (λ ts. AreTaken ts before.sinks after.sinks) made.are done.0) in
          record { bytes = made.text; image = subst (λ b. IsLinkedImage b made.text) (made.is.answer.first_is bytes elf_is) made.is.image; out = took.0; err = took.1 }
      | inr fault ↦ absurd (omega (arith, fault.1, is))
    ]

pub link_done : (elf part bytes : List ℕ) (ended : Ended) (before after : Outside) → IsEither (Link elf part) ended before after
    → before.files elf ≡ Some bytes → ended.status ≡ 0 → IsLinkDone bytes before.sinks after.sinks
link_done elf part bytes ended before after (inl r) elf_is is = absurd (refused_not_0 (Link elf part) ended before after r is)
link_done elf part bytes ended before after (inr d) elf_is is = linked_0 elf part bytes ended before after d elf_is is

-- ---- what is asked of a trace

derive_refusal : (trace bytes : List ℕ) (content : Option (List ℕ)) (before after : ℕ) (r : Refusal)
    → IsTraceRefused trace content before after r → content ≡ Some bytes → IsCutShort (status_of r) ⊎ (derive_text bytes ≡ Err r)
derive_refusal trace bytes content before after refusal.NoMemory h exposed = inl (inr (inr refl))
derive_refusal trace bytes content before after (refusal.Read file) h exposed = inl (inl refl)
derive_refusal trace bytes content before after (refusal.Image fault) h exposed = absurd h
derive_refusal trace bytes content before after (refusal.Partition p) h exposed = absurd h
derive_refusal trace bytes content before after (refusal.Schedule s) h exposed = absurd h
derive_refusal trace bytes content before after (refusal.Trace fault) h exposed =
    inr (ap (λ f. unless_fault f (Ok (sheets_text (sheets_of (records_of bytes))))) (h bytes exposed))
derive_refusal trace bytes content before after (refusal.Elf fault) h exposed = absurd h
derive_refusal trace bytes content before after (refusal.NoSuchName item) h exposed = absurd h
derive_refusal trace bytes content before after (refusal.Violation v) h exposed = absurd h

pub derive_done : (trace bytes : List ℕ) (ended : Ended) (before after : Outside) → IsEither (Derive trace) ended before after
    → before.files trace ≡ Some bytes → IsCutShort ended.status ⊎ IsAnswerEnd (derive_text bytes) ended.status before.sinks after.sinks
derive_done trace bytes ended before after (inl r) exposed =
    answer_refused (derive_text bytes) (Derive trace) ended before after r
    (derive_refusal trace bytes (before.files trace) (before.reads trace) (after.reads trace) r.why r.cause exposed)
derive_done trace bytes ended before after (inr d) exposed =
    answer_done derive_text (before.files trace) bytes d.kept d.texts ended before.sinks after.sinks d.made exposed d.written

query_refusal : (query : Query) (name trace bytes : List ℕ) (content : Option (List ℕ)) (before after : ℕ) (r : Refusal)
    → IsQueryRefused query name trace content before after r → content ≡ Some bytes → IsCutShort (status_of r) ⊎ (analyze_text query name bytes ≡ Err r)
query_refusal query name trace bytes content before after refusal.NoMemory h exposed = inl (inr (inr refl))
query_refusal query name trace bytes content before after (refusal.Read file) h exposed = inl (inl refl)
query_refusal query name trace bytes content before after (refusal.Image fault) h exposed = absurd h
query_refusal query name trace bytes content before after (refusal.Partition p) h exposed = absurd h
query_refusal query name trace bytes content before after (refusal.Schedule s) h exposed = absurd h
query_refusal query name trace bytes content before after (refusal.Trace fault) h exposed =
    inr (ap (λ f. unless_fault f (answer_to name (query_lines query name (records_of bytes)))) (h bytes exposed))
query_refusal query name trace bytes content before after (refusal.Elf fault) h exposed = absurd h
query_refusal query name trace bytes content before after (refusal.NoSuchName item) h exposed =
    let unknown = h.1 bytes exposed in
    inr (
    ap (λ f. unless_fault f (answer_to name (query_lines query name (records_of bytes)))) unknown.accepted
    ∙ ap (λ lines. answer_to name lines) unknown.no_answer
    ∙ ap (λ n. Err (refusal.NoSuchName n)) (sym h.0)
    )
query_refusal query name trace bytes content before after (refusal.Violation v) h exposed = absurd h

pub analyze_done : (query : Query) (name trace bytes : List ℕ) (ended : Ended) (before after : Outside) → IsEither (Analyze trace query name) ended before after
    → before.files trace ≡ Some bytes → IsCutShort ended.status ⊎ IsAnswerEnd (analyze_text query name bytes) ended.status before.sinks after.sinks
analyze_done query name trace bytes ended before after (inl r) exposed =
    answer_refused (analyze_text query name bytes) (Analyze trace query name) ended before after r
    (query_refusal query name trace bytes (before.files trace) (before.reads trace) (after.reads trace) r.why r.cause exposed)
analyze_done query name trace bytes ended before after (inr d) exposed =
    answer_done (analyze_text query name) (before.files trace) bytes d.kept d.texts ended before.sinks after.sinks d.made exposed d.written
