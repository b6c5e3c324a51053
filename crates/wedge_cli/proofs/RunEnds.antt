-- What `run` ended with.
use Rattle.std.proofs.Common.{◌≡◌, ◌⊎◌, inl, inr, ℕ, List, ◌++◌, refl, sym, subst, ◌∙◌, arith}
use Rattle.std.specs.Prelude.{Option, Some, None, Ok, Err}
use Rattle.wedge_base.specs.Images.{Image}
use Rattle.wedge_cli.specs.declared.status.Ended.{Ended}
use Rattle.cli_inputs.specs.declared.words.RunFlag.{RunFlag}
use Rattle.cli_inputs.specs.declared.words.RunFlag.TheVariants.{Plain, Schedule, Stats}
use Rattle.cli_inputs.specs.declared.refusal.Refusal.{Refusal}
use Rattle.cli_inputs.specs.declared.refusal.Refusal.TheVariants as refusal
use Rattle.audited_run.specs.declared.run.Differs.{Differs}
use Rattle.wedge_cli.specs.declared.writing.Text.{Text}
use Rattle.refusal_lines.specs.Lines.{status_of}
use Rattle.cli_inputs.specs.Loading.{image_from_bytes, IsRefusedBy}
use Rattle.cli_inputs.specs.Words.{Run}
use Rattle.image_form.specs.Rules.{Encodes}
use Rattle.report_text.specs.CacheTexts.{cache_lines}
use Rattle.report_text.specs.Reports.{report_of}
use Rattle.report_text.specs.Schedules.{actors_of, schedule_of}
use Rattle.wedge_cli.specs.Outside.{Sinks, Outside, Takes}
use Rattle.wedge_cli.specs.Ended.{AreTaken, IsReportOfKept, IsScheduleReadAgain, IsRunDone, IsScheduleDone, IsStatsDone, IsMadeAgain, IsRunEnd, IsCutShort, done_status, run_texts, differs_texts}
use Rattle.wedge_cli.specs.Causes.{IsCommandDone}
use Rattle.wedge_cli.proofs.Written.{took_out, took_both}
use Rattle.wedge_cli.proofs.Again.{schedule_replays}
use Rattle.wedge_cli.proofs.Statuses.{IsEither, IsRefusalEnd, refused_end, refused_not_0, refused_not_7, status_of_done}
use Rattle.run_audit.specs.RunJournals.{RunEntries}

-- ---- a run with the status 0

reported : (i : Image) (kept : Option RunEntries) (differs : Option Differs) (texts : List Text) (bytes : List ℕ) (s u : Sinks)
    → Encodes i bytes → IsReportOfKept i Plain kept differs texts → done_status differs ≡ 0 → AreTaken texts s u → IsRunDone bytes kept s u
reported i None differs texts bytes s u encoded r zero taken = absurd r
reported i (Some journal) (Some d) texts bytes s u encoded r zero taken = absurd (omega (arith, zero))
reported i (Some journal) None texts bytes s u encoded r zero taken =
    let took : Takes (report_of r.outcome) s.out u.out × (u.err ≡ s.err) = took_out (report_of r.outcome) s u (subst (λ ts. AreTaken ts s u) r.are taken) in
    record {
      image = i;
      encoded = encoded;
      journal = journal;
      kept_is = refl;
      outcome = r.outcome;
      run = r.run;
      threads = r.made;
      out = took.0;
      err = took.1;
    }

done_0 : (image bytes : List ℕ) (ended : Ended) (before after : Outside) → IsCommandDone (Run image Plain) ended before after
    → before.files image ≡ Some bytes → ended.status ≡ 0 → IsRunDone bytes ended.journal before.sinks after.sinks
done_0 image bytes ended before after d exposed is =
    elim d.written.cases [
      | inl done ↦ subst (λ kept. IsRunDone bytes kept before.sinks after.sinks) (sym d.written.journal)
          (reported d.made.image d.kept.journal d.kept.differs d.texts bytes before.sinks after.sinks (d.made.encoded bytes exposed) d.made.reported (sym done.1 ∙ is) done.0)
      | inr fault ↦ absurd (omega (arith, fault.1, is))
    ]

pub run_done : (image bytes : List ℕ) (ended : Ended) (before after : Outside) → IsEither (Run image Plain) ended before after
    → before.files image ≡ Some bytes → ended.status ≡ 0 → IsRunDone bytes ended.journal before.sinks after.sinks
run_done image bytes ended before after (inl r) exposed is = absurd (refused_not_0 (Run image Plain) ended before after r is)
run_done image bytes ended before after (inr d) exposed is = done_0 image bytes ended before after d exposed is

-- ---- a run with its schedule and the status 0

scheduled : (i : Image) (kept : Option RunEntries) (differs : Option Differs) (texts : List Text) (bytes : List ℕ) (s u : Sinks)
    → Encodes i bytes → image_from_bytes bytes ≡ Ok i → IsReportOfKept i Schedule kept differs texts → done_status differs ≡ 0 → AreTaken texts s u → IsScheduleDone bytes kept s u
scheduled i None differs texts bytes s u encoded accepted r zero taken = absurd r
scheduled i (Some journal) (Some d) texts bytes s u encoded accepted r zero taken = absurd (omega (arith, zero))
scheduled i (Some journal) None texts bytes s u encoded accepted r zero taken =
    let schedule = schedule_of (actors_of journal.entries) in
    let took = took_both schedule (report_of r.outcome) s u (subst (λ ts. AreTaken ts s u) r.are taken) in
    record {
      image = i;
      encoded = encoded;
      journal = journal;
      kept_is = refl;
      whole = r.whole;
      outcome = r.outcome;
      run = r.run;
      threads = r.made;
      schedule = schedule;
      schedule_is = refl;
      out = took.0;
      err = took.1;
      replays = λ short. schedule_replays i bytes schedule journal.entries r.outcome encoded accepted r.run r.again short;
    }

pub schedule_done : (image bytes : List ℕ) (ended : Ended) (before after : Outside) → IsEither (Run image Schedule) ended before after
    → before.files image ≡ Some bytes → ended.status ≡ 0 → IsScheduleDone bytes ended.journal before.sinks after.sinks
schedule_done image bytes ended before after (inl r) exposed is = absurd (refused_not_0 (Run image Schedule) ended before after r is)
schedule_done image bytes ended before after (inr d) exposed is =
    elim d.written.cases [
      | inl done ↦ subst (λ kept. IsScheduleDone bytes kept before.sinks after.sinks) (sym d.written.journal)
          (scheduled d.made.image d.kept.journal d.kept.differs d.texts bytes before.sinks after.sinks (d.made.encoded bytes exposed) (d.made.accepted bytes exposed) d.made.reported (sym done.1 ∙ is) done.0)
      | inr fault ↦ absurd (omega (arith, fault.1, is))
    ]

-- ---- a run with the counts of its caches and the status 0

counted : (i : Image) (kept : Option RunEntries) (differs : Option Differs) (texts : List Text) (bytes : List ℕ) (s u : Sinks)
    → Encodes i bytes → IsReportOfKept i Stats kept differs texts → done_status differs ≡ 0 → AreTaken texts s u → IsStatsDone bytes kept s u
counted i None differs texts bytes s u encoded r zero taken = absurd r
counted i (Some journal) (Some d) texts bytes s u encoded r zero taken = absurd (omega (arith, zero))
counted i (Some journal) None texts bytes s u encoded r zero taken =
    let took = took_out (report_of r.outcome ++ cache_lines r.caches) s u (subst (λ ts. AreTaken ts s u) r.are taken) in
    record {
      image = i;
      encoded = encoded;
      journal = journal;
      kept_is = refl;
      outcome = r.outcome;
      run = r.run;
      threads = r.made;
      caches = r.caches;
      counted = r.counted;
      out = took.0;
      err = took.1;
    }

pub stats_done : (image bytes : List ℕ) (ended : Ended) (before after : Outside) → IsEither (Run image Stats) ended before after
    → before.files image ≡ Some bytes → ended.status ≡ 0 → IsStatsDone bytes ended.journal before.sinks after.sinks
stats_done image bytes ended before after (inl r) exposed is = absurd (refused_not_0 (Run image Stats) ended before after r is)
stats_done image bytes ended before after (inr d) exposed is =
    elim d.written.cases [
      | inl done ↦ subst (λ kept. IsStatsDone bytes kept before.sinks after.sinks) (sym d.written.journal)
          (counted d.made.image d.kept.journal d.kept.differs d.texts bytes before.sinks after.sinks (d.made.encoded bytes exposed) d.made.reported (sym done.1 ∙ is) done.0)
      | inr fault ↦ absurd (omega (arith, fault.1, is))
    ]

-- ---- a run with the status 7

made_again : (i : Image) (flag : RunFlag) (kept : Option RunEntries) (differs : Option Differs) (texts : List Text) (bytes : List ℕ) (ended : Ended) (s u : Sinks)
    → Encodes i bytes → image_from_bytes bytes ≡ Ok i → IsReportOfKept i flag kept differs texts
    → ended.journal ≡ kept → ended.differs ≡ differs → done_status differs ≡ 7 → AreTaken texts s u → IsMadeAgain bytes flag ended s u
made_again i flag None differs texts bytes ended s u encoded accepted r journal_is differs_is seven taken = absurd r
made_again i flag (Some journal) None texts bytes ended s u encoded accepted r journal_is differs_is seven taken = absurd (omega (arith, seven))
made_again i flag (Some journal) (Some d) texts bytes ended s u encoded accepted r journal_is differs_is seven taken =
    let schedule = schedule_of (actors_of journal.entries) in
    record {
      image = i;
      encoded = encoded;
      differs = d;
      differs_is = differs_is;
      threads = r.made.0;
      journal = journal;
      journal_is = journal_is;
      whole = r.whole;
      outcome = r.outcome;
      run = r.run;
      serial = r.made.1;
      written = subst (λ cs. AreTaken (run_texts flag journal r.outcome cs ++ differs_texts (Some d)) s u) r.counted (subst (λ ts. AreTaken ts s u) r.are taken);
      replays = λ is short. schedule_replays i bytes schedule journal.entries r.outcome encoded accepted r.run (subst (λ f. IsScheduleReadAgain f journal.entries) is r.again) short;
    }

pub run_again : (image bytes : List ℕ) (flag : RunFlag) (ended : Ended) (before after : Outside) → IsEither (Run image flag) ended before after
    → before.files image ≡ Some bytes → ended.status ≡ 7 → IsMadeAgain bytes flag ended before.sinks after.sinks
run_again image bytes flag ended before after (inl r) exposed is = absurd (refused_not_7 (Run image flag) ended before after r is)
run_again image bytes flag ended before after (inr d) exposed is =
    elim d.written.cases [
      | inl done ↦ made_again d.made.image flag d.kept.journal d.kept.differs d.texts bytes ended before.sinks after.sinks (d.made.encoded bytes exposed) (d.made.accepted bytes exposed)
          d.made.reported d.written.journal done.2 (sym done.1 ∙ is) done.0
      | inr fault ↦ absurd (omega (arith, fault.1, is))
    ]

-- ---- all ends of a run

-- the bytes are refused so, or memory ran out, or a read failed
run_refusal : (name bytes : List ℕ) (content : Option (List ℕ)) (before after : ℕ) (r : Refusal)
    → IsRefusedBy image_from_bytes name content before after r → content ≡ Some bytes → IsCutShort (status_of r) ⊎ (image_from_bytes bytes ≡ Err r)
run_refusal name bytes content before after refusal.NoMemory h exposed = inl (inr (inr refl))
run_refusal name bytes content before after (refusal.Read file) h exposed = inl (inl refl)
run_refusal name bytes content before after (refusal.Image fault) h exposed = inr (h bytes exposed)
run_refusal name bytes content before after (refusal.Partition p) h exposed = inr (h bytes exposed)
run_refusal name bytes content before after (refusal.Schedule s) h exposed = absurd h
run_refusal name bytes content before after (refusal.Trace fault) h exposed = absurd h
run_refusal name bytes content before after (refusal.Elf fault) h exposed = absurd h
run_refusal name bytes content before after (refusal.NoSuchName item) h exposed = absurd h
run_refusal name bytes content before after (refusal.Violation v) h exposed = absurd h

pub run_ended : (image bytes : List ℕ) (flag : RunFlag) (ended : Ended) (before after : Outside) → IsEither (Run image flag) ended before after
    → before.files image ≡ Some bytes → IsCutShort ended.status ⊎ IsRunEnd (image_from_bytes bytes) ended.status before.sinks after.sinks
run_ended image bytes flag ended before after (inl r) exposed =
    refused_end (IsRunEnd (image_from_bytes bytes) ended.status before.sinks after.sinks) (Run image flag) ended before after r
    (elim (run_refusal image bytes (before.files image) (before.reads image) (after.reads image) r.why r.cause exposed) [
      | inl short ↦ inl short
      | inr answer ↦ inr (λ (end : IsRefusalEnd r.why ended.status before.sinks after.sinks). subst (λ m. IsRunEnd m ended.status before.sinks after.sinks) (sym answer) end)
    ])
run_ended image bytes flag ended before after (inr d) exposed =
    let ran : (ended.status ≡ 0) ⊎ (ended.status ≡ 7) → IsRunEnd (image_from_bytes bytes) ended.status before.sinks after.sinks =
    (λ h. subst (λ m. IsRunEnd m ended.status before.sinks after.sinks) (sym (d.made.accepted bytes exposed)) h) in
    elim (status_of_done (Run image flag) ended before after d) [
      | inl zero ↦ inr (ran (inl zero))
      | inr (inl seven) ↦ inr (ran (inr seven))
      | inr (inr fault) ↦ inl (inr (inl fault.0))
    ]
