-- What `gen` ended with.
use Rattle.std.proofs.Common.{◌≡◌, inl, inr, ℕ, List, refl, sym, ap, subst, ◌∙◌, arith}
use Rattle.std.specs.Prelude.{Option, Some, None}
use Rattle.wedge_cli.specs.declared.status.Ended.{Ended}
use Rattle.audited_run.specs.declared.run.Differs.{Differs}
use Rattle.audited_run.specs.Texts.{difference_text}
use Rattle.cli_inputs.specs.Words.{Gen}
use Rattle.workload.specs.Workload.{workload}
use Rattle.wedge_cli.specs.declared.writing.Text.{Text}
use Rattle.refusal_lines.specs.Lines.{line, status_of}
use Rattle.wedge_cli.specs.Outside.{Sinks, Outside, Takes}
use Rattle.wedge_cli.specs.Ended.{AreTaken, summary_line, IsSummaryOfKept, IsGenDone, IsGenMadeAgain, IsGenEnd, done_status}
use Rattle.wedge_cli.specs.Causes.{IsRefusal}
use Rattle.wedge_cli.proofs.Written.{took_out, took_both}
use Rattle.wedge_cli.proofs.Statuses.{IsEither, refusal_status, refused_not_0, refused_not_7, status_of_done}
use Rattle.run_audit.specs.RunJournals.{RunEntries}

-- ---- the status 0

summed : (workers : ℕ) (kept : Option RunEntries) (differs : Option Differs) (texts : List Text) (s u : Sinks)
    → IsSummaryOfKept (workload workers) workers kept differs texts → done_status differs ≡ 0 → AreTaken texts s u → IsGenDone workers kept s u
summed workers None differs texts s u r zero taken = absurd r
summed workers (Some journal) (Some d) texts s u r zero taken = absurd (omega (arith, zero))
summed workers (Some journal) None texts s u r zero taken =
    let text = summary_line workers journal r.outcome in
    let took : Takes text s.out u.out × (u.err ≡ s.err) = took_out text s u (subst (λ ts. AreTaken ts s u) r.are taken) in
    record {
      journal = journal;
      kept_is = refl;
      outcome = r.outcome;
      run = r.run;
      threads = r.made;
      out = took.0;
      err = took.1;
    }

pub gen_done : (workers : ℕ) (ended : Ended) (before after : Outside) → IsEither (Gen workers) ended before after → ended.status ≡ 0
    → IsGenDone workers ended.journal before.sinks after.sinks
gen_done workers ended before after (inl r) is = absurd (refused_not_0 (Gen workers) ended before after r is)
gen_done workers ended before after (inr d) is =
    elim d.written.cases [
      | inl done ↦ subst (λ kept. IsGenDone workers kept before.sinks after.sinks) (sym d.written.journal)
          (summed workers d.kept.journal d.kept.differs d.texts before.sinks after.sinks d.made (sym done.1 ∙ is) done.0)
      | inr fault ↦ absurd (omega (arith, fault.1, is))
    ]

-- ---- the status 7

summed_again : (workers : ℕ) (kept : Option RunEntries) (differs : Option Differs) (texts : List Text) (ended : Ended) (s u : Sinks)
    → IsSummaryOfKept (workload workers) workers kept differs texts
    → ended.journal ≡ kept → ended.differs ≡ differs → done_status differs ≡ 7 → AreTaken texts s u → IsGenMadeAgain workers ended s u
summed_again workers None differs texts ended s u r journal_is differs_is seven taken = absurd r
summed_again workers (Some journal) None texts ended s u r journal_is differs_is seven taken = absurd (omega (arith, seven))
summed_again workers (Some journal) (Some d) texts ended s u r journal_is differs_is seven taken =
    let took = took_both (summary_line workers journal r.outcome) (line (difference_text d.disagree)) s u (subst (λ ts. AreTaken ts s u) r.are taken) in
    record {
      differs = d;
      differs_is = differs_is;
      threads = r.made.0;
      journal = journal;
      journal_is = journal_is;
      outcome = r.outcome;
      run = r.run;
      serial = r.made.1;
      out = took.0;
      err = took.1;
    }

pub gen_again : (workers : ℕ) (ended : Ended) (before after : Outside) → IsEither (Gen workers) ended before after → ended.status ≡ 7
    → IsGenMadeAgain workers ended before.sinks after.sinks
gen_again workers ended before after (inl r) is = absurd (refused_not_7 (Gen workers) ended before after r is)
gen_again workers ended before after (inr d) is =
    elim d.written.cases [
      | inl done ↦ summed_again workers d.kept.journal d.kept.differs d.texts ended before.sinks after.sinks d.made d.written.journal done.2 (sym done.1 ∙ is) done.0
      | inr fault ↦ absurd (omega (arith, fault.1, is))
    ]

-- ---- all ends

refused_gen : (workers : ℕ) (ended : Ended) (before after : Outside) → IsRefusal (Gen workers) ended before after → IsGenEnd ended.status
refused_gen workers ended before after r =
    elim (refusal_status r.why ended before.sinks.err after.sinks.err r.err) [
      | inl status ↦ inr (inr (inr (status ∙ ap status_of r.cause)))
      | inr (inl status) ↦ inr (inr (inr status))
      | inr (inr fault) ↦ inr (inr (inl fault.0))
    ]

pub gen_ended : (workers : ℕ) (ended : Ended) (before after : Outside) → IsEither (Gen workers) ended before after → IsGenEnd ended.status
gen_ended workers ended before after (inl r) = refused_gen workers ended before after r
gen_ended workers ended before after (inr d) =
    elim (status_of_done (Gen workers) ended before after d) [
      | inl zero ↦ inl zero
      | inr (inl seven) ↦ inr (inl seven)
      | inr (inr fault) ↦ inr (inr (inl fault.0))
    ]
