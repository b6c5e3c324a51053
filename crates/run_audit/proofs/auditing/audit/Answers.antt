use Rattle.std.proofs.Common.{ap, sym, ◌∙◌}
use Rattle.thread_laws.specs.Replaying.{all_histories}
use Rattle.thread_laws.specs.Sorting.{in_order}
use Rattle.run_audit.proofs.Runs.{audit_is_run, audit_counts}
use Rattle.run_audit.proofs.ComparedCells.{all_agree}
use Rattle.run_audit.proofs.KeptInLogs.{run_counted, all_in_memory}
use Rattle.run_audit.proofs.auditing.audit.Goals as goal

pub of_logs-requires : goal.of_logs-requires
of_logs-requires c = run_counted c.args.gathered c.requires

pub returns-in-Ok-clause-result : goal.returns-in-Ok-clause-result
returns-in-Ok-clause-result c = λ agree. record {
  agrees = all_agree c.args.gathered agree c.in-Ok.ensures.found.agree;
  journal = c.of_logs.ensures.entries;
  outcome = c.in-Ok.ensures.found.outcome;
  caches = c.in-Ok.ensures.found.caches;
}

pub returns-in-Ok-clause-run : goal.returns-in-Ok-clause-run
returns-in-Ok-clause-run c = λ walked legal agree.
    audit_is_run c.args.image.now c.args.gathered.logs (all_histories c.args.gathered) (record { journal = c.of_logs.result; outcome = c.in-Ok.compared.outcome; caches = c.in-Ok.compared.caches }) walked legal
    (returns-in-Ok-clause-result c agree)

pub returns-in-Ok-clause-caches : goal.returns-in-Ok-clause-caches
returns-in-Ok-clause-caches c = λ walked.
    audit_counts c.args.image.now c.args.gathered.logs (all_histories c.args.gathered) (record { journal = c.of_logs.result; outcome = c.in-Ok.compared.outcome; caches = c.in-Ok.compared.caches }) walked
    c.of_logs.ensures.entries c.in-Ok.ensures.found.outcome c.in-Ok.ensures.found.caches

pub returns-in-Ok-clause-whole : goal.returns-in-Ok-clause-whole
returns-in-Ok-clause-whole c = λ all.
    c.of_logs.ensures.kept ∙ (ap in_order (all_in_memory c.args.gathered.logs all) ∙ sym c.of_logs.ensures.entries)
