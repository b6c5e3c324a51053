use Rattle.std.proofs.Common.{ap, sym, ◌∙◌, arith, length}
use Rattle.thread_laws.specs.Joining.{all_logged}
use Rattle.run_audit.specs.RunJournals.{RunEntries}
use Rattle.run_audit.proofs.RunJournals.{length_in_logs}
use Rattle.run_audit.proofs.TwoHeads.{ok_map}
use Rattle.run_audit.proofs.run_journal.RunJournal.len.Goals as goal

pub returns-else-is_empty : goal.returns-else-is_empty
returns-else-is_empty c =
    let r = c.self.inside in
    ok_map c.count_logged.result c.count_logged.ensures
    (λ n is. is ∙ (ap (λ gs. length (all_logged gs)) c.as_slice-else-is_empty.ensures
    ∙ (sym (length_in_logs r.ordered r.logs (grind arith) c.self.invariant.0) ∙ ap (λ (j : RunEntries). length j.entries) c.self.view_is)))
