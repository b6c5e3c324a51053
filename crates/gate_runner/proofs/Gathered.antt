-- What the thread of the root returned, and what the cells kept, are what a run leaves.
use Rattle.std.proofs.Common.{◌≡◌, ◌≤◌, ℕ, List, ◌∷◌, length, sym, subst, ap, ◌∙◌}
use Rattle.std.specs.Prelude.{Result, Ok, Err, IfOk, All}
use Rattle.wedge_base.specs.declared.errors.NoMemory.{NoMemory}
use Rattle.wedge_base.specs.Images.{Image}
use Rattle.wedge_events.specs.declared.events.LogEntry.{LogEntry}
use Rattle.machine.specs.Actors.{root}
use Rattle.thread_laws.specs.ActorProgresses.{AreReturned}
use Rattle.thread_laws.specs.Joining.{IsFamily, all_logged}
use Rattle.thread_laws.specs.KeptEntries.{IsKept}
use Rattle.thread_laws.specs.Replaying.{all_histories, AreLegalHistories}
use Rattle.thread_laws.specs.declared.gathered.ActorEnd.{ActorEnd}
use Rattle.thread_laws.specs.declared.gathered.ActorLog.{ActorLog}
use Rattle.thread_laws.specs.declared.gathered.Gathered.{Gathered}
use Rattle.thread_laws.proofs.Families.{returned_logs_are_families}
use Rattle.tag_laws.specs.DeclaredTags.{entries_on_declared, AreRuled}
use Rattle.gate_runner.specs.Gathering.{IsGathered}
use Rattle.gate_runner.proofs.Roots.{root_starts}
use Rattle.gate_runner.proofs.RuledSlots.{ruled_slots}

pub gathered_so : (i : Image) (n u : ℕ) (entered : List LogEntry) (log : ActorLog) (others logs : List ActorLog) (end_ : ActorEnd) (o : Result Gathered NoMemory) → logs ≡ log ∷ others → n ≡ length i.tags
    → u ≤ length i.tags → All (IsKept u) logs
    → AreReturned i (root i) 0 log others end_ → entered ≡ entries_on_declared n (all_logged logs)
    → IfOk o (λ g. g.logs ≡ logs) → IfOk o (λ g. length g.declared ≡ n) → IfOk o (λ g. AreLegalHistories i (all_histories g)) → IfOk o (λ g. AreRuled n entered (all_histories g))
    → IfOk o (IsGathered i)
gathered_so i n u entered log others logs end_ (Ok g) own tags few kept_ returned on_slots same count kept ruled =
    let all : g.logs ≡ log ∷ others = same ∙ own in
    record {
      walked = subst (λ xs. IsFamily i (root i) 0 xs) (sym all) (returned_logs_are_families i (root i) 0 log others end_ (root_starts i) returned);
      of_root = record { log = log; others = others; end_ = end_; logs_ = all; returned = returned };
      declared_ = count ∙ tags;
      kept = kept;
      ruled = ruled_slots n (length i.tags) entered (all_logged g.logs) (all_histories g) (on_slots ∙ ap (λ gs. entries_on_declared n (all_logged gs)) (sym same)) tags ruled;
      logs_kept = record {
        unkept = u;
        few = subst (λ m. u ≤ m) (sym (count ∙ tags)) few;
        logs = subst (All (IsKept u)) (sym same) kept_;
      };
    }
gathered_so i n u entered log others logs end_ (Err e) own tags few kept_ returned on_slots same count kept ruled = tt
