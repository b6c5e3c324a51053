use Rattle.std.proofs.Common.{◌≡◌, ◌+◌, ◌-◌, ◌*◌, length}
use Rattle.actor_task.specs.Tasks.{IsTracked}
use Rattle.gate_runner.proofs.runner.+run.Given as goal

abbrev pub decreases-run_to_end : goal.decreases-run_to_end
decreases-run_to_end g l = 12 * (32 - length l.new.resident.name) + 11

abbrev pub decreases-run_to_end-scope : goal.decreases-run_to_end-scope
decreases-run_to_end-scope g l = 12 * (32 - length l.new.resident.name) + 10

abbrev pub decreases-act : goal.decreases-act
decreases-act g l = 12 * (32 - length l.new.resident.name) + 9

abbrev pub decreases-do_joint : goal.decreases-do_joint
decreases-do_joint g l = 12 * (32 - length l.task.progress.began.name) + 8

abbrev pub decreases-start : goal.decreases-start
decreases-start g l = 12 * (32 - length l.task.progress.began.name) + 7

abbrev pub decreases-enter_fresh : goal.decreases-enter_fresh
decreases-enter_fresh g l = 12 * (32 - length l.task.progress.began.name) + 7

abbrev pub decreases-enter_recycled : goal.decreases-enter_recycled
decreases-enter_recycled g l = 12 * (32 - length l.task.progress.began.name) + 7

abbrev pub decreases-run_locked : goal.decreases-run_locked
decreases-run_locked g l = 12 * (32 - length l.task.progress.began.name) + 6

abbrev pub decreases-run_inside : goal.decreases-run_inside
decreases-run_inside g l = 12 * (32 - length l.task.progress.began.name) + 5

abbrev pub decreases-launch : goal.decreases-launch
decreases-launch g l = 12 * (32 - length l.new.resident.name) + 14

abbrev pub decreases-launch-job : goal.decreases-launch-job
decreases-launch-job g l = 12 * (32 - length l.new.resident.name) + 13

abbrev pub decreases-run_whole : goal.decreases-run_whole
decreases-run_whole g l = 12 * (32 - length l.new.resident.name) + 12

abbrev pub invariant-act-loop : goal.invariant-act-loop
invariant-act-loop g l =
    (goal.iterator-act-loop g).can_next l.iterator' × (goal.iterator-act-loop g).is_finite l.iterator'
    × (l.task.progress.began ≡ l.fn.new.resident) × (l.task.progress.low ≡ l.fn.new.stamp)
    × IsTracked g.T.TableOf.table.slots l.pass l.task.progress
