-- An actor at rest, and what it is at.
use Rattle.std.proofs.Common.{◌≡◌, ℕ, true, sym}
use Rattle.std.specs.Prelude.{Some}
use Rattle.wedge_base.specs.declared.rights.End.{End}
use Rattle.wedge_events.specs.declared.events.Want.{Want}
use Rattle.machine.specs.Local.{has_ended, end_reached}
use Rattle.machine.specs.declared.next.Next.TheVariants as next
use Rattle.machine.specs.declared.phase.Phase.{Phase}
use Rattle.machine.specs.declared.phase.Phase.TheVariants as phase
use Rattle.actor_task.specs.Steps.{IsAtRest, IsLast}
use Rattle.actor_task.specs.Tasks.{TaskState, Wants, Waits}
use Rattle.actor_task.specs.declared.step.Last.TheVariants as last

reached_ended : (p : Phase) (e : End) → end_reached p ≡ Some e → has_ended p ≡ true
reached_ended (phase.Ended x) e is = cc
reached_ended phase.Running e is = absurd cc
reached_ended (phase.Within q) e is = absurd cc
reached_ended (phase.Starting x) e is = absurd cc
reached_ended (phase.MakingGate x) e is = absurd cc
reached_ended (phase.Opening slot tag) e is = absurd cc
reached_ended (phase.Releasing slot) e is = absurd cc
reached_ended (phase.OpeningFile o) e is = absurd cc
reached_ended (phase.Entering x) e is = absurd cc
reached_ended (phase.Waiting k) e is = absurd cc
reached_ended (phase.Ending x) e is = absurd cc

pub rests_ended : (k : TaskState) (e : End) → IsAtRest k (next.Ended e) → IsLast k last.Ended
rests_ended k e h = (h.going, reached_ended k.progress.state.phase e (sym h.end_))

pub rests_waiting : (k : TaskState) (n : ℕ) → IsAtRest k (next.Waiting n) → Waits k n
rests_waiting k n h = record { going = h.going; waits = sym h.run_; child = h.fits }

pub rests_wanting : (k : TaskState) (q : Want) → IsAtRest k (next.Shared q) → Wants k q
rests_wanting k q h = record { going = h.going; wants = sym h.want_; fits = h.fits }
