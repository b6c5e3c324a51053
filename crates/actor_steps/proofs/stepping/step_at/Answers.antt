use Rattle.std.proofs.Common.{subst}
use Rattle.actor_task.specs.Steps.{IsAtRest}
use Rattle.actor_steps.proofs.AtRest.{rests_ended, rests_waiting}
use Rattle.actor_steps.proofs.stepping.step_at.Goals as goal

pub returns-in-Ended-clause-step : goal.returns-in-Ended-clause-step
returns-in-Ended-clause-step c = λ k h. rests_ended k c.in-Ended.field-0 (subst (IsAtRest k) c.in-Ended.is h)

pub returns-in-Waiting-clause-step : goal.returns-in-Waiting-clause-step
returns-in-Waiting-clause-step c = λ k h. rests_waiting k c.in-Waiting.run' (subst (IsAtRest k) c.in-Waiting.is h)
