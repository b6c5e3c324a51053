use Rattle.std.proofs.Common.{refl}
use Rattle.wedge_cli.proofs.top.exit_status.Goals as goal

pub returns-clause-run : goal.returns-clause-run
returns-clause-run g c = λ image bytes asked exposed is. record { ended = c.wedge-ended.result; status_is = refl; is_so = c.wedge-ended.ensures.run image bytes asked exposed is }

pub returns-clause-schedule : goal.returns-clause-schedule
returns-clause-schedule g c = λ image bytes asked exposed is. record { ended = c.wedge-ended.result; status_is = refl; is_so = c.wedge-ended.ensures.schedule image bytes asked exposed is }

pub returns-clause-stats : goal.returns-clause-stats
returns-clause-stats g c = λ image bytes asked exposed is. record { ended = c.wedge-ended.result; status_is = refl; is_so = c.wedge-ended.ensures.stats image bytes asked exposed is }

pub returns-clause-answer : goal.returns-clause-answer
returns-clause-answer g c = record { ended = c.wedge-ended.result; status_is = refl; is_so = c.wedge-ended.ensures.answer }

pub returns-clause-again : goal.returns-clause-again
returns-clause-again g c = λ image bytes flag asked exposed is. record { ended = c.wedge-ended.result; status_is = refl; is_so = c.wedge-ended.ensures.again image bytes flag asked exposed is }

pub returns-clause-workload : goal.returns-clause-workload
returns-clause-workload g c = λ workers asked is. record { ended = c.wedge-ended.result; status_is = refl; is_so = c.wedge-ended.ensures.workload workers asked is }

pub returns-clause-workload_again : goal.returns-clause-workload_again
returns-clause-workload_again g c = λ workers asked is. record { ended = c.wedge-ended.result; status_is = refl; is_so = c.wedge-ended.ensures.workload_again workers asked is }
