use Rattle.std.proofs.Common.{refl}
use Rattle.wedge_cli.proofs.Statuses.{usage_answer}
use Rattle.wedge_cli.proofs.Written.{said_as}
use Rattle.wedge_cli.proofs.top.does.Goals as goal

pub returns-in-Err-Usage-clause-answer : goal.returns-in-Err-Usage-clause-answer
returns-in-Err-Usage-clause-answer g c =
    usage_answer _ c.say.result _ _ c.in-Err-Usage.ensures.asked (record { out = refl; err = said_as 2 _ c.usage_line.result.now _ c.say.result _ _ refl c.usage_line.ensures c.say.ensures })
