use Rattle.std.proofs.Common.{refl}
use Rattle.wedge_cli.proofs.Written.{said_as}
use Rattle.wedge_cli.proofs.top.out_of_memory.Goals as goal

pub returns : goal.returns
returns g c = said_as _ _ c.no_memory_line.result.now _ c.say.result _ _ refl c.no_memory_line.ensures c.say.ensures
