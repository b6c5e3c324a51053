use Rattle.std.proofs.Common.{inl, inr, refl, ◌∙◌}
use Rattle.wedge_cli.proofs.Written.{said_as}
use Rattle.wedge_cli.proofs.top.refuse.Goals as goal

pub returns-in-Ok : goal.returns-in-Ok
returns-in-Ok g c = inl (said_as c.status_of.result _ c.as_slice.result.now _ c.say.result _ _ c.status_of.ensures (c.as_slice.ensures.value ∙ c.in-Ok.ensures) c.say.ensures)

pub returns-in-Err : goal.returns-in-Err
returns-in-Err g c = inr (said_as 6 _ c.no_memory_line.result.now _ c.say-in-Err.result _ _ refl c.no_memory_line.ensures c.say-in-Err.ensures)
