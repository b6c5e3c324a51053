use Rattle.std.proofs.Common.{◌≡◌, true, rules}
use Rattle.std.specs.Prelude.{is_some}
use Rattle.machine.specs.Actors.{whole}
use Rattle.actor_run.proofs.Coming.{rests_there}
use Rattle.actor_run.proofs.run.rest_from.Goals as goal

pub returns-then-is_some-clause-rests : goal.returns-then-is_some-clause-rests
returns-then-is_some-clause-rests c =
    let there : is_some c.args.access ≡ true = search rules in
    rests_there c.args.program.now (whole c.args.actor.now c.args.memory.now) c.args.access there
