use Rattle.run_laws.proofs.LiveSthreads.{lives_are_counted}
use Rattle.run_laws.proofs.laws.lives_are_counted.Goals as goal

pub returns : goal.returns
returns c = lives_are_counted
