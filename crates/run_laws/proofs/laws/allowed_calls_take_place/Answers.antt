use Rattle.run_laws.proofs.TakingPlace.{calls_take_place}
use Rattle.run_laws.proofs.laws.allowed_calls_take_place.Goals as goal

pub returns : goal.returns
returns c = calls_take_place
