use Rattle.run_laws.proofs.GatesWithin.{none_within, held_older}
use Rattle.run_laws.proofs.laws.gates_are_not_held_within.Goals as goal

pub returns : goal.returns
returns c = record { own = none_within; others = held_older }
