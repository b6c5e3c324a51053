use Rattle.run_laws.proofs.GrantedCopies.{copies_granted}
use Rattle.run_laws.proofs.laws.copies_are_granted.Goals as goal

pub returns : goal.returns
returns c = copies_granted
