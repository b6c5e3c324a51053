use Rattle.run_laws.proofs.Mediating.{moments_lawful, instructions_lawful}
use Rattle.run_laws.proofs.laws.moments_are_lawful.Goals as goal

pub returns-clause-moments : goal.returns-clause-moments
returns-clause-moments c = moments_lawful

pub returns-clause-instructions : goal.returns-clause-instructions
returns-clause-instructions c = instructions_lawful
