use Rattle.actor_step.proofs.accesses.load.Goals as goal

pub returns-in-1-clause-is : goal.returns-in-1-clause-is
returns-in-1-clause-is c = cc c.load_of.ensures.is

pub returns-in-2-clause-is : goal.returns-in-2-clause-is
returns-in-2-clause-is c = cc c.load_of-in-2.ensures.is

pub returns-in-4-clause-is : goal.returns-in-4-clause-is
returns-in-4-clause-is c = cc c.load_of-in-4.ensures.is
