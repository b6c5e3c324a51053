use Rattle.thread_laws.proofs.ActorWalks.{every_actor_walks}
use Rattle.thread_laws.proofs.laws.every_actor_walks.Goals as goal

pub returns : goal.returns
returns c = every_actor_walks
