use Rattle.cow_pages.proofs.SameMemory.{same_memory}
use Rattle.cow_pages.proofs.laws.equal_memory_is_the_same.Goals as goal

pub returns : goal.returns
returns c = same_memory
