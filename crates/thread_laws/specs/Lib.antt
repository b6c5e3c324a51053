-- The execution of an actor.
pub mod Executions
-- The history of a cell.
pub mod Histories
-- Executions that fit together, and their entries in one list.
pub mod Merging
-- An actor with all that it created, as a forest.
pub mod Forests
-- Entries in the order of their stamps.
pub mod Sorting
-- What holds of them.
pub mod Laws
-- The tags that an actor looks up in its cache, and the counts of the cache.
pub mod LookUps
-- What the log of an actor keeps of its entries.
pub mod KeptEntries
-- What a run on threads leaves, and the theorem.
pub mod Joining
-- The counts of the caches of all actors, read off the logs.
pub mod CacheLines
-- What an actor has done so far, as its thread comes to know it.
pub mod ActorProgresses
-- Histories as locked cells keep them.
pub mod Replaying
-- When histories agree with the journal, by what can be looked at.
pub mod Auditing
-- Every actor's entries in a run are a walk of it.
pub mod ActorWalks
