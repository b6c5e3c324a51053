-- Cells that are alike in one of them.
pub mod Alike
-- A turn of a world in which an actor is within its execution.
pub mod Turning
-- Executions that fit together are a run.
pub mod Merging
-- The actors that a walk creates.
pub mod Creations
-- The forest of the root holds executions that fit together.
pub mod Forests
-- The entries of executions in the order of their stamps are a merge of them.
pub mod Sorting
-- No turn comes after the root's end.
pub mod GoingOn
-- The journal of what a run on threads leaves is a complete run.
pub mod Joining
-- The counts in logs are for the entries of the journal.
pub mod CacheLines
-- What an actor did, as its thread came to know it, is a walk.
pub mod ActorProgresses
-- What the thread of an actor returns are the logs of a family.
pub mod Families
-- What an actor has left of its fuel, and its children, as it goes on.
pub mod Accounts
-- What a locked cell keeps is a legal history of it.
pub mod Replaying
-- When histories agree with the journal, by what can be looked at.
pub mod Auditing
-- Every actor's entries in a run are a walk of it.
pub mod ActorWalks
-- An actor waits only for a run that it created at its last stamp; and clocks never fall.
pub mod AwaitedRuns
-- Gates that an actor knows stay known, and whoever is about to enter a gate knows it.
pub mod KnownGates
