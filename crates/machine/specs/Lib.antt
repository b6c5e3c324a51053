-- The actors that an actor began and has not joined.
pub mod Children
-- Grants of copies of tags.
pub mod CopyGrant
-- The private copies with which actors begin.
pub mod Preparation
-- A gate that an actor is about to enter.
pub mod Entrance
-- Actors.
pub mod Actors
-- What a caller lends to the run of a gate that it enters.
pub mod Entering
-- Loads, stores and buffers.
pub mod Accesses
-- A file that an actor is opening.
pub mod Opening
-- The service calls.
pub mod Calls
-- The local step.
pub mod Local
-- The actor's part of a shared event.
pub mod Take
-- What holds of an actor outside its instructions, of what it wants, and of the events that it
-- takes.
pub mod Between
-- What an actor at rest wants, for which run it waits, or how it has ended.
pub mod Resting
-- The cells of a world, the event that comes of an ask, and what it makes of its cell.
pub mod Cells
-- The world, its turns and its runs.
pub mod Worlds
-- What a run ends with.
pub mod Outcomes
