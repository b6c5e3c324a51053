-- Where the actor of a name is among actors, and an index that says so.
pub mod Indices
-- What a world keeps.
pub mod Progress
-- What the parts of a turn make of cells, actors and entries.
pub mod Turning
-- Schedules.
pub mod Replay
