-- What an actor's phase says of it.
pub mod Phases
-- The tags that an actor looks up for its entries.
pub mod LookUps
-- An actor's sheet never changes, so its cache keeps the rights of it.
pub mod Caches
-- Actors that may have come to an access.
pub mod Coming
-- What a log keeps of one entry more.
pub mod KeptEntries
