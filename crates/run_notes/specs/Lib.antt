-- Chains of calls.
pub mod Chains
-- An actor at rest, as far as its next event is noted by it.
pub mod Doers
-- What is accessed.
pub mod Items
-- What is noted of an instruction and of an event.
pub mod Notes
-- The procedures of an image, by address.
pub mod Procedures
