-- Notes as records of a trace.
pub mod Texts
-- The trace of a schedule.
pub mod Logs
-- Where in a run the accesses of its trace were made.
pub mod Marks
-- What a map of names says of an address.
pub mod Names
