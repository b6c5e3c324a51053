-- Texts that are written.
pub mod Written
-- Which cause each status has.
pub mod Statuses
-- The schedule of a run, replayed over the image that was run, gives the report of the run.
pub mod Again
-- What the refusal of a link says of its files.
pub mod Links
-- What `run` ended with.
pub mod RunEnds
-- What `gen` ended with.
pub mod GenEnds
