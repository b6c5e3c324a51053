-- The lines of actors that have ended, sorted by a stable sort, are those of the outcome.
pub mod Lines
