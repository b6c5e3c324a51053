-- The lines of refusals.
pub mod Lines
