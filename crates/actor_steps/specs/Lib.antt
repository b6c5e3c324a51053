-- The event that a step does and logs.
pub mod Logged
