-- The leave of a recycled gate.
pub mod Leaving
-- How an actor goes on that learned how another ended.
pub mod Joins
