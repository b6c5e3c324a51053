pub mod Fetching
pub mod BelowWindows
