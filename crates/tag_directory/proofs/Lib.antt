pub mod Bounds
pub mod Changes
pub mod Numbers
pub mod Places
