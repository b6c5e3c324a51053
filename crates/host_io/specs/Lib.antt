pub mod Exposed
pub mod Counts
pub mod Memory
