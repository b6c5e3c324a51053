pub mod Sorting
pub mod ByName
