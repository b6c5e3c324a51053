-- What a finished load leaves, by its operation.
pub mod Loads
