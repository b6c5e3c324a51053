pub mod Wants
pub mod Slots
pub mod Histories
pub mod Streams
pub mod Directories
pub mod Lives
pub mod Gates
pub mod Journals
