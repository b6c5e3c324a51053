-- An actor on a thread: its progress, and whether it has stopped.
pub mod Runs
