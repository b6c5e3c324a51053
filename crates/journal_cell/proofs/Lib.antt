-- What a cell keeps after one more entry.
mod Histories
-- Which cells may go to another thread.
pub mod Crossing
