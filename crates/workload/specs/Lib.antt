-- Instructions by their mnemonics, and registers by their names.
pub mod Mnemonics
-- The workload of N workers, as an image.
pub mod Workload
