-- Histories of cells: entries, the states to which they lead, and the stamps; lists that only proofs read.
pub mod Histories
pub mod GhostLists
