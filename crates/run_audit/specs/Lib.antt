-- The order of cells.
pub mod CellOrder
-- The entries of histories, as entries of the journal.
pub mod HistoryEntries
-- The cells that an audit compares: all but the slots of declared tags.
pub mod ComparedCells
-- The first difference between what cells kept and what actors logged.
pub mod Differences
-- That cells, and what is of them, are in an order.
pub mod Orders
-- The first difference between two lists of entries in the order of cells.
pub mod ListDifferences
-- The order of logs by the names of their actors.
pub mod LogOrder
-- The stream of a descriptor as the entries of its history leave it.
pub mod StreamsLeft
-- What an audit returns.
pub mod Audits
-- Entries with their indices among all.
pub mod IndexedEntries
-- The merge of two lists.
pub mod Merges
-- What it takes to move the entries that logs keep into a journal.
pub mod Rooms
-- The journal of a run, and the entries that its logs keep in memory.
pub mod RunJournals
