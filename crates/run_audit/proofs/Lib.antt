-- Cells are in one order, and entries of one cell tie.
pub mod CellKeys
-- The entries of histories that are sorted by their cells.
pub mod KeptLists
-- The first difference between two lists of entries, each in the order of cells.
pub mod TwoLists
-- The derived equality of what slots reply decides whether two replies are the same.
pub mod SameReplies
-- The entries of a cell, counted; and lists that begin alike.
pub mod Counting
-- Where two lists of entries in the order of cells differ at their heads.
pub mod TwoHeads
-- Lists in the order of cells, from an index on.
pub mod Whole
-- The entries of histories, one history after another.
pub mod Histories
-- What the first difference of two lists says of histories and the journal.
pub mod Comparing
-- The histories of the slots of declared tags come before the others, and neither a comparison nor a stream reads them.
pub mod DeclaredHistories
-- What a comparison of all cells but the slots of declared tags says of all cells.
pub mod ComparedCells
-- All first differences are of one cell.
pub mod OneDifference
-- The logs of actors by name.
pub mod NamedLogs
-- The counts in logs, by the names of their actors.
pub mod CountedLogs
-- The lines of logs are those of actors that ended so.
pub mod LogLines
-- The stream of a descriptor as its history leaves it, by the entries of that history alone.
pub mod StreamsOver
-- An audit of whole executions and legal histories is a run.
pub mod Runs
-- Two lists in order, merged.
pub mod Merges
-- What logs keep of their entries is enough for a comparison.
pub mod KeptInLogs
-- Entries with their indices, sorted, merged, and taken by their indices.
pub mod IndexedEntries
-- The entries that are compared, put in order, are those of the journal.
pub mod ComparedOrder
-- The entries of a journal that are in its order, or still in logs.
pub mod RunJournals
