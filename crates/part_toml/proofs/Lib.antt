-- An image is not smaller than its text and its data.
pub mod Large
-- The least of names, a name at a time.
pub mod Least
-- Values of an array, seen as tables.
pub mod Lists
-- Equates of numbered entries, an entry at a time.
pub mod Placed
-- Errors of the code, and the faults that they report.
pub mod Told
