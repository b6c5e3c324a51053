-- The table by masks and the table by fields have the same row for a word.
pub mod Bridge
-- Operands in range are those of a word.
pub mod Rebuilt
-- A word that has the fixed fields of an operation is an instruction of that operation.
pub mod Rows
-- A word is its fixed fields and its operands.
pub mod Words
