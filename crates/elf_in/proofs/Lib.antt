-- Reading the entries of a table one after another, as a loop does.
pub mod Tables
-- The first bytes of a name.
pub mod Zeros
-- The addresses and names of the procedures that were taken, as sets.
pub mod Taken
-- The bytes of loads, one by one.
pub mod LoadBytes
-- The procedures of a program.
pub mod Apart
-- Where no check fails, the text and the data have the bytes of their loads.
pub mod Keeps
-- How many bytes a program has.
pub mod Sizes
