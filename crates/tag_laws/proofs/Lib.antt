-- What of a list follows its permutations, and lists that can be in one order alone.
pub mod Permutations
-- The entries on a cell follow permutations.
pub mod OnCells
-- The entries on one of the first slots are among those on all of these.
pub mod OnDeclared
-- Once the cells are closed, the history of each has what the first pass entered there.
pub mod ClosedCells
-- A legal history that has just the logged entries on a slot is what the journal has of the slot.
pub mod SlotHistories
