-- Visits: turns at the cells, and what the histories of the cells are of them.
pub mod Visits
-- What a pass knows, and what each call makes of it.
pub mod Passes
-- For the proof alone: the rule of the table, and what each step on it does.
pub mod Order
-- For the proof alone: the parts of one turn at a cell.
pub mod Enter
