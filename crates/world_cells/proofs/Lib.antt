-- Indices of cells.
pub mod CellIndices
-- The actor at an index, and the first cell of a gate by its index.
pub mod GateIndices
