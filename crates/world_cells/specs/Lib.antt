-- Where the cell of a recycled gate is among the cells of gates.
pub mod GateIndices
