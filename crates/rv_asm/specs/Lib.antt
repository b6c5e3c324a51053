-- A text in pieces.
pub mod Lexing
-- Integers, as they are written.
pub mod Numbers
-- Registers, and the shapes of operands.
pub mod Operands
-- The statement of a line, in which names have no values yet.
pub mod Statements
-- From a line to its statement.
pub mod Parsing
-- What a text means.
pub mod Assembly
-- The values that the code's types stand for.
pub mod Views
-- Laws of the assembler.
pub mod Laws
-- The printed reasons.
pub mod Words
