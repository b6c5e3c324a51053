-- The numbers of the service calls are small.
pub mod ServiceNumbers
-- Operands, by the first comma of a text.
pub mod Commas
-- Spaces and tabs at the end of a text.
pub mod Trims
-- A number that is cut off at a limit, a digit at a time.
pub mod Digits
-- The first position in a list at which a test passes.
pub mod Places
-- One more equate at the end of a list.
pub mod Equating
-- The numbers of the forms whose number is written as it is.
pub mod Allowed
-- The two passes over statements, a statement at a time.
pub mod Passes
-- Texts that stay as they are where a line is cut into pieces.
pub mod Plain
-- Texts of words and operands, cut into them again.
pub mod Pieces
-- The numbers that an instruction's text has, read back.
pub mod Numerals
-- The shapes of operands, from the operands that are read.
pub mod Shapes
-- The names of registers and operations, read back.
pub mod Names
-- The number that an instruction's text has is the one that the instruction is given.
pub mod Placing
-- The operands of an instruction's text, read back, form by form.
pub mod Reading
-- The text of an instruction is one line, and is assembled to its word.
pub mod ReadBack
-- A statement has as many words as it counts.
pub mod Counted
