-- Words, their fields, and signed numbers.
pub mod Numbers
-- The instruction table, and the instruction that a word encodes.
pub mod Table
-- The table by the fields opcode, funct3 and funct7, as the decoder goes through it.
pub mod Fields
-- Which operands an instruction of a form may have.
pub mod Ranges
-- The word of an instruction.
pub mod Encoding
-- The assembler text of an instruction.
pub mod Text
