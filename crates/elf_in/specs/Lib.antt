-- Numbers in the bytes of a file, little-endian, and tables of them.
pub mod Fields
-- Checks in order.
pub mod Steps
-- The tables of an ELF file.
pub mod Headers
-- The checks of an ELF file's headers, in order.
pub mod Checks
-- The symbols of an ELF file, and their names.
pub mod Symbols
-- The memory of loads.
pub mod Loads
-- The orders of loads and of candidates are orders.
pub mod Orders
-- The procedures of an ELF file.
pub mod Procedures
-- The program of an ELF file.
pub mod Program
-- The program of an ELF file, or its first fault.
pub mod Reading
-- The words for what may be wrong with an ELF file.
pub mod Words
-- What the code's types stand for.
pub mod Views
-- What the bytes of loads come to, byte by byte.
pub mod Laws
