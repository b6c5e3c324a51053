-- What lies outside the program.
pub mod Outside
-- What the program ends with.
pub mod Ended
-- What the program answers to its arguments.
pub mod Causes
