-- What the read of one of three files, and a check of them, says of why there is no text.
pub mod CheckCauses
-- The same of two files, and of a replay.
pub mod Replays
-- The same of an ELF file and a partition.
pub mod Links
