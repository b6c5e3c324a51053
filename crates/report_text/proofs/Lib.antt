-- texts that are cut at each byte of a kind
pub mod Cuts
-- decimal digits, and the number whose decimal form they are
pub mod Digits
-- names, part by part
pub mod Names
-- names and schedules, read back
pub mod Readings
