-- What is asked carries the tag that lives in the slot.
pub mod Pairs
