-- The cells of a run: names, entries, the recycled gates that an actor knows, passes of declared tags; prefixes.
pub mod Entries
pub mod Names
pub mod Prefixes
pub mod RecycledGates
pub mod TagPasses
