-- There is no violation exactly where each record is permitted.
pub mod Permitted
