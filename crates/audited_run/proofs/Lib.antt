-- A complete run on threads is a journaled one.
pub mod Journaled
-- What an audit says of a run on threads.
pub mod Audits
