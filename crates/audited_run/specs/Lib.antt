-- What a run of an image returns.
pub mod AuditedRuns
-- Where a run on threads differs, as text.
pub mod Texts
