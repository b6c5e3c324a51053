-- The accesses of a trace that sheets do not permit.
pub mod Violations
-- What is said of a violation.
pub mod Texts
-- What holds of violations.
pub mod Laws
