-- Gates that are known by their identities.
pub mod Gate
-- The sheet of a gate's run, read grant by grant.
pub mod Lending
