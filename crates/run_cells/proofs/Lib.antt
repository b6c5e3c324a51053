-- What may go to other threads; entries that cells keep, the gates that an actor knows, histories, and entries on the
-- slots of declared tags.
pub mod Crossing
pub mod EntriesFit
pub mod Kept
pub mod LookingAt
pub mod OnDeclared
pub mod TagPasses
