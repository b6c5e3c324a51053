-- Entries by number.
pub mod ByNumber
-- Children by number.
pub mod FuelGiven
-- An ask of a stream fits wherever its descriptor is one.
pub mod StreamFits
-- The elements behind those that are dropped.
pub mod Dropping
-- The slots in which the tags of an actor were opened are below 4,096.
pub mod SlotsHeld
-- An actor at rest.
pub mod Resting
-- The files of an image ascend by their paths, as who looks one up asks.
pub mod FilesAscend
-- A draft without room for a grant is put back as it was, and its actor is refused.
pub mod PutBack
-- The call that makes a gate, whose draft is there.
pub mod GatesMade
-- The call that starts a child, whose draft is there and whose entry is a procedure.
pub mod Creating
-- The root directory of an image is a canonical path.
pub mod Canonical
