-- The progress of an actor on its thread.
pub mod Progressing
-- Entries of events that create, join and leave.
pub mod EntriesFit
-- Those that an actor created.
pub mod CreatedLists
-- The cells of the recycled gates that an actor knows.
pub mod GateCellsKnown
-- Its pass has entered its entries on the slots of declared tags.
pub mod Tracking
