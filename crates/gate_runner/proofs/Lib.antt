-- The root as a run begins.
pub mod Roots
-- The histories of the slots of declared tags.
pub mod RuledSlots
-- What an actor does with others is on no slot.
pub mod BesideSlots
-- What the thread of the root returned, and what the cells kept.
pub mod Gathered
-- Those that an actor created.
pub mod Adopting
-- What threads are given and return.
pub mod Crossing
