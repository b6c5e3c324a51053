-- What a run on threads leaves, an actor that has come to its end, and what an event does in which another has part.
pub mod Endings
pub mod Gathering
pub mod Joints
