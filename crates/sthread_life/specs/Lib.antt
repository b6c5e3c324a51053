-- What an actor at a shared event wants.
pub mod Within
