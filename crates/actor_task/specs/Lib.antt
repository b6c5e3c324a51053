-- What runs of actors return, and what the thread of an actor has in hand.
pub mod Returning
pub mod States
pub mod Steps
pub mod Tasks
