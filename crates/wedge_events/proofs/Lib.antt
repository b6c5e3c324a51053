pub mod SameEvents
