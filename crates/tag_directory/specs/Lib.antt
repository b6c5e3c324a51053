pub mod Tables
pub mod Openings
pub mod Laws
