-- Accesses of slots to which a running actor comes.
pub mod Reached
