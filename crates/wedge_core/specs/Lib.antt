-- Runs in serial order: who takes the next turn, and what is kept of who lives.
pub mod Serial
