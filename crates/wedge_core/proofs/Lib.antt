-- Runs in serial order.
pub mod LiveStack
-- One turn in serial order, and the end of it all.
pub mod SerialSteps
