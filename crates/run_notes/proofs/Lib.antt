-- The greatest of numbers that is not above one.
pub mod Greatest
-- An actor with its notes comes to rest step by step.
pub mod NotedRests
