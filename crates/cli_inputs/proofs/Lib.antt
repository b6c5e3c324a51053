-- Why the image of a file is not had, from why its bytes were not read or not accepted.
pub mod TooLong
-- From the answer of reading a partition to what is meant by its bytes.
pub mod Partitions
-- What is wrong with a trace's file.
pub mod TraceFaults
-- The image that a program and a partition are joined to, or why there is none.
pub mod Joined
-- The number of workers that an argument is.
pub mod Workers
-- The number of workers that arguments ask for is from 1 to 200.
pub mod FitWorkers
-- A run's own trace permits all of the run.
pub mod OwnTraces
