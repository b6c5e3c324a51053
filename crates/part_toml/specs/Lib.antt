-- The keys of the tables of a partition.
pub mod Keys
-- What the value of a key is read as.
pub mod Values
-- What is wrong with the tables of a partition.
pub mod Faults
-- The parts of an image that the tables of a partition name.
pub mod Parts
-- The order of ranges is an order.
pub mod Orders
-- What a partition means.
pub mod Partition
-- What a partition means that is linked with an ELF file's program.
pub mod Joining
-- What the code's types stand for.
pub mod Views
