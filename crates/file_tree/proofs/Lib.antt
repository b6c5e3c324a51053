pub mod Pieces
pub mod Walks
pub mod CanonicalPaths
-- what a binary search by path finds among files whose paths ascend
pub mod FileSearch
