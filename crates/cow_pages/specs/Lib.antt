pub mod Below
pub mod Copies
pub mod Equality
pub mod Listed
pub mod PrivateMemory
pub mod RangeIndex
pub mod SharedPages
