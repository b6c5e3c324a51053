pub mod Forms
pub mod Words
pub mod Encoding
pub mod Rules
pub mod Address
pub mod View
pub mod Reading
pub mod Fitting
