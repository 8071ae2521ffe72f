-- What several crates define by.
pub mod Match
pub mod Case
pub mod Bytes
