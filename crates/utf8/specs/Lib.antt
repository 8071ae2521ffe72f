-- The definitions, in the order to read them.
pub mod Table
pub mod Pieces
pub mod WhiteSpace
pub mod Trim
pub mod Trimming
pub mod Parts
pub mod Samples
pub mod Steps
