-- The laws that the proofs and the crates above cite.
pub mod Tests
pub mod Rows
pub mod Cutting
pub mod Bounds
pub mod CharacterLength
pub mod AsciiStart
pub mod Places
pub mod Library
pub mod UnlessZero
pub mod Whole
pub mod WhiteSpaceBytes
pub mod LastWhiteSpace
pub mod Trimming
pub mod InCase
pub mod Samples
