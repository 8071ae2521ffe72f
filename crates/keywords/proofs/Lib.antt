-- The laws that the proofs and the crates above cite.
pub mod Capitals
pub mod Flat
pub mod Places
pub mod Lookup
pub mod WalkLaws
pub mod Walked
pub mod Sorts
