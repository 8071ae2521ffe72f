-- The laws that the functions' proofs and the crates above cite.
pub mod Runs
pub mod Choices
