-- The laws that the functions' proofs cite.
pub mod Writing
pub mod HeaderReading
pub mod Printing
