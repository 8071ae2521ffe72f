-- The laws that the functions' proofs and the crates above cite.
pub mod Noting
pub mod Counting
pub mod NotedSpots
pub mod Placing
pub mod SignedRoutines
pub mod PlaceOfToken
