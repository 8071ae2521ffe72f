-- The laws that the crates above cite.
pub mod Match
pub mod Same
