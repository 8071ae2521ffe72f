-- The laws that the functions' proofs cite.
pub mod Opening
pub mod Telling
pub mod Walking
pub mod Stepping
pub mod Looping
pub mod Totals
pub mod WholeReport
pub mod SmallBooks
