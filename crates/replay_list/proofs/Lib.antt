-- The laws that the functions' proofs cite.
pub mod RecordLimits
pub mod Agreeing
pub mod Replaying
pub mod SmallLists
