-- The laws that the proofs of the routines, the dispatch and the calls cite.
pub mod Walks
pub mod KnownArms
pub mod RoutineLaws
pub mod Copied
pub mod Entries
