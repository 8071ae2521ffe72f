-- The definitions, in the order to read them.
pub mod Kinds
pub mod Tree
pub mod Faults
pub mod Tape
pub mod ReadCommands
pub mod Call
pub mod SpelledAt
pub mod NodeFacts
pub mod ReadingInputs
