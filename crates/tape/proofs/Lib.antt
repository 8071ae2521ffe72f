-- The laws that the proofs and the crates above cite.
pub mod KnownCommands
pub mod Trees
pub mod Reading
pub mod AddedBits
pub mod NotedFacts
pub mod SpanBounds
pub mod LengthAlone
pub mod AsciiTexts
pub mod Acceptance
pub mod CheckSteps
pub mod Skips
pub mod Order
pub mod Samples
pub mod ReadingLimits
