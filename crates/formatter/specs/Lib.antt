-- What the routines, the dispatch and the calls ask and promise.
pub mod KnownArms
pub mod RoutinePromises
pub mod Entry
