-- A stored list of calls, in the order to read it.
pub mod Record
pub mod Agreement
pub mod Replay
pub mod Line
pub mod SmallLists
