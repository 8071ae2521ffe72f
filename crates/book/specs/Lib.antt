-- A report over a book, in the order to read it.
pub mod Book
pub mod Told
pub mod Tally
pub mod Report
pub mod Totals
pub mod WholeReport
pub mod SmallBooks
pub mod Steps
