-- How C sees answers that have no numbers of their own.
pub mod WordAnswer
