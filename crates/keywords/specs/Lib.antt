-- The list, what the walk and the word tests answer, and the rule over the list.
pub mod Names
pub mod Words
pub mod Walk
pub mod Table
pub mod Index
