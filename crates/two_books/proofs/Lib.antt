-- From two reports to the masking rule for books.
pub mod MaskedAnswers
pub mod MaskedReports
pub mod WorkedBooks
pub mod BookNeeds
