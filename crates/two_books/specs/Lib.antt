-- Two books that differ only as the masking rule allows, and what two reports promise of them.
pub mod MaskedBooks
pub mod Both
pub mod WorkedBooks
pub mod BookNeeds
