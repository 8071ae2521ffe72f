-- From two calls to the masking rule.
pub mod Both
