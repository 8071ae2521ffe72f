-- What two calls promise.
pub mod Both
