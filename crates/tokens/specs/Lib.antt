-- What the arms ask and promise.
pub mod TokenPromises
