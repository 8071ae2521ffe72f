-- What the customer is promised, demand by demand.
pub mod Demands
pub mod Requests
