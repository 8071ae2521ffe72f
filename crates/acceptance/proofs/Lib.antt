-- From what the calls promise to the demands.
pub mod Demands
pub mod Requests
pub mod FirstBytes
pub mod Maps
pub mod Reports
