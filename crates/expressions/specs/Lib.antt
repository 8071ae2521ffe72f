-- What arms that several routines share do.
pub mod SharedArms
