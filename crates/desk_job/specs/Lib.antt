-- What is printed for a job, in the order to read it.
pub mod Written
pub mod Job
pub mod Puts
