pub mod Numbers
pub mod Outcomes
