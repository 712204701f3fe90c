pub mod Interval
pub mod Claims
