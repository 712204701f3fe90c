-- The C interface of the interval: its answer as a number.
pub mod Interval
pub mod Claims
