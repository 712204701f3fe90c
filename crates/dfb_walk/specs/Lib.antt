-- The C interface of the log walk: what a call leaves, and what calls one after the other give.
pub mod Next
pub mod Calls
pub mod Claims
pub mod Private
