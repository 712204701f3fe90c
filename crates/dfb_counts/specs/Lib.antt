-- The C interface of counted logs: what each function leaves, and how answers are told apart.
pub mod Calls
pub mod Claims
pub mod Private
