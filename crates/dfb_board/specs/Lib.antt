-- The C interface of the board: the state as numbers, and what each exported function does.
pub mod State
pub mod Calls
pub mod Private
pub mod Claims
