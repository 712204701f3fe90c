-- The C interface of space packets: what each exported function does.
pub mod Calls
pub mod Claims
