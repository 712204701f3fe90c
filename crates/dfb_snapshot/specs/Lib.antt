-- The C interface of snapshots: the header as numbers, and what each exported function does.
pub mod Header
pub mod Calls
pub mod Claims
