-- The C interface of coarse totals.
pub mod Claims
