-- The C interface of bands and codes: what is written to a list, and how answers are told apart.
pub mod Values
pub mod Claims
