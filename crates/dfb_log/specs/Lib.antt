-- The C interface of the log: what append by a kind and a read as numbers do, and how answers are told apart.
pub mod Append
pub mod Read
pub mod Claims
