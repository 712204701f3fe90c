-- The C interface of the check: what it answers as a number, and how answers are told apart.
pub mod Answer
pub mod Claims
