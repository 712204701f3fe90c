pub mod Counts
pub mod Claims
-- For the contracts of private functions only.
pub mod Private
