pub mod Writing
pub mod Claims
-- For the contracts of private functions only.
pub mod Private
