-- Numbers and samples in a packet.
pub mod Fields
pub mod BitFields
pub mod Samples
pub mod Claims
-- For the contracts of private functions only.
pub mod Private
