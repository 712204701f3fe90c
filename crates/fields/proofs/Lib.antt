-- The laws that the proofs of several functions cite, and the theorems that other crates cite.
pub mod Numbers
pub mod BitFields
pub mod Pairs
pub mod Samples
pub mod Theorems
