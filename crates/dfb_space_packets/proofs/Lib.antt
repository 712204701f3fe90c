-- The laws that the proofs cite, and the claims.
pub mod Imports
pub mod Theorems
