-- The laws that the proofs of several functions cite, and the theorems on sets that other crates cite.
pub mod Laws
pub mod Theorems
