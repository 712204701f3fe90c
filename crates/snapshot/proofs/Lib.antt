-- The laws that the proofs of several functions cite, and the theorems that other crates cite.
pub mod Packets
pub mod Buffers
pub mod Theorems
pub mod Cases
