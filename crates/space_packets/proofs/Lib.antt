-- The laws that the proofs of several functions cite, and the theorems that other crates cite.
pub mod Headers
pub mod Parts
pub mod Packets
pub mod Theorems
pub mod Cases
