-- The laws of counts that other crates cite.
pub mod Laws
pub mod Counting
pub mod Theorems
