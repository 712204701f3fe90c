pub mod Laws
pub mod Stored
pub mod Counts
pub mod Theorems
