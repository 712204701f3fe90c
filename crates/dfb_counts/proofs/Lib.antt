pub mod Calls
pub mod Theorems
