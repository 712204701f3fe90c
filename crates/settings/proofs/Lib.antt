pub mod Settings
pub mod Theorems
