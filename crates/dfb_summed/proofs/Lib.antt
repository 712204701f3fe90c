-- The laws that the function cites, and the theorems.
pub mod Calls
pub mod Theorems
