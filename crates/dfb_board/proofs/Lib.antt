pub mod State
pub mod Calls
pub mod Fits
pub mod Theorems
pub mod Apart
