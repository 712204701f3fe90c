pub mod Bursts
pub mod Theorems
