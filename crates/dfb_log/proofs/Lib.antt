pub mod Small
pub mod Append
pub mod Read
pub mod Theorems
