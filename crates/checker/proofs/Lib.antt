pub mod Steps
pub mod Period
pub mod Rules
pub mod Faults
pub mod Theorems
pub mod Cases
