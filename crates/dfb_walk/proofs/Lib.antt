pub mod Numbers
pub mod Narrowing
pub mod Rule
pub mod Theorems
pub mod Cases
