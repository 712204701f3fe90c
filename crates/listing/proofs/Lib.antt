-- Laws that belong to no one function.
pub mod Putting
pub mod Digits
pub mod Registers
pub mod Spectra
pub mod Lines
pub mod Whole
pub mod Verdicts
pub mod Bound
pub mod Cases
