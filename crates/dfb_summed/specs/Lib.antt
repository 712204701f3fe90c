-- The C interface of summed spectra: the state as numbers, and what the exported function does.
pub mod Calls
pub mod Claims
