pub mod Exponents
pub mod Rows
pub mod Laws
