-- The laws that several functions cite, those of the totals and of the book, and the theorems.
pub mod Laws
pub mod Sums
pub mod Ready
pub mod Codes
pub mod History
pub mod Theorems
pub mod Cases
