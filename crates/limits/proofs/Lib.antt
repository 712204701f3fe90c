pub mod Folds
pub mod Limiting
pub mod Laws
